use Rattle.std.proofs.Common.{◌≡◌, ◌++◌, ◌∙◌, ℕ, List, ap, ap₂, arith, rules, string_bytes, codes, length}
use Rattle.std.proofs.lemmas.Grind.{common_steps}
use Rattle.std.specs.Fmt.{decimal}
use Rattle.answers.proofs.TotalLaws.{counts_text, summary-due}
use Rattle.answers.proofs.summary.summary_of.Goals as goal

-- two texts, each from its parts, after one another
joined : (a b c d e f g h i j k l m n o : List ℕ) → (a ++ (b ++ (c ++ (d ++ (e ++ f))))) ++ (g ++ (h ++ (i ++ (j ++ (k ++ (l ++ (m ++ (n ++ o)))))))) ≡ a ++ b ++ c ++ d ++ e ++ f ++ g ++ h ++ i ++ j ++ k ++ l ++ m ++ n ++ o
joined a b c d e f g h i j k l m n o = grind (arith, common_steps)

pub returns : goal.returns
returns c =
    let n : ℕ = c.args.n in
    let versions : ℕ = c.len-versions.result in
    let made : versions ≡ length c.args.outcome.now.edits.items = search rules in
    let steps : c.len-steps.result ≡ length c.args.outcome.now.order.items = search rules in
    let counts : List ℕ = codes "\nhits " ++ (decimal c.totals_of-hits.result.hits ++ (codes "\nmisses " ++ (decimal c.totals_of-hits.result.misses ++ (codes "\nexps " ++ (decimal c.totals_of-hits.result.exps ++ (codes "\nsum " ++ (decimal c.totals_of-hits.result.sum ++ codes "\n"))))))) in
    let first : string_bytes c.write.new.self ≡ codes "gen " ++ (decimal n ++ (codes "\nsteps " ++ (decimal c.len-steps.result ++ (codes "\nversions " ++ decimal versions)))) = grind (arith, common_steps) in
    let second : string_bytes c.writeln.new.self ≡ string_bytes c.write.new.self ++ counts = c.in_ok-writeln.ensures.bytes in
    let items : c.into_bytes.result.items ≡ string_bytes c.writeln.new.self = search rules in
    let written = items ∙ second ∙ ap (λ (t : List ℕ). t ++ counts) first
    ∙ joined (codes "gen ") (decimal n) (codes "\nsteps ") (decimal c.len-steps.result) (codes "\nversions ") (decimal versions) (codes "\nhits ") (decimal c.totals_of-hits.result.hits) (codes "\nmisses ") (decimal c.totals_of-hits.result.misses) (codes "\nexps ") (decimal c.totals_of-hits.result.exps) (codes "\nsum ") (decimal c.totals_of-hits.result.sum) (codes "\n") in
    λ due is.
    written
    ∙ ap₂ (λ (s v : ℕ). counts_text n s v c.totals_of-hits.result.hits c.totals_of-hits.result.misses c.totals_of-hits.result.exps c.totals_of-hits.result.sum) steps made
    ∙ summary-due n c.args.shape c.args.outcome.now c.totals_of-hits.result due (rw c.deref.ensures.value at c.totals_of-hits.ensures) is
