use Rattle.std.proofs.Common.{◌≡◌, ◌++◌, ◌∷◌, [], ◌∙◌, ℕ, List, ap, ap₂, sym, subst, arith, rules, length, length-append}
use Rattle.lie_bracket.specs.declared.term.Term.{Term}
use Rattle.dynkin_map.specs.Rows.{rows_from, AreEnds}
use Rattle.dynkin_map.proofs.RowLaws.{ends-more, rows-more}
use Rattle.dynkin_map.proofs.rows.push_row.Goals as goal

pub returns-clause-ends : goal.returns-clause-ends
returns-clause-ends c =
    let terms : c.extend_from_slice.new.self.items ≡ c.args.terms.now.items ++ c.args.row.now = search rules in
    let ends : c.push.new.self.items ≡ c.args.ends.now.items ++ c.len.result ∷ [] = search rules in
    let total : c.len.result ≡ length c.extend_from_slice.new.self.items = search rules in
    subst (λ (xs : List ℕ). AreEnds 0 xs (length c.extend_from_slice.new.self.items)) (sym ends)
    (subst (λ (n : ℕ). AreEnds 0 (c.args.ends.now.items ++ c.len.result ∷ []) n) total
    (ends-more 0 c.args.ends.now.items (length c.args.terms.now.items) c.len.result (omega (arith, total, ap length terms, length-append c.args.terms.now.items c.args.row.now)) c.requires.ends))

pub returns-clause-pushed : goal.returns-clause-pushed
returns-clause-pushed c =
    let terms : c.extend_from_slice.new.self.items ≡ c.args.terms.now.items ++ c.args.row.now = search rules in
    let ends : c.push.new.self.items ≡ c.args.ends.now.items ++ c.len.result ∷ [] = search rules in
    let total : c.len.result ≡ length c.extend_from_slice.new.self.items = search rules in
    ap₂ (λ (ts : List Term) (es : List ℕ). rows_from ts 0 es) terms ends
    ∙ rows-more 0 c.args.ends.now.items c.args.terms.now.items c.args.row.now c.len.result c.requires.ends (total ∙ ap length terms ∙ length-append c.args.terms.now.items c.args.row.now)
