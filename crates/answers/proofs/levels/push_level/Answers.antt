use Rattle.std.proofs.Common.{◌≡◌, ◌++◌, ◌∙◌, ℕ, ℤ, List, sym, ap, ap₂, append_assoc, pos, string_bytes, slice_index_or, codes}
use Rattle.std.specs.Fmt.{decimal}
use Rattle.definitions.specs.Words.{words_of, number, factorial}
use Rattle.scaled_tensor.specs.Tensors.{coefficient}
use Rattle.answers.proofs.LevelTexts.{for_words, numerator_text, words-same}
use Rattle.answers.proofs.levels.push_level.Goals as goal

pub returns : goal.returns
returns c =
    let line : List ℕ = codes "level " ++ decimal c.args.k ++ codes " over " ++ decimal (factorial c.args.k) in
    let kept : List ℕ → ℤ = λ word. slice_index_or c.level.result.now (number c.args.tensor.now.extent.width word) (pos 0) in
    let terms : List ℕ = for_words numerator_text (coefficient c.args.tensor.now) (words_of c.args.tensor.now.extent.width c.args.k) in
    let written : string_bytes c.push_head.new.text ≡ string_bytes c.args.text.now ++ (codes "level " ++ decimal c.args.k ++ codes " over " ++ decimal (factorial c.args.k)) = rw c.sig_den.ensures at c.in_ok-push_head.ensures in
    c.in_ok-push_str.ensures.bytes
    ∙ ap (λ (t : List ℕ). t ++ codes "\n") ((rw c.requires.words at c.in_ok-push_terms.ensures)
    ∙ ap₂ (λ (t : List ℕ) (ts : List ℕ). t ++ ts) written (words-same numerator_text c.args.tensor.now.extent kept (coefficient c.args.tensor.now) c.args.k c.requires.depth c.level.ensures.value))
    ∙ append_assoc (string_bytes c.args.text.now ++ line) terms (codes "\n")
    ∙ append_assoc (string_bytes c.args.text.now) line (terms ++ codes "\n")
    ∙ ap (λ (t : List ℕ). string_bytes c.args.text.now ++ t) (sym (append_assoc line terms (codes "\n")))
