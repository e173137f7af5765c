use Rattle.std.proofs.Common.{◌∙◌, ℕ, ap, append_assoc, Vec, Global}
use Rattle.rough_main.proofs.fault_text.line_text.Goals as goal

pub returns : goal.returns
returns c =
    simp append_assoc (ap (λ (v : Vec ℕ Global). v.items) c.into_bytes.ensures.value ∙ simp (append_assoc, c.reason_name-name.ensures) at c.in_ok-format.ensures.ok)
