use Rattle.std.proofs.Common.{◌≤◌, ◌-ℤ◌, ◌*◌, ◌^◌, ◌∙◌, ap, sym, subst, ℕ, ℤ, unsigned_abs}
use Rattle.definitions.specs.Words.{Extent, IsWord}
use Rattle.definitions.specs.Signature.{limit}
use Rattle.definitions.specs.Logarithm.{logarithm, log_bound}
use Rattle.scaled_tensor.specs.Tensors.{coefficient}
use Rattle.exp_log.specs.Faults.{LogFits}
use Rattle.piecewise.proofs.Rooms.{fits-log, fits-log_at, logarithm-within, difference-fits}
use Rattle.piecewise.proofs.unfolding.left_of.Goals as goal

pub log_series-requires-clause-fits : goal.log_series-requires-clause-fits
log_series-requires-clause-fits c =
    subst (λ (e : Extent). LogFits c.args.weight e.depth) (sym c.requires.same) (fits-log c.args.weight c.args.log.now.extent.depth c.requires.fits)

pub write_differences-requires-clause-room : goal.write_differences-requires-clause-room
write_differences-requires-clause-room c = λ word is_word len.
    let known_word : IsWord c.args.known.now.extent word = subst (λ (e : Extent). IsWord e word) (sym c.requires.same) is_word in
    let n : ℕ = c.args.weight ^ c.args.k * log_bound c.args.k in
    let second : unsigned_abs (logarithm (coefficient c.args.known.now) word) ≤ n =
    subst (λ (i : ℕ). unsigned_abs (logarithm (coefficient c.args.known.now) word) ≤ c.args.weight ^ i * log_bound i) len (logarithm-within c.args.known.now c.args.weight word c.requires.bounded known_word) in
    subst (λ (z : ℤ). unsigned_abs (coefficient c.args.log.now word -ℤ z) ≤ limit) (sym (c.in_ok-below.ensures.values word known_word))
    (difference-fits (coefficient c.args.log.now word) (logarithm (coefficient c.args.known.now) word) n (c.requires.within word is_word len) second
    (fits-log_at c.args.weight c.args.log.now.extent.depth c.args.k c.requires.fits c.requires.some c.requires.k))

pub returns-clause-level : goal.returns-clause-level
returns-clause-level c = λ word is_word len.
    c.write_differences.ensures.level word is_word len
    ∙ ap (λ (z : ℤ). coefficient c.args.log.now word -ℤ z) (c.in_ok-below.ensures.values word (subst (λ (e : Extent). IsWord e word) (sym c.requires.same) is_word))
