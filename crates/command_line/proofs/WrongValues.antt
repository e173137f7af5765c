-- Values that are wrong at every option.
use Rattle.std.proofs.Common.{◌≡◌, ℕ, List, [], ◌∷◌, None, refl}
use Rattle.spellings.specs.Lines.{onto_first}
use Rattle.command_line.specs.declared.setting.Valued.{Valued}
use Rattle.command_line.specs.declared.setting.Valued.TheVariants.{Order, Cache, Gen}
use Rattle.command_line.specs.Values.{pieces_of, sessions_in}
use Rattle.command_line.specs.Settings.{setting_at}

-- an empty value
pub empty_is_wrong : (name : Valued) → setting_at name [] ≡ None
empty_is_wrong Order = refl
empty_is_wrong Cache = refl
empty_is_wrong Gen = refl

-- a first piece that begins with a minus sign
minus_is_no_session : (pieces : List (List ℕ)) → sessions_in (onto_first 45 pieces) ≡ None
minus_is_no_session [] = refl
minus_is_no_session (piece ∷ pieces) = refl

-- a value that begins with a minus sign
pub minus_is_wrong : (name : Valued) (value : List ℕ) → setting_at name (45 ∷ value) ≡ None
minus_is_wrong Order value = rw (minus_is_no_session (pieces_of value)) refl
minus_is_wrong Cache value = refl
minus_is_wrong Gen value = refl
