-- What may be there, under a function.
use Rattle.std.proofs.Common.{◌≡◌, refl, Option, None, Some}
use Rattle.std.specs.Option.{option_map, is_some}

-- a function keeps whether something is there
pub is_some-map : {A B : Type 0} (f : A → B) (o : Option A) → is_some (option_map f o) ≡ is_some o
is_some-map f None = refl
is_some-map f (Some x) = refl
