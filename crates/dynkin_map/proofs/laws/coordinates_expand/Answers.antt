use Rattle.dynkin_map.proofs.DynkinTheorem.{coordinates-theorem}
use Rattle.dynkin_map.proofs.laws.coordinates_expand.Goals as goal

pub returns : goal.returns
returns c = λ extent series word is_word some vanishes. coordinates-theorem extent series word some is_word.short is_word.letters vanishes
