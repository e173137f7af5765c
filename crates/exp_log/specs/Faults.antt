-- When the weight of a logarithm is refused.
use Rattle.std.specs.Prelude.{◌≡◌, ℕ, map}
use Rattle.definitions.specs.Words.{up_to}
use Rattle.definitions.specs.Signature.{Fits}
use Rattle.definitions.specs.Logarithm.{log_bound}
use Rattle.exp_log.specs.declared.fault.LogFault.{LogFault}
use Rattle.exp_log.specs.declared.fault.LogFault.TheVariants.{Overflow, Memory}

-- a logarithm of this weight fits: the k-th power of the weight times the k-th bound is at most the limit, for each k up to the depth
abbrev pub LogFits : ℕ → ℕ → Type 0
LogFits weight depth = Fits (map log_bound (up_to depth)) weight

-- an overflow exactly where the weight does not fit, with that weight
abbrev pub IsRefusedBy : ℕ → ℕ → LogFault → Type 0
IsRefusedBy weight depth (Overflow w) = (w ≡ weight) × ¬ (LogFits weight depth)
IsRefusedBy weight depth Memory = LogFits weight depth
