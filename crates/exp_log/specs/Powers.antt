-- The factors of powers in the logarithm.
use Rattle.std.specs.Prelude.{ℕ, ◌-◌, ◌/◌, ℤ, pos, ◌*ℤ◌}
use Rattle.definitions.specs.Logarithm.{sign, lcm_to}

-- the factor of the m-th power at words of k letters
abbrev pub log_factor : ℕ → ℕ → ℤ
log_factor m k = sign (m - 1) *ℤ pos (lcm_to k / m)
