-- The years of which there are changes.
use Rattle.std.specs.Prelude.{ℕ}
use Rattle.std.specs.Int.{IsInRange}

-- a year from 1969 to 2200
abbrev pub IsChangeYear : ℕ → Type 0
IsChangeYear year = IsInRange 1969 2200 year
