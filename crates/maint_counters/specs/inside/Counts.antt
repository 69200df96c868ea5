-- How large the values of counters are: within their limits, as large as can be counted on, and after a step.
-- For src/step_table.rt, src/stepping.rt and others.
use Rattle.std.specs.Prelude.{ℕ, ℤ, pos, ◌+◌, ◌^◌, List, All}
use Rattle.tail_book.specs.declared.limits.TheConstants.{COUNT_LIMIT}
use Rattle.tail_book.specs.Ranges.{IsWithin}

-- no value is below 0 or above what any limit can be: 10,000 days in minutes
abbrev pub AreCounts : List ℤ → Type 0
AreCounts values = All (IsWithin (pos 0) COUNT_LIMIT) values

-- no value is below 0 or so large that it could not be counted on
abbrev pub AreCountable : List ℤ → Type 0
AreCountable values = All (IsWithin (pos 0) (pos (2 ^ 61))) values

-- values from 0 to m are, after a step, from 0 to m and as much as a step can add: the minutes of the calendar
abbrev pub GrowByAStep : List ℤ → List ℤ → Type 0
GrowByAStep old new = (m : ℕ) → All (IsWithin (pos 0) (pos m)) old → All (IsWithin (pos 0) (pos (m + 120_968_639))) new
