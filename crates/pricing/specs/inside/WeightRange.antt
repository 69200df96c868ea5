-- How large weights are. For src/step.rt, src/fill.rt and others.
use Rattle.std.specs.Prelude.{ℤ, pos, ◌-ℤ◌, ◌^◌}
use Rattle.tail_book.specs.Ranges.{IsWithin}

-- the weight of a route lies within 2^61 of 0
abbrev pub IsSmall : ℤ → Type 0
IsSmall w = IsWithin (pos 0 -ℤ pos (2 ^ 61)) (pos (2 ^ 61)) w

-- and a sum of two of them within 2^62
abbrev pub IsBroad : ℤ → Type 0
IsBroad w = IsWithin (pos 0 -ℤ pos (2 ^ 62)) (pos (2 ^ 62)) w
