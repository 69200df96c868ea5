-- How much a link adds to a weight by the book's own costs, in thousandths of a cost unit: two million cost units, a dual, and the
-- fees of fifty quotas at most. Four thousand times that is below 2^61. For src/arc.rt and src/laws.rt.
use Rattle.std.specs.Prelude.{ℕ, ℤ, pos, ◌-ℤ◌, ◌<◌}
use Rattle.tail_book.specs.declared.place.Place.{Place}
use Rattle.tail_book.specs.Ranges.{IsWithin}

-- a fee is at most the end of the box of a book of four thousand activities
abbrev pub IsFairFee : ℤ → Type 0
IsFairFee fee = IsWithin (pos 0) (pos 8000000001000) fee

-- and so fifty of them are together at most fifty times that
abbrev pub IsFairSum : ℤ → Type 0
IsFairSum fees = IsWithin (pos 0) (pos 400000000050000) fees

-- a link adds or takes no more than that with a dual and two million cost units
abbrev pub IsFair : ℤ → Type 0
IsFair arc = IsWithin (pos 0 -ℤ pos 408002000051000) (pos 408002000051000) arc

-- and so does each link to an activity below n
abbrev pub AreFair : (Place → ℕ → ℤ) → ℕ → Type 0
AreFair arc n = (x : Place) (b : ℕ) → b < n → IsFair (arc x b)
