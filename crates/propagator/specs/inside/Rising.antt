-- Floors never fall while marks grow: each further fact takes ways, and gives none.
-- For src/lowering.rt, src/due_floors.rt and others.
use Rattle.std.specs.Prelude.{ℕ, ℤ, ◌≡◌, ◌<◌, ◌++◌, List, Option, None, Some, if◌then◌else◌}
use Rattle.tail_book.specs.Seen.{BookSeen}
use Rattle.tail_book.specs.declared.place.Place.TheVariants.{After}
use Rattle.tail_book.specs.Lookup.{activities, aircraft}
use Rattle.tail_book.specs.CounterOrder.{EachAtMost}
use Rattle.tail_book.specs.inside.Sound.{IsBook}
use Rattle.branch_marks.specs.declared.fact.Fact.{Fact}
use Rattle.branch_marks.specs.MarkTests.{is_usable}
use Rattle.floor_rows.specs.inside.FloorRow.{FloorRowSeen, floor_in}
use Rattle.floor_rows.specs.inside.LeastOver.{brought, floor_of}

-- there is a floor, and each of its values is at most the one at its place
abbrev pub IsLowFor : Option (List ℤ) → List ℤ → Type 0
IsLowFor floor values = (low : List ℤ) × (floor ≡ Some low) × EachAtMost low values

-- where there is a floor with more facts, there was one before them, and it was no higher
abbrev pub FloorsRise : Type 0
FloorsRise = (book : BookSeen) → IsBook book → (marks more : List Fact) (k : ℕ) → k < aircraft book → (b : ℕ) → b < activities book
    → (values : List ℤ) → floor_of book (marks ++ more) k b ≡ Some values → IsLowFor (floor_of book marks k b) values

-- no floor in the row is higher than that of the marks
abbrev pub IsLowRow : BookSeen → List Fact → ℕ → FloorRowSeen → Type 0
IsLowRow book marks k row = (b : ℕ) → b < activities book → (low values : List ℤ) → floor_in row b ≡ Some low → floor_of book marks k b ≡ Some values
    → EachAtMost low values

-- what was copied are the values of the floor at b, if there is one
abbrev pub IsCopied : FloorRowSeen → ℕ → List ℤ → Type 0
IsCopied row b values = (low : List ℤ) → floor_in row b ≡ Some low → low ≡ values

-- whatever the marks, where aircraft k may use the link from x to b, x brings these values there by its floor in the row, and
-- else nothing
abbrev pub BringsWhereUsable : BookSeen → ℕ → ℕ → ℕ → FloorRowSeen → List ℤ → Type 0
BringsWhereUsable book k x b row values =
    (marks : List Fact) → brought book marks k b (floor_in row) x ≡ (if is_usable book marks k (After x) b then Some values else None)
