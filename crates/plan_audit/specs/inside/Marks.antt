-- Which numbers were met, as marks: one for each number, set where it was met. For MetNames.antt.
use Rattle.std.specs.Prelude.{ℕ, ◌<◌, ◌≡◌, List, Bool, false, length, slice_index_or}
use Rattle.tail_book.specs.Numbers.{contains}

-- the marks are set at the numbers of the list, and at no others
abbrev pub AreMarks : List Bool → List ℕ → Type 0
AreMarks marks met = (a : ℕ) → a < length marks → slice_index_or marks a false ≡ contains met a
