-- Who may come next after an activity, as far as Ties tell.
use Rattle.std.specs.Prelude.{◌≡◌, ℕ, ◌<◌, List, [], ◌∷◌, if◌then◌else◌, length, slice_index_or}
use Rattle.tail_book.specs.Seen.{BookSeen}
use Rattle.tail_book.specs.declared.place.Place.TheVariants.{After}
use Rattle.tail_book.specs.Lookup.{activities}
use Rattle.tail_book.specs.Numbers.{contains}
use Rattle.branch_marks.specs.declared.fact.Fact.{Fact}
use Rattle.branch_marks.specs.Marks.{IsUsable}

-- each of these is of the book and behind x, and whatever is usable behind x is among them
pub record AreFollowers (book : BookSeen) (marks : List Fact) (k x : ℕ) (next : List ℕ) : Type 0 where
  pub each : (i : ℕ) → i < length next → (slice_index_or next i 0 < activities book) × (x < slice_index_or next i 0)
  pub all : (b : ℕ) → IsUsable book marks k (After x) b → (q : ℕ) × (q < length next) × (slice_index_or next q 0 ≡ b)

-- b alone, if the list has it
abbrev pub only : List ℕ → ℕ → List ℕ
only next b = if contains next b then b ∷ [] else []
