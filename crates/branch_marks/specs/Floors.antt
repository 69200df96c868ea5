-- Floors: the least counter values with which an aircraft can come to an activity. A floor is taken counter by counter, so
-- no single route need have all its values: it may be too low, and never too high. For src/laws/consequences.rt.
use Rattle.std.specs.Prelude.{ℕ, ℤ, zero, suc, ◌+◌, List, [], ◌∷◌, ◌++◌, ◌&&◌, if◌then◌else◌, Option, Some, None, ◌≡◌, ◌<◌, length, slice_index_or}
use Rattle.std.specs.Int.{int_min}
use Rattle.tail_book.specs.Seen.{BookSeen}
use Rattle.tail_book.specs.declared.place.Place.{Place}
use Rattle.tail_book.specs.declared.place.Place.TheVariants.{Carry, After}
use Rattle.tail_book.specs.Lookup.{activities, aircraft, carry_of}
use Rattle.tail_book.specs.Counters.{step, WithinLimits}
use Rattle.tail_book.specs.CounterOrder.{EachAtMost}
use Rattle.tail_book.specs.inside.Sound.{IsBook}
use Rattle.tail_book.specs.LegalTests.{within_limits}
use Rattle.branch_marks.specs.declared.fact.Fact.{Fact}
use Rattle.branch_marks.specs.Marks.{IsUsable}
use Rattle.branch_marks.specs.MarkTests.{is_usable}

-- the lesser of each two values
abbrev pub lesser : List ℤ → List ℤ → List ℤ
lesser [] others = []
lesser (value ∷ values) [] = []
lesser (value ∷ values) (other ∷ others) = int_min value other ∷ lesser values others

-- the lesser of two floors, of which either may be missing
abbrev pub lesser_floor : Option (List ℤ) → Option (List ℤ) → Option (List ℤ)
lesser_floor None other = other
lesser_floor (Some values) None = Some values
lesser_floor (Some values) (Some others) = Some (lesser values others)

-- what the floor at x is after b, where the link is usable and the step stays within the limits
abbrev pub stepped_floor : BookSeen → List Fact → ℕ → Place → ℕ → Option (List ℤ) → Option (List ℤ)
stepped_floor book marks k x b None = None
stepped_floor book marks k x b (Some values) =
    if is_usable book marks k x b && within_limits book.rules.counters (step book k x b values) then Some (step book k x b values) else None

-- the least at b over the activities from x on, whose floors are listed
abbrev pub least_from : BookSeen → List Fact → ℕ → ℕ → ℕ → List (Option (List ℤ)) → Option (List ℤ)
least_from book marks k b x [] = None
least_from book marks k b x (floor ∷ floors) = lesser_floor (stepped_floor book marks k (After x) b floor) (least_from book marks k b (x + 1) floors)

-- the least at b over the carry-in and the activities before b, whose floors are listed
abbrev pub floor_by : BookSeen → List Fact → ℕ → ℕ → List (Option (List ℤ)) → Option (List ℤ)
floor_by book marks k b before = lesser_floor (stepped_floor book marks k Carry b (Some (carry_of book k))) (least_from book marks k b 0 before)

-- the floors of the activities below a number, each from those before it
abbrev pub floors_below : BookSeen → List Fact → ℕ → ℕ → List (Option (List ℤ))
floors_below book marks k zero = []
floors_below book marks k (suc b) = let before = floors_below book marks k b in before ++ floor_by book marks k b before ∷ []

-- the floors of aircraft k at all activities of the book: none where k cannot come
abbrev pub floors : BookSeen → List Fact → ℕ → List (Option (List ℤ))
floors book marks k = floors_below book marks k (activities book)

-- the floor of aircraft k at a place: the carry values at the carry-in
abbrev pub floor_at : BookSeen → List Fact → ℕ → Place → Option (List ℤ)
floor_at book marks k Carry = Some (carry_of book k)
floor_at book marks k (After x) = slice_index_or (floors book marks k) x None

-- a way to b: a usable link from a place with a floor, whose step stays within the limits
pub record IsWay (book : BookSeen) (marks : List Fact) (k : ℕ) (x : Place) (b : ℕ) (values : List ℤ) : Type 0 where
  pub usable : IsUsable book marks k x b
  pub floor : floor_at book marks k x ≡ Some values
  pub within : WithinLimits book.rules.counters (step book k x b values)

-- there is a floor for each activity of the book, or none
abbrev pub FloorsCount : Type 0
FloorsCount = (book : BookSeen) (marks : List Fact) (k : ℕ) → length (floors book marks k) ≡ activities book

-- where a way leads, there is a floor, at most what the way brings
abbrev pub FloorsAreLow : Type 0
FloorsAreLow = (book : BookSeen) → IsBook book → (marks : List Fact) (k : ℕ) → k < aircraft book
    → (x : Place) (b : ℕ) (values : List ℤ) → b < activities book → IsWay book marks k x b values
    → (low : List ℤ) × (floor_at book marks k (After b) ≡ Some low) × EachAtMost low (step book k x b values)
