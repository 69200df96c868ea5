-- Taking in the predecessors of an activity b one by one. At each turn the floor is what stands at b, lowered to the
-- least of what those bring that are left. To take one in moves it from the right to the left, and lesser floors may be
-- taken in any order. What it brings is read off its own floor, which is right, as its number is smaller and only b is
-- written.
use Rattle.std.specs.Prelude.{◌≢◌, All}
use Rattle.std.proofs.Common.{◌≡◌, ◌∙◌, ℕ, ℤ, ◌<◌, ◌+◌, List, ◌∷◌, length, drop, get_or, ap, arith, subst, Option}
use Rattle.std.proofs.lemmas.List.{drop_more}
use Rattle.tail_book.specs.Seen.{BookSeen}
use Rattle.tail_book.specs.declared.place.Place.TheVariants.{After}
use Rattle.branch_marks.specs.declared.fact.Fact.{Fact}
use Rattle.branch_marks.specs.Floors.{lesser_floor, stepped_floor}
use Rattle.branch_marks.specs.inside.FloorLaws.{LesserInAnyOrder}
use Rattle.floor_rows.specs.inside.FloorRow.{FloorRowSeen, floor_in, IsSetAt}
use Rattle.floor_rows.specs.inside.LeastOver.{floor_of, least_over, brought}

-- what is there at b, lowered to what is left to take in, is the floor; the rest is as it was
pub record IsOnTheWay (book : BookSeen) (marks : List Fact) (k b : ℕ) (first row : FloorRowSeen) (left : List ℕ) : Type 0 where
  pub width : row.width ≡ first.width
  pub count : length row.floors ≡ length first.floors
  pub whole : lesser_floor (floor_in row b) (least_over (brought book marks k b (floor_of book marks k)) left) ≡ floor_of book marks k b
  pub others : (a : ℕ) → a ≢ b → floor_in row a ≡ floor_in first a

-- one predecessor is taken in
pub next_on_the_way : LesserInAnyOrder → (book : BookSeen) (marks : List Fact) (k b x : ℕ) (first row new : FloorRowSeen) (left : List ℕ) → x < b
    → ((a : ℕ) → a < b → floor_in first a ≡ floor_of book marks k a) → IsOnTheWay book marks k b first row (x ∷ left)
    → IsSetAt b (lesser_floor (floor_in row b) (brought book marks k b (floor_in row) x)) row new → IsOnTheWay book marks k b first new left
next_on_the_way order book marks k b x first row new left lt before way set = record {
  width = set.width ∙ way.width;
  count = set.count ∙ way.count;
  whole =
      ap (λ (f : Option (List ℤ)). lesser_floor f (least_over (brought book marks k b (floor_of book marks k)) left)) set.here
      ∙ (ap (λ (f : Option (List ℤ)). lesser_floor (lesser_floor (floor_in row b) (stepped_floor book marks k (After x) b f)) (least_over (brought book marks k b (floor_of book marks k)) left))
      (way.others x (omega (arith, lt)) ∙ before x lt)
      ∙ (order.grouped (floor_in row b) (brought book marks k b (floor_of book marks k) x) (least_over (brought book marks k b (floor_of book marks k)) left)
      ∙ way.whole));
  others = λ a ne. set.others a ne ∙ way.others a ne;
}

-- the next one stands at the front of those that are left
pub next_of : LesserInAnyOrder → (book : BookSeen) (marks : List Fact) (k b i : ℕ) (first row new : FloorRowSeen) (items : List ℕ) → i < length items → All (λ x. x < b) items
    → ((a : ℕ) → a < b → floor_in first a ≡ floor_of book marks k a) → IsOnTheWay book marks k b first row (drop i items)
    → IsSetAt b (lesser_floor (floor_in row b) (brought book marks k b (floor_in row) (get_or items i 0))) row new
    → IsOnTheWay book marks k b first new (drop (i + 1) items)
next_of order book marks k b i first row new items within all before way set =
    next_on_the_way order book marks k b (get_or items i 0) first row new (drop (i + 1) items) (all i 0 within) before
    (subst (λ (left : List ℕ). IsOnTheWay book marks k b first row left) (drop_more items i 0 within) way) set
