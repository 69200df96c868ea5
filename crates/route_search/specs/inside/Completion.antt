-- What can still come behind a place to an end that the marks allow, counters aside, and the least that it weighs.
use Rattle.std.specs.Prelude.{◌≡◌, ℕ, ℤ, ◌+ℤ◌, ◌<◌, ◌≤◌, ◌≤ℤ◌, ⊤, List, [], ◌∷◌, length, Option, None, Some, slice_index_or}
use Rattle.std.specs.Int.{int_min}
use Rattle.tail_book.specs.Seen.{BookSeen}
use Rattle.tail_book.specs.TableSeen.{CostTableSeen}
use Rattle.tail_book.specs.declared.place.Place.{Place}
use Rattle.tail_book.specs.declared.place.Place.TheVariants.{After}
use Rattle.tail_book.specs.Lookup.{activities}
use Rattle.branch_marks.specs.declared.fact.Fact.{Fact}
use Rattle.branch_marks.specs.Marks.{IsAlive, IsUsable, FitsFrom}
use Rattle.branch_marks.specs.Weights.{arc_weight, weight_from}
use Rattle.route_search.specs.declared.completion.Way.{Way}

-- the rest begins with one of the first i of these activities, or is empty
abbrev pub BeginsAmong : List ℕ → ℕ → List ℕ → Type 0
BeginsAmong firsts i [] = ⊤
BeginsAmong firsts i (b ∷ rest) = (q : ℕ) × (q < i) × (slice_index_or firsts q 0 ≡ b)

-- a rest from x on that fits weighs this
pub record IsAttained (table : CostTableSeen) (book : BookSeen) (marks : List Fact) (k : ℕ) (duals : List ℤ) (x : Place) (low : ℤ) : Type 0 where
  pub rest : List ℕ
  pub fits : FitsFrom book marks k x rest
  pub weighs : weight_from table book k duals x rest ≡ low

-- of the rests from x on that fit and begin so, this is the least weight; or there is none
abbrev pub IsLeastAmong : CostTableSeen → BookSeen → List Fact → ℕ → List ℤ → Place → List ℕ → ℕ → Option ℤ → Type 0
IsLeastAmong table book marks k duals x firsts i None = (rest : List ℕ) → BeginsAmong firsts i rest → ¬ FitsFrom book marks k x rest
IsLeastAmong table book marks k duals x firsts i (Some low) =
    ((rest : List ℕ) → BeginsAmong firsts i rest → FitsFrom book marks k x rest → low ≤ℤ weight_from table book k duals x rest)
    × IsAttained table book marks k duals x low

-- of all rests from x on that fit this is the least weight; or there is none
abbrev pub IsCompletion : CostTableSeen → BookSeen → List Fact → ℕ → List ℤ → Place → Option ℤ → Type 0
IsCompletion table book marks k duals x None = (rest : List ℕ) → ¬ FitsFrom book marks k x rest
IsCompletion table book marks k duals x (Some low) =
    ((rest : List ℕ) → FitsFrom book marks k x rest → low ≤ℤ weight_from table book k duals x rest) × IsAttained table book marks k duals x low

-- and that behind an activity which is alive
abbrev pub IsBehind : CostTableSeen → BookSeen → List Fact → ℕ → List ℤ → ℕ → Option ℤ → Type 0
IsBehind table book marks k duals a low = IsAlive book marks k a → IsCompletion table book marks k duals (After a) low

-- the list has it for each activity from number n on
abbrev pub AreBehindFrom : CostTableSeen → BookSeen → List Fact → ℕ → List ℤ → ℕ → List (Option ℤ) → Type 0
AreBehindFrom table book marks k duals n behind =
    (a : ℕ) → n ≤ a → a < activities book → IsBehind table book marks k duals a (slice_index_or behind a None)

-- the list has it for each activity
pub record AreBehind (table : CostTableSeen) (book : BookSeen) (marks : List Fact) (k : ℕ) (duals : List ℤ) (behind : List (Option ℤ)) : Type 0 where
  pub one_each : length behind ≡ activities book
  pub each : AreBehindFrom table book marks k duals 0 behind

-- the link from x to b is usable, b adds this after x, and with it what comes from b on weighs at least so much, which some rest does
pub record IsWay (table : CostTableSeen) (book : BookSeen) (marks : List Fact) (k : ℕ) (duals : List ℤ) (x : Place) (b : ℕ) (way : Way) : Type 0 where
  pub usable : IsUsable book marks k x b
  pub arc : way.arc ≡ arc_weight table book k duals x b
  pub least : (rest : List ℕ) → FitsFrom book marks k (After b) rest
      → way.least ≤ℤ (arc_weight table book k duals x b +ℤ weight_from table book k duals (After b) rest)
  pub attained : IsAttained table book marks k duals x way.least

-- so it is, or no rest from x on that begins with b fits
abbrev pub IsWayOrNone : CostTableSeen → BookSeen → List Fact → ℕ → List ℤ → Place → ℕ → Option Way → Type 0
IsWayOrNone table book marks k duals x b None = (rest : List ℕ) → ¬ FitsFrom book marks k x (b ∷ rest)
IsWayOrNone table book marks k duals x b (Some way) = IsWay table book marks k duals x b way

-- the lesser of two weights, of which either may be missing
abbrev pub lesser_weight : Option ℤ → Option ℤ → Option ℤ
lesser_weight None other = other
lesser_weight (Some low) None = Some low
lesser_weight (Some low) (Some other) = Some (int_min low other)

-- both are there, and with what an activity adds the least weight behind it is no less than the least so far
abbrev pub IsNoLess : ℤ → Option ℤ → Option ℤ → Type 0
IsNoLess added None least = ⊥
IsNoLess added (Some rest) None = ⊥
IsNoLess added (Some rest) (Some low) = low ≤ℤ (added +ℤ rest)

-- the least through an activity
abbrev pub least_of : Option Way → Option ℤ
least_of None = None
least_of (Some way) = Some way.least
