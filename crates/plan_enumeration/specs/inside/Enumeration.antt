-- The enumeration of who flies what: where it stands, and what the best assignment so far is better than.
-- For src/enumerate.rt.
use Rattle.std.specs.Prelude.{ℕ, ⊤, ℤ, pos, ◌+◌, ◌*◌, ◌≡◌, ◌<◌, ◌≤◌, ◌++◌, List, [], length, take, drop, All, IsTrue, slice_index_or, slice_set, ◌∷◌}
use Rattle.tail_book.specs.Seen.{BookSeen}
use Rattle.tail_book.specs.declared.place.Place.{Place}
use Rattle.tail_book.specs.declared.place.Place.TheVariants.{Carry, After}
use Rattle.tail_book.specs.declared.limits.TheConstants.{COUNT_LIMIT, LEG_COST_LIMIT}
use Rattle.tail_book.specs.Lookup.{activities, aircraft, carry_of}
use Rattle.tail_book.specs.Link.{IsLink}
use Rattle.tail_book.specs.Counters.{step, WithinLimits}
use Rattle.tail_book.specs.Fliers.{route_by}
use Rattle.tail_book.specs.inside.Route.{counters_after, place_after}
use Rattle.tail_book.specs.Cost.{activity_cost, connection_cost}
use Rattle.tail_book.specs.Ranges.{IsWithin}
use Rattle.plan_enumeration.specs.declared.enumerate.Trial.{Trial}
use Rattle.plan_enumeration.specs.declared.enumerate.Best.{Best}
use Rattle.plan_enumeration.specs.declared.enumerate.Advance.{Advance}
use Rattle.plan_enumeration.specs.inside.Assignment.{IsLegalSoFar, IsLegalAssignment, assignment_cost}

-- where aircraft k is after what it flies
abbrev pub end_of_route : ℕ → List ℕ → Place
end_of_route k who = place_after Carry (route_by who k)

-- the next activity, the one after those that are assigned, goes on legally from the route of aircraft k
pub record GoesOn (book : BookSeen) (who : List ℕ) (k : ℕ) : Type 0 where
  pub link : IsLink book k (end_of_route k who) (length who)
  pub limits : WithinLimits book.rules.counters (step book k (end_of_route k who) (length who) (counters_after book k (route_by who k)))

-- what the next activity costs aircraft k, with the connection to it
abbrev pub next_cost : BookSeen → List ℕ → ℕ → ℕ
next_cost book who k = activity_cost book k (length who) + connection_cost book k (end_of_route k who) (length who)

-- the counters after activity x, of rows of so many values each
abbrev pub row_of : ℕ → List ℤ → ℕ → List ℤ
row_of width values x = take width (drop (x * width) values)

-- the rows of values with one of them written anew
abbrev pub with_row : ℕ → List ℤ → ℕ → List ℤ → List ℤ
with_row width values x row = take (x * width) values ++ row ++ drop (x * width + width) values

-- a place before activity a; the carry-in is before each
abbrev pub IsPlaceBefore : ℕ → Place → Type 0
IsPlaceBefore a Carry = ⊤
IsPlaceBefore a (After x) = x < a

-- how many counters a book has
abbrev pub width_of : BookSeen → ℕ
width_of book = length book.rules.counters

-- the counters at a place: the carry values, or those of the activity's row
abbrev pub values_at : BookSeen → List ℤ → ℕ → Place → List ℤ
values_at book values k Carry = carry_of book k
values_at book values k (After x) = row_of (width_of book) values x

-- the row of a place lies within so many values
abbrev pub IsRowBefore : BookSeen → Place → ℕ → Type 0
IsRowBefore book Carry n = ⊤
IsRowBefore book (After x) n = x * width_of book + width_of book ≤ n

-- the least and the greatest value of a counter within its limit
abbrev pub IsCounterValue : ℤ → Type 0
IsCounterValue = IsWithin (pos 0) COUNT_LIMIT

-- the activities below a are assigned legally; each aircraft's place, and a row of counters for each activity below a, are kept
pub record IsTrial (book : BookSeen) (a : ℕ) (trial : Trial) : Type 0 where
  pub whole : length trial.fliers.items ≡ activities book
  pub one_place_each : length trial.places.items ≡ aircraft book
  pub one_row_each : length trial.values.items ≡ activities book * width_of book
  pub legal : IsLegalSoFar book (take a trial.fliers.items)
  pub standing : (k : ℕ) → k < aircraft book → slice_index_or trial.places.items k Carry ≡ end_of_route k (take a trial.fliers.items)
  pub counted : (k : ℕ) → k < aircraft book
      → values_at book trial.values.items k (end_of_route k (take a trial.fliers.items)) ≡ counters_after book k (route_by (take a trial.fliers.items) k)
  pub small : All IsCounterValue (take (a * width_of book) trial.values.items)

-- the counters of aircraft k after activity a, where it comes from that place
abbrev pub values_after : BookSeen → ℕ → ℕ → Place → List ℤ → List ℤ
values_after book a k from values = step book k from a (values_at book values k from)

-- the row of activity a has the counters of aircraft k after it, from that place, and the other rows are as they were
pub record HasRow (book : BookSeen) (a k : ℕ) (from : Place) (old new : Trial) : Type 0 where
  pub wide : length (values_after book a k from old.values.items) ≡ width_of book
  pub values : new.values.items ≡ with_row (width_of book) old.values.items a (values_after book a k from old.values.items)
  pub small : All IsCounterValue (values_after book a k from old.values.items)

-- two trials agree on the activities below a, and on where the aircraft are
pub record AgreesBelow (book : BookSeen) (a : ℕ) (old new : Trial) : Type 0 where
  pub fliers : take a new.fliers.items ≡ take a old.fliers.items
  pub places : new.places.items ≡ old.places.items
  pub values : take (a * width_of book) new.values.items ≡ take (a * width_of book) old.values.items

-- the best assignment, where one is found, is legal and has its cost
pub record IsBest (book : BookSeen) (best : Best) : Type 0 where
  pub whole : length best.fliers.items ≡ activities book
  pub legal : IsTrue best.found → IsLegalAssignment book best.fliers.items
  pub cost : IsTrue best.found → assignment_cost book best.fliers.items ≡ best.cost

-- an assignment is no better: where it is legal, one is found that costs no more
abbrev pub IsNoBetter : BookSeen → Best → List ℕ → Type 0
IsNoBetter book best who = IsLegalAssignment book who → IsTrue best.found × (best.cost ≤ assignment_cost book who)

-- what was no better than the old best is no better than the new one
abbrev pub KeepsBest : BookSeen → Best → Best → Type 0
KeepsBest book old new = (who : List ℕ) → IsNoBetter book old who → IsNoBetter book new who

-- no assignment that begins so is better
abbrev pub HasTried : BookSeen → Best → List ℕ → Type 0
HasTried book best front = (rest : List ℕ) → IsNoBetter book best (front ++ rest)

-- aircraft k flies activity a, the next one, from where it was, and what that costs
pub record Advances (book : BookSeen) (a k : ℕ) (old new : Trial) (advance : Advance) : Type 0 where
  pub goes : GoesOn book (take a old.fliers.items) k
  pub trial : IsTrial book (a + 1) new
  pub fliers : take (a + 1) new.fliers.items ≡ take a old.fliers.items ++ k ∷ []
  pub front : take a new.fliers.items ≡ take a old.fliers.items
  pub values : take (a * width_of book) new.values.items ≡ take (a * width_of book) old.values.items
  pub places : new.places.items ≡ slice_set old.places.items k (After a)
  pub from : advance.from ≡ slice_index_or old.places.items k Carry
  pub cost : advance.cost ≡ next_cost book (take a old.fliers.items) k
  pub most : advance.cost ≤ LEG_COST_LIMIT
