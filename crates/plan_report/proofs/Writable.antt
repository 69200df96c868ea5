-- The plan of a true outcome can be written: a legal plan has a route for each aircraft, and the numbers of a legal
-- route rise and stay below the number of activities, so each is of the book.
use Rattle.std.proofs.Common.{◌≡◌, ℕ, zero, suc, ◌<◌, arith, List, [], ◌∷◌, length, get_or}
use Rattle.std.proofs.lemmas.List.{get_or_default}
use Rattle.tail_book.specs.Seen.{BookSeen}
use Rattle.tail_book.specs.declared.outcome.Outcome.TheVariants as outcome
use Rattle.tail_book.specs.declared.place.Place.{Place}
use Rattle.tail_book.specs.declared.place.Place.TheVariants.{Carry, After}
use Rattle.tail_book.specs.Lookup.{activities}
use Rattle.tail_book.specs.Plan.{route_of, IsLegalPlan}
use Rattle.tail_book.specs.inside.Rising.{IsRisingFrom, LegalRoutesRise}
use Rattle.tail_book.specs.inside.Sound.{IsBook}
use Rattle.plan_report.specs.inside.Laws.{TrueOutcomesCanBeWritten}
use Rattle.plan_report.specs.inside.Report.{IsPlanFor}

in_range : (n : ℕ) (x : Place) (route : List ℕ) → IsRisingFrom n x route → (i d : ℕ) → i < length route → get_or route i d < n
in_range n x [] rise i d lt = absurd (omega (arith, lt))
in_range n x (b ∷ rest) rise zero d lt = rise.1
in_range n x (b ∷ rest) rise (suc i) d lt = in_range n (After b) rest rise.2 i d (omega (arith, lt))

default_route : (plan : List (List ℕ)) (k : ℕ) (d : List ℕ) → k < length plan → get_or plan k d ≡ route_of plan k
default_route plan k d lt = get_or_default plan k d [] lt

plan_for : LegalRoutesRise → (book : BookSeen) → IsBook book → (plan : List (List ℕ)) → IsLegalPlan book plan → IsPlanFor book plan
plan_for rise book sound plan legal = record {
  one_each = legal.one_each;
  activities = λ k d lt. rw (default_route plan k d lt)
      (in_range (activities book) Carry (route_of plan k) (rise book sound k (route_of plan k) (legal.routes k (omega (arith, legal.one_each, lt)))));
}

pub can_be_written : LegalRoutesRise → TrueOutcomesCanBeWritten
can_be_written rise book sound (outcome.Optimal plan cost) h = plan_for rise book sound plan h.plan.legal
can_be_written rise book sound outcome.Infeasible h = tt
can_be_written rise book sound (outcome.Between plan low high nodes) h = plan_for rise book sound plan h.plan.legal
can_be_written rise book sound (outcome.Above low nodes) h = tt
