-- Marks with a hole, or with a stuck aircraft, hold of no legal plan: somebody flies each activity, and every route fits.
use Rattle.std.proofs.Common.{ℕ, ◌<◌, List}
use Rattle.tail_book.specs.Seen.{BookSeen}
use Rattle.tail_book.specs.declared.place.Place.TheVariants.{Carry}
use Rattle.tail_book.specs.Lookup.{aircraft}
use Rattle.tail_book.specs.Plan.{route_of}
use Rattle.tail_book.specs.inside.Rising.{EachIsFlownOnce}
use Rattle.tail_book.specs.inside.Sound.{IsBook}
use Rattle.branch_marks.specs.declared.fact.Fact.{Fact}
use Rattle.branch_marks.specs.DeadEnds.{IsHole, IsStuck, HasNoMarkedPlan}
use Rattle.branch_marks.specs.inside.Fitting.{MarkedRoutesFit}
use Rattle.branch_marks.proofs.AlongFloors.{alive_along}

pub hole_leaves_none : MarkedRoutesFit → EachIsFlownOnce → (book : BookSeen) → IsBook book → (marks : List Fact) (a : ℕ) → IsHole book marks a → HasNoMarkedPlan book marks
hole_leaves_none fit once book sound marks a hole plan legal hold =
    let (who, lt, flown, _) = once book plan legal a hole.of_book in
    hole.nobody who lt (alive_along book marks who Carry (route_of plan who) a (fit book sound marks plan legal hold who lt) flown)

pub stuck_leaves_none : MarkedRoutesFit → (book : BookSeen) → IsBook book → (marks : List Fact) (k : ℕ) → k < aircraft book → IsStuck book marks k → HasNoMarkedPlan book marks
stuck_leaves_none fit book sound marks k hk stuck plan legal hold = stuck (route_of plan k) (legal.routes k hk) (fit book sound marks plan legal hold k hk)
