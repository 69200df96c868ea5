-- The ends of a family that are those of routes: none is lighter than what every route weighs at least, and none is there
-- where the aircraft is stuck. At the carry-in the route without an activity ends, which weighs 0.
use Rattle.std.proofs.Common.{ℕ, ℤ, ◌≤ℤ◌, List, [], subst}
use Rattle.tail_book.specs.Seen.{BookSeen}
use Rattle.tail_book.specs.TableSeen.{CostTableSeen}
use Rattle.branch_marks.specs.declared.fact.Fact.{Fact}
use Rattle.branch_marks.specs.DeadEnds.{IsStuck}
use Rattle.branch_marks.specs.Families.{EndsAtLeast, HasNoEnd}
use Rattle.branch_marks.specs.Labels.{Label}
use Rattle.branch_marks.specs.Weights.{WeighsAtLeast}
use Rattle.branch_marks.specs.inside.WholeFamilies.{AreEndsOfRoutes}

module _ (table : CostTableSeen) (book : BookSeen) (marks : List Fact) (k : ℕ) (duals : List ℤ) (family : List Label)
    (ends : AreEndsOfRoutes table book marks k duals family) where
  pub low_ends : (low : ℤ) → WeighsAtLeast table book marks k duals low → EndsAtLeast marks k family low
  low_ends low least = record {
    first = λ may. least [] tt may;
    members = λ i label less may. let (route, is) = ends i label less may in subst (λ (w : ℤ). low ≤ℤ w) is.weighs (least route is.legal is.fits);
  }

  pub no_ends : IsStuck book marks k → HasNoEnd marks k family
  no_ends stuck = record {
    first = λ may. stuck [] tt may;
    members = λ i label less may. let (route, is) = ends i label less may in stuck route is.legal is.fits;
  }
