-- The best of all assignments is a least plan: every legal plan is the plan of an assignment, and every assignment was
-- tried. So no legal plan costs less than the best one found, and where none was found, no plan is legal.
use Rattle.std.proofs.Common.{◌≡◌, ℕ, ◌≤◌, false, true, List, [], subst}
use Rattle.std.proofs.lemmas.Bool.{both_ways}
use Rattle.tail_book.specs.Seen.{BookSeen}
use Rattle.tail_book.specs.Cost.{plan_cost}
use Rattle.tail_book.specs.Plan.{IsLegalPlan}
use Rattle.tail_book.specs.Lookup.{aircraft}
use Rattle.tail_book.specs.Fliers.{plan_by}
use Rattle.tail_book.specs.inside.Fliers.{FliersFly, PlansByFliersAreLegal, PlansOfTheirFliers}
use Rattle.tail_book.specs.inside.Sound.{IsBook}
use Rattle.tail_book.specs.Truth.{IsPlanOf, IsTrueOutcome}
use Rattle.tail_book.specs.declared.outcome.Outcome.TheVariants as outcome
use Rattle.plan_enumeration.specs.declared.enumerate.Best.{Best}
use Rattle.plan_enumeration.specs.inside.Enumeration.{HasTried, IsBest}
use Rattle.plan_enumeration.proofs.Fliers.{assignment_of, legal_plan_of}

module _ (fly : FliersFly) (again : PlansOfTheirFliers) (legal_by : PlansByFliersAreLegal) (book : BookSeen) (sound : IsBook book) (best : Best) (tried : HasTried book best []) where
  -- where a plan is legal, one was found that costs no more
  beaten : (plan : List (List ℕ)) → IsLegalPlan book plan → (best.found ≡ true) × (best.cost ≤ plan_cost book plan)
  beaten plan legal =
      let (who, assigned, same) = assignment_of fly again book sound plan legal in
      let (found, less) = tried who assigned in
      (found, subst (λ (p : List (List ℕ)). best.cost ≤ plan_cost book p) same less)

  pub none_is_legal : best.found ≡ false → IsTrueOutcome book outcome.Infeasible
  none_is_legal none = record { claim = λ plan legal. both_ways best.found none (beaten plan legal).0; plan = tt }

  pub best_is_least : best.found ≡ true → IsBest book best → IsTrueOutcome book (outcome.Optimal (plan_by best.fliers.items (aircraft book)) best.cost)
  best_is_least found h =
      let own : IsPlanOf book best.cost (plan_by best.fliers.items (aircraft book)) = record { legal = legal_plan_of legal_by book best.fliers.items (h.legal found); costs = h.cost found } in
      record { claim = ((plan_by best.fliers.items (aircraft book), own), λ plan legal. (beaten plan legal).1); plan = own }
