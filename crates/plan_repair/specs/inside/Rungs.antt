-- Plans of least cost with each move raised by so much, and when one of them is a least repair. For src/rungs.rt.
use Rattle.std.specs.Prelude.{ℕ, ◌+◌, ◌*◌, ◌≡◌, ◌≤◌, List, Option, None, Some}
use Rattle.tail_book.specs.declared.limits.TheConstants.{LEG_COST_LIMIT}
use Rattle.tail_book.specs.Seen.{BookSeen}
use Rattle.tail_book.specs.Lookup.{activities}
use Rattle.tail_book.specs.Plan.{IsLegalPlan}
use Rattle.tail_book.specs.Cost.{plan_cost}
use Rattle.tail_book.specs.Truth.{HasNoPlan}
use Rattle.tail_book.specs.inside.Sound.{IsBook}
use Rattle.plan_homes.specs.Moves.{moves}
use Rattle.plan_repair.specs.LeastRepair.{IsLeastRepair}
use Rattle.plan_repair.specs.declared.rungs.Priced.{Priced}
use Rattle.plan_repair.specs.inside.Found.{MovesAtLeast}

-- the cost of a plan with each move raised by so much
abbrev pub raised_plan_cost : BookSeen → List (Option ℕ) → ℕ → List (List ℕ) → ℕ
raised_plan_cost book homes raise plan = plan_cost book plan + raise * moves homes plan

-- a legal plan of which that is least
pub record IsLeastAt (book : BookSeen) (homes : List (Option ℕ)) (raise : ℕ) (plan : List (List ℕ)) : Type 0 where
  pub legal : IsLegalPlan book plan
  pub least : (other : List (List ℕ)) → IsLegalPlan book other → raised_plan_cost book homes raise plan ≤ raised_plan_cost book homes raise other

-- one more than any legal plan costs
abbrev pub highest : BookSeen → ℕ
highest book = LEG_COST_LIMIT * activities book + 1

-- a plan that costs least with its moves raised, whose moves are the fewest, is a least repair, by however much they are raised
abbrev pub LeastOfFewestIsRepair : Type 0
LeastOfFewestIsRepair = (book : BookSeen) (homes : List (Option ℕ)) (raise : ℕ) (plan : List (List ℕ))
    → IsLeastAt book homes raise plan → MovesAtLeast book homes (moves homes plan) → IsLeastRepair book homes plan

-- raised by the highest amount, or by more, a plan that costs least has the fewest moves
abbrev pub HighestIsFewest : Type 0
HighestIsFewest = (book : BookSeen) (homes : List (Option ℕ)) (raise : ℕ) (plan : List (List ℕ)) → IsBook book → highest book ≤ raise
    → IsLeastAt book homes raise plan → MovesAtLeast book homes (moves homes plan)

-- the plan is one that costs least, with its moves and its cost
pub record IsPricedAt (book : BookSeen) (homes : List (Option ℕ)) (raise : ℕ) (found : Priced) : Type 0 where
  pub least : IsLeastAt book homes raise found.plan
  pub count : found.moves ≡ moves homes found.plan
  pub cost : found.cost ≡ plan_cost book found.plan

-- such a plan was found, or no plan is legal
abbrev pub IsFoundAt : BookSeen → List (Option ℕ) → ℕ → Option Priced → Type 0
IsFoundAt book homes raise None = HasNoPlan book
IsFoundAt book homes raise (Some found) = IsPricedAt book homes raise found

-- the plan is a least repair, with its moves and its cost
pub record IsRepaired (book : BookSeen) (homes : List (Option ℕ)) (found : Priced) : Type 0 where
  pub least : IsLeastRepair book homes found.plan
  pub count : found.moves ≡ moves homes found.plan
  pub cost : found.cost ≡ plan_cost book found.plan
