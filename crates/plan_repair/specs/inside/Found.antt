-- A plan of least cost by a table, one with the fewest moves, and what is known of plans before. For src/least_plans.rt and
-- src/any_plans.rt.
use Rattle.std.specs.Prelude.{ℕ, ◌≡◌, ◌≤◌, ⊤, List, Option, None, Some}
use Rattle.tail_book.specs.Seen.{BookSeen}
use Rattle.tail_book.specs.TableSeen.{CostTableSeen}
use Rattle.tail_book.specs.Plan.{IsLegalPlan}
use Rattle.tail_book.specs.Truth.{CostsAtLeastIn, HasNoPlan, IsPlanIn}
use Rattle.plan_homes.specs.Moves.{moves}
use Rattle.plan_repair.specs.declared.any_plans.Begin.{Begin}
use Rattle.plan_repair.specs.declared.any_plans.Begin.TheVariants.{From, Open, Infeasible}
use Rattle.plan_repair.specs.declared.least_plans.LeastPlan.{LeastPlan}

-- the plan is legal and costs this by the table, and no legal plan costs less
pub record IsLeastPlan (table : CostTableSeen) (book : BookSeen) (found : LeastPlan) : Type 0 where
  pub plan : IsPlanIn table book found.cost found.plan
  pub least : CostsAtLeastIn table book found.cost

-- such a plan was found, or no plan is legal
abbrev pub IsLeastOrNone : CostTableSeen → BookSeen → Option LeastPlan → Type 0
IsLeastOrNone table book None = HasNoPlan book
IsLeastOrNone table book (Some found) = IsLeastPlan table book found

-- every legal plan has at least so many moves
abbrev pub MovesAtLeast : BookSeen → List (Option ℕ) → ℕ → Type 0
MovesAtLeast book homes few = (plan : List (List ℕ)) → IsLegalPlan book plan → few ≤ moves homes plan

-- the plan is legal, its cost counts its moves, and no legal plan has fewer
pub record IsFewest (book : BookSeen) (homes : List (Option ℕ)) (found : LeastPlan) : Type 0 where
  pub legal : IsLegalPlan book found.plan
  pub count : moves homes found.plan ≡ found.cost
  pub least : MovesAtLeast book homes found.cost

-- a plan with which a repair begins is legal; and where none is said to be, none is
abbrev pub IsTrueBegin : BookSeen → Begin → Type 0
IsTrueBegin book (From plan) = IsLegalPlan book plan
IsTrueBegin book Open = ⊤
IsTrueBegin book Infeasible = HasNoPlan book
