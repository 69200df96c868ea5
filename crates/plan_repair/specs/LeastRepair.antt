-- A least repair: a legal plan that moves as few activities as can be, and among these costs as little as can be.
-- For src/repairing.rt.
use Rattle.std.specs.Prelude.{ℕ, ◌≡◌, ◌≤◌, ◌<◌, ◌⊎◌, List, Option}
use Rattle.tail_book.specs.Seen.{BookSeen}
use Rattle.tail_book.specs.Plan.{IsLegalPlan}
use Rattle.tail_book.specs.Cost.{plan_cost}
use Rattle.tail_book.specs.Truth.{HasNoPlan}
use Rattle.plan_homes.specs.Moves.{moves}
use Rattle.plan_repair.specs.declared.answer.Repair.{Repair}
use Rattle.plan_repair.specs.declared.answer.Repair.TheVariants.{Done, Infeasible}

-- the other plan has more moves, or as many and costs at least as much
abbrev pub IsNoBetter : BookSeen → List (Option ℕ) → List (List ℕ) → List (List ℕ) → Type 0
IsNoBetter book homes plan other =
    (moves homes plan < moves homes other) ⊎ ((moves homes plan ≡ moves homes other) × (plan_cost book plan ≤ plan_cost book other))

-- a legal plan, to which no legal plan is better
pub record IsLeastRepair (book : BookSeen) (homes : List (Option ℕ)) (plan : List (List ℕ)) : Type 0 where
  pub legal : IsLegalPlan book plan
  pub least : (other : List (List ℕ)) → IsLegalPlan book other → IsNoBetter book homes plan other

-- what a repair answers is true: the plan is a least repair with these moves and this cost, or no plan is legal
abbrev pub IsTrueRepair : BookSeen → List (Option ℕ) → Repair → Type 0
IsTrueRepair book homes (Done plan count cost) = IsLeastRepair book homes plan × (count ≡ moves homes plan) × (cost ≡ plan_cost book plan)
IsTrueRepair book homes Infeasible = HasNoPlan book
