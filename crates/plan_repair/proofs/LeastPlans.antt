-- What a plan of least cost by a raised table says of moves. By the book's own costs with moves raised, it is what the plan
-- costs and the raise for each move; where nothing else costs anything and the raise is 1, it is the number of the moves.
use Rattle.std.proofs.Common.{◌≡◌, ◌∙◌, ℕ, ◌+◌, ◌-◌, ◌*◌, ◌<◌, ◌≤◌, arith, List, sym, ap, subst}
use Rattle.std.proofs.Math.Nat.{mul-le-mul}
use Rattle.std.specs.Prelude.{Option}
use Rattle.tail_book.specs.Seen.{BookSeen}
use Rattle.tail_book.specs.Cost.{plan_cost}
use Rattle.tail_book.specs.CostTable.{IsCostTable, costs_of, plan_cost_in}
use Rattle.tail_book.specs.Plan.{IsLegalPlan}
use Rattle.tail_book.specs.inside.Sound.{IsBook}
use Rattle.tail_book.specs.inside.TableLaws.{LegalPlansCostAtMostIn, OwnCostsAreForBook, OwnCostsOfLegalPlans}
use Rattle.plan_homes.specs.Moves.{moves}
use Rattle.plan_repair.specs.declared.least_plans.LeastPlan.{LeastPlan}
use Rattle.plan_repair.specs.inside.Found.{IsFewest, IsLeastPlan}
use Rattle.plan_repair.specs.inside.Raised.{RaisedPlansCost, no_costs, raised}
use Rattle.plan_repair.specs.inside.Rungs.{IsLeastAt}
use Rattle.plan_repair.proofs.RaisedCosts.{no_costs_for}

module _ (law : RaisedPlansCost) (book : BookSeen) (homes : List (Option ℕ)) where
  -- nothing but a move costs anything
  moves_alone : LegalPlansCostAtMostIn → IsBook book → IsCostTable (no_costs book) → (plan : List (List ℕ)) → IsLegalPlan book plan
      → plan_cost_in (raised (no_costs book) homes 1) book plan ≡ moves homes plan
  moves_alone most sound costs plan legal =
      let all = law book (no_costs book) homes 1 (no_costs_for book) plan legal in
      let free = most book (no_costs book) sound costs (no_costs_for book) plan legal in
      omega (arith, all, free)

  pub fewest_of : LegalPlansCostAtMostIn → IsBook book → IsCostTable (no_costs book) → (found : LeastPlan)
      → IsLeastPlan (raised (no_costs book) homes 1) book found → IsFewest book homes found
  fewest_of most sound costs found least = record {
    legal = least.plan.legal;
    count = sym (moves_alone most sound costs found.plan least.plan.legal) ∙ least.plan.costs;
    least = λ plan legal. subst (λ (n : ℕ). found.cost ≤ n) (moves_alone most sound costs plan legal) (least.least plan legal);
  }

  module _ (own_for : OwnCostsAreForBook) (own : OwnCostsOfLegalPlans) (raise : ℕ) where
    own_raised : (plan : List (List ℕ)) → IsLegalPlan book plan → plan_cost_in (raised (costs_of book) homes raise) book plan ≡ plan_cost book plan + raise * moves homes plan
    own_raised plan legal = law book (costs_of book) homes raise (own_for book) plan legal ∙ ap (λ (n : ℕ). n + raise * moves homes plan) (own book plan legal)

    -- what such a plan costs is its own cost and the raise for each of its moves
    pub cost_of_least : (found : LeastPlan) → IsLeastPlan (raised (costs_of book) homes raise) book found
        → found.cost ≡ plan_cost book found.plan + raise * moves homes found.plan
    cost_of_least found least = sym least.plan.costs ∙ own_raised found.plan least.plan.legal

    pub least_of : (found : LeastPlan) → IsLeastPlan (raised (costs_of book) homes raise) book found → IsLeastAt book homes raise found.plan
    least_of found least = record {
      legal = least.plan.legal;
      least = λ other legal. subst (λ (n : ℕ). plan_cost book found.plan + raise * moves homes found.plan ≤ n) (own_raised other legal)
          (subst (λ (n : ℕ). n ≤ plan_cost_in (raised (costs_of book) homes raise) book other) (cost_of_least found least) (least.least other legal));
    }

-- there are no more moves than that comes to, where each is raised
pub few_moves : (cost own raise count most : ℕ) → cost ≡ own + raise * count → 1 ≤ raise → cost < most → count < most
few_moves cost own raise count most e low small =
    let itself : count ≤ count = omega arith in
    let more : 1 * count ≤ raise * count = mul-le-mul low itself in
    omega (arith, e, small, more)

-- the parts of such a cost
pub below_sum : (cost own raise count most : ℕ) → cost ≡ own + raise * count → cost < most → raise * count < most
below_sum cost own raise count most e small = omega (arith, e, small)

pub part_of : (cost own raise count : ℕ) → cost ≡ own + raise * count → raise * count ≤ cost
part_of cost own raise count e = omega (arith, e)

pub rest_of : (cost own raise count : ℕ) → cost ≡ own + raise * count → cost - raise * count ≡ own
rest_of cost own raise count e = omega (arith, e)
