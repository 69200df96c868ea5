-- A search that begins with a legal plan ends with one that costs at most as much. Its target begins at most there and never
-- rises; without a plan it is more than any legal plan costs, so there is a plan, and the target is its cost.
use Rattle.std.proofs.Common.{◌≡◌, ◌≤◌, ℕ, List, Option, Some, None, sym, subst, arith}
use Rattle.std.specs.Prelude.{IfSome}
use Rattle.tail_book.specs.Seen.{BookSeen}
use Rattle.tail_book.specs.Plan.{IsLegalPlan}
use Rattle.tail_book.specs.TableSeen.{CostTableSeen}
use Rattle.tail_book.specs.CostTable.{IsCostTable, IsTableFor, greatest_cost_in, plan_cost_in}
use Rattle.tail_book.specs.inside.Sound.{IsBook}
use Rattle.tail_book.specs.inside.TableLaws.{LegalPlansCostAtMostIn}
use Rattle.tail_book.specs.declared.outcome.Outcome.{Outcome}
use Rattle.branch_tree.specs.Search.{HasPlanWithin}
use Rattle.node_leaves.specs.Target.{IsBest}
use Rattle.branch_tree.specs.inside.SearchParts.{outcome_for}

module _ (table : CostTableSeen) (book : BookSeen) where
  plan_within : (plan : Option (List (List ℕ))) (target most : ℕ) (low : Option ℕ) (counter : ℕ) → IsBest table book plan target → target ≤ most
      → most ≤ greatest_cost_in table → HasPlanWithin most (outcome_for plan target low counter)
  plan_within (Some plan) target most None counter best lower few = lower
  plan_within (Some plan) target most (Some low) counter best lower few = lower
  plan_within None target most low counter best lower few = absurd (omega (arith, best, lower, few))

  module _ (sound : IsBook book) (costs : IsCostTable table) (for_book : IsTableFor book table) (at_most : LegalPlansCostAtMostIn)
      {X : Type 0} (seen : X → List (List ℕ)) (plan : Option (List (List ℕ))) (target first : ℕ) (falls : target ≤ first) (low : Option ℕ) (counter : ℕ) where
    pub outcome_within : (outcome : Outcome) → outcome ≡ outcome_for plan target low counter → IsBest table book plan target → (start : Option X)
        → IfSome start (λ x. IsLegalPlan book (seen x)) → IfSome start (λ x. first ≤ plan_cost_in table book (seen x))
        → IfSome start (λ x. HasPlanWithin (plan_cost_in table book (seen x)) outcome)
    outcome_within outcome same best None legal within = tt
    outcome_within outcome same best (Some x) legal within =
        let most = plan_cost_in table book (seen x) in
        let lower : target ≤ most = omega (arith, falls, within) in
        subst (λ (o : Outcome). HasPlanWithin most o) (sym same)
        (plan_within plan target most low counter best lower (at_most book table sound costs for_book (seen x) legal))
