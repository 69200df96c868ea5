-- An audit answers the cost of a legal plan by the book's own costs, and none for another plan: so it is the cost that is
-- asked for exactly where the test by definition says so.
use Rattle.std.proofs.Common.{◌≡◌, ◌∙◌, ℕ, Bool, true, false, List, None, Some, refl, ap, sym}
use Rattle.std.specs.Prelude.{◌==◌, ◌&&◌, nat_eq}
use Rattle.tail_book.specs.Cost.{plan_cost}
use Rattle.tail_book.specs.Seen.{BookSeen}
use Rattle.tail_book.specs.CostTable.{costs_of, plan_cost_in}
use Rattle.tail_book.specs.TableSeen.{CostTableSeen}
use Rattle.tail_book.specs.inside.TableLaws.{OwnCostsOfLegalPlans}
use Rattle.tail_book.specs.LegalTests.{is_legal_plan}
use Rattle.tail_book.specs.inside.Tests.{LegalPlanDecides}
use Rattle.plan_audit.specs.inside.PlanCost.{IsPlanCost}

-- what an audit by the book's own costs says of a cost
module _ (decides : LegalPlanDecides) (own : OwnCostsOfLegalPlans) (book : BookSeen) (plan : List (List ℕ)) (cost : ℕ) where
  pub audited_is : (table : CostTableSeen) (found : ℕ) → table ≡ costs_of book → IsPlanCost book table plan (Some found)
      → nat_eq found cost ≡ (is_legal_plan book plan && plan_cost book plan == cost)
  audited_is table found costs (legal, is) =
      ap (λ (c : ℕ). nat_eq c cost) (is ∙ ap (λ (t : CostTableSeen). plan_cost_in t book plan) costs ∙ own book plan legal)
      ∙ sym (ap (λ (b : Bool). b && plan_cost book plan == cost) ((decides book plan).1 legal))

  pub unaudited_is : (table : CostTableSeen) → IsPlanCost book table plan None → false ≡ (is_legal_plan book plan && plan_cost book plan == cost)
  unaudited_is table broken = by_test (is_legal_plan book plan) refl
    where
      by_test : (b : Bool) → is_legal_plan book plan ≡ b → false ≡ (b && plan_cost book plan == cost)
      by_test true e = absurd (broken ((decides book plan).0 e))
      by_test false e = refl
