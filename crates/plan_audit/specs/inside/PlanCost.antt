-- What the audit of a plan of numbers answers: what a legal plan costs in a table, and nothing for any other.
use Rattle.std.specs.Prelude.{ℕ, ◌≡◌, List, Option, None, Some}
use Rattle.tail_book.specs.Seen.{BookSeen}
use Rattle.tail_book.specs.TableSeen.{CostTableSeen}
use Rattle.tail_book.specs.CostTable.{plan_cost_in}
use Rattle.tail_book.specs.Plan.{IsLegalPlan}

-- the plan's cost in the table, where the plan is legal, and nothing where it is not
abbrev pub IsPlanCost : BookSeen → CostTableSeen → List (List ℕ) → Option ℕ → Type 0
IsPlanCost book table plan None = ¬ IsLegalPlan book plan
IsPlanCost book table plan (Some cost) = IsLegalPlan book plan × (cost ≡ plan_cost_in table book plan)
