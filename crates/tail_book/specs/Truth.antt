-- When a claim, and what a planner answers, is true of a book, by the costs of plans that are meant. For src/claim.rt.
use Rattle.std.specs.Prelude.{◌≡◌, ℕ, ◌≤◌, ◌<◌, ⊤, List, None, Some}
use Rattle.tail_book.specs.Seen.{BookSeen}
use Rattle.tail_book.specs.Plan.{IsLegalPlan}
use Rattle.tail_book.specs.Cost.{plan_cost}
use Rattle.tail_book.specs.declared.claim.Claim.{Claim}
use Rattle.tail_book.specs.declared.claim.Claim.TheVariants.{Optimal, Infeasible, Limit}
use Rattle.tail_book.specs.declared.outcome.Outcome.{Outcome}
use Rattle.tail_book.specs.declared.outcome.Outcome.TheVariants as outcome
use Rattle.tail_book.specs.TableSeen.{CostTableSeen}
use Rattle.tail_book.specs.CostTable.{plan_cost_in}

-- what each plan costs, in cost units
abbrev pub Costs : Type 0
Costs = List (List ℕ) → ℕ

-- no plan is legal
abbrev pub HasNoPlan : BookSeen → Type 0
HasNoPlan book = (plan : List (List ℕ)) → ¬ IsLegalPlan book plan

-- every legal plan costs at least this
abbrev pub CostsAtLeastBy : Costs → BookSeen → ℕ → Type 0
CostsAtLeastBy costs book low = (plan : List (List ℕ)) → IsLegalPlan book plan → low ≤ costs plan

-- the plan is legal and costs this
pub record IsPlanBy (cost_of : Costs) (book : BookSeen) (cost : ℕ) (plan : List (List ℕ)) : Type 0 where
  pub legal : IsLegalPlan book plan
  pub costs : cost_of plan ≡ cost

-- some legal plan costs this
abbrev pub SomePlanCostsBy : Costs → BookSeen → ℕ → Type 0
SomePlanCostsBy costs book cost = (plan : List (List ℕ)) × IsPlanBy costs book cost plan

-- a claim is true: some legal plan costs this and none costs less; or no plan is legal; or the bound holds, and where a
-- plan was found, one costs what is claimed, which lies above the bound
abbrev pub IsTrueClaimBy : Costs → BookSeen → Claim → Type 0
IsTrueClaimBy costs book (Optimal cost) = SomePlanCostsBy costs book cost × CostsAtLeastBy costs book cost
IsTrueClaimBy costs book Infeasible = HasNoPlan book
IsTrueClaimBy costs book (Limit low None) = CostsAtLeastBy costs book low
IsTrueClaimBy costs book (Limit low (Some high)) = (low < high) × SomePlanCostsBy costs book high × CostsAtLeastBy costs book low

-- what an answer claims
abbrev pub claim_of : Outcome → Claim
claim_of (outcome.Optimal plan cost) = Optimal cost
claim_of outcome.Infeasible = Infeasible
claim_of (outcome.Between plan low high nodes) = Limit low (Some high)
claim_of (outcome.Above low nodes) = Limit low None

-- where an answer has a plan, that plan is legal, and costs what the answer says
abbrev pub HasItsPlanBy : Costs → BookSeen → Outcome → Type 0
HasItsPlanBy costs book (outcome.Optimal plan cost) = IsPlanBy costs book cost plan
HasItsPlanBy costs book outcome.Infeasible = ⊤
HasItsPlanBy costs book (outcome.Between plan low high nodes) = IsPlanBy costs book high plan
HasItsPlanBy costs book (outcome.Above low nodes) = ⊤

-- an answer is true where its claim is, and its plan is what it says
pub record IsTrueOutcomeBy (costs : Costs) (book : BookSeen) (answer : Outcome) : Type 0 where
  pub claim : IsTrueClaimBy costs book (claim_of answer)
  pub plan : HasItsPlanBy costs book answer

-- the same by what the book itself says that plans cost
abbrev pub IsPlanOf : BookSeen → ℕ → List (List ℕ) → Type 0
IsPlanOf book = IsPlanBy (plan_cost book) book

abbrev pub IsTrueOutcome : BookSeen → Outcome → Type 0
IsTrueOutcome book = IsTrueOutcomeBy (plan_cost book) book

-- a claim is true by what the book itself says that plans cost
abbrev pub IsTrueClaim : BookSeen → Claim → Type 0
IsTrueClaim book = IsTrueClaimBy (plan_cost book) book

-- and by what a table for the book says
abbrev pub CostsAtLeastIn : CostTableSeen → BookSeen → ℕ → Type 0
CostsAtLeastIn table book = CostsAtLeastBy (plan_cost_in table book) book

abbrev pub IsPlanIn : CostTableSeen → BookSeen → ℕ → List (List ℕ) → Type 0
IsPlanIn table book = IsPlanBy (plan_cost_in table book) book

abbrev pub IsTrueClaimIn : CostTableSeen → BookSeen → Claim → Type 0
IsTrueClaimIn table book = IsTrueClaimBy (plan_cost_in table book) book

abbrev pub IsTrueOutcomeIn : CostTableSeen → BookSeen → Outcome → Type 0
IsTrueOutcomeIn table book = IsTrueOutcomeBy (plan_cost_in table book) book
