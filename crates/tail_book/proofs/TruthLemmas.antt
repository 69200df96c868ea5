-- Where two ways to cost agree on every legal plan, they make the same claims and answers true.
--
-- Claims and answers speak only of what legal plans cost, so each part is carried over by itself. The book's own costs
-- and those of its table agree so.
use Rattle.std.specs.Prelude.{◌↔◌}
use Rattle.std.proofs.Common.{◌≡◌, ℕ, ◌≤◌, List, None, Some, ◌∙◌, sym, subst}
use Rattle.tail_book.specs.Seen.{BookSeen}
use Rattle.tail_book.specs.Plan.{IsLegalPlan}
use Rattle.tail_book.specs.Cost.{plan_cost}
use Rattle.tail_book.specs.CostTable.{costs_of, plan_cost_in}
use Rattle.tail_book.specs.Truth.{Costs, CostsAtLeastBy, IsPlanBy, SomePlanCostsBy, IsTrueClaimBy, HasItsPlanBy, IsTrueOutcomeBy, claim_of, IsTrueOutcome, IsTrueClaim, IsTrueClaimIn, IsTrueOutcomeIn}
use Rattle.tail_book.specs.declared.claim.Claim.{Claim}
use Rattle.tail_book.specs.declared.claim.Claim.TheVariants.{Optimal, Infeasible, Limit}
use Rattle.tail_book.specs.declared.outcome.Outcome.{Outcome}
use Rattle.tail_book.specs.declared.outcome.Outcome.TheVariants as outcome
use Rattle.tail_book.proofs.TableCosts.{own_legal_cost}

-- the two ways agree on every legal plan
abbrev Agree : BookSeen → Costs → Costs → Type 0
Agree book f g = (plan : List (List ℕ)) → IsLegalPlan book plan → f plan ≡ g plan

module _ (book : BookSeen) (f g : Costs) (same : Agree book f g) where
  plan_kept : (cost : ℕ) (plan : List (List ℕ)) → IsPlanBy f book cost plan → IsPlanBy g book cost plan
  plan_kept cost plan h = record { legal = h.legal; costs = sym (same plan h.legal) ∙ h.costs }

  bound_kept : (low : ℕ) → CostsAtLeastBy f book low → CostsAtLeastBy g book low
  bound_kept low h plan legal = subst (λ (n : ℕ). low ≤ n) (same plan legal) (h plan legal)

  some_kept : (cost : ℕ) → SomePlanCostsBy f book cost → SomePlanCostsBy g book cost
  some_kept cost h = (h.0, plan_kept cost h.0 h.1)

  claim_kept : (claim : Claim) → IsTrueClaimBy f book claim → IsTrueClaimBy g book claim
  claim_kept (Optimal cost) h = (some_kept cost h.0, bound_kept cost h.1)
  claim_kept Infeasible h = h
  claim_kept (Limit low None) h = bound_kept low h
  claim_kept (Limit low (Some high)) h = (h.0, some_kept high h.1, bound_kept low h.2)

  own_plan_kept : (answer : Outcome) → HasItsPlanBy f book answer → HasItsPlanBy g book answer
  own_plan_kept (outcome.Optimal plan cost) h = plan_kept cost plan h
  own_plan_kept outcome.Infeasible h = tt
  own_plan_kept (outcome.Between plan low high nodes) h = plan_kept high plan h
  own_plan_kept (outcome.Above low nodes) h = tt

  outcome_kept : (answer : Outcome) → IsTrueOutcomeBy f book answer → IsTrueOutcomeBy g book answer
  outcome_kept answer h = record { claim = claim_kept (claim_of answer) h.claim; plan = own_plan_kept answer h.plan }

pub own_claims : (book : BookSeen) (claim : Claim) → IsTrueClaimIn (costs_of book) book claim ↔ IsTrueClaim book claim
own_claims book claim = (
  claim_kept book (plan_cost_in (costs_of book) book) (plan_cost book) (own_legal_cost book) claim,
  claim_kept book (plan_cost book) (plan_cost_in (costs_of book) book) (λ plan legal. sym (own_legal_cost book plan legal)) claim,
)

pub own_outcomes : (book : BookSeen) (answer : Outcome) → IsTrueOutcomeIn (costs_of book) book answer ↔ IsTrueOutcome book answer
own_outcomes book answer = (
  outcome_kept book (plan_cost_in (costs_of book) book) (plan_cost book) (own_legal_cost book) answer,
  outcome_kept book (plan_cost book) (plan_cost_in (costs_of book) book) (λ plan legal. sym (own_legal_cost book plan legal)) answer,
)
