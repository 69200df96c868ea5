-- What a node of a search under quotas answers: what is true of each answer, with the marks, the duals, the fees and the target with
-- which the node ends. For src/node.rt.
use Rattle.std.specs.Prelude.{ℕ, ℤ, ◌<◌, List, Option, None, Some, ⊤}
use Rattle.tail_book.specs.Seen.{BookSeen}
use Rattle.tail_book.specs.TableSeen.{CostTableSeen}
use Rattle.tail_book.specs.Lookup.{aircraft}
use Rattle.branch_marks.specs.declared.fact.Fact.{Fact}
use Rattle.branch_marks.specs.declared.fact.Pair.{Pair}
use Rattle.branch_marks.specs.Bound.{bound_of, Passes}
use Rattle.branch_marks.specs.Branches.{IsUndecided}
use Rattle.branch_marks.specs.DeadEnds.{IsHole, IsStuck}
use Rattle.quota_rows.specs.declared.quota.Quota.{Quota}
use Rattle.quota_rows.specs.KeptPlans.{KeepsQuotas}
use Rattle.quota_split.specs.Ties.{HasNoneOver, IsFirstOver}
use Rattle.fee_master.specs.SettledFees.{IsFeeSum, IsSettledWithFees}
use Rattle.quota_node.specs.declared.step.QuotaStep.{QuotaStep}
use Rattle.quota_node.specs.declared.step.QuotaStep.TheVariants as step

-- the best plan so far keeps the quotas, where there is one
abbrev pub KeepsWherePlanned : BookSeen → List Quota → Option (List (List ℕ)) → Type 0
KeepsWherePlanned book quotas None = ⊤
KeepsWherePlanned book quotas (Some plan) = KeepsQuotas book quotas plan

-- a bound that may be answered: the sum of duals and fees, which reaches the target
pub record IsTrueBound (table : CostTableSeen) (book : BookSeen) (quotas : List Quota) (marks : List Fact) (duals fees : List ℤ) (target : ℕ)
    (bound : ℤ) : Type 0 where
  pub sum : IsFeeSum table book quotas marks duals fees bound
  pub passes : Passes (bound_of bound) target

-- a split that may be answered: duals and fees are settled, their sum leaves room below the target, and the pair is undecided
pub record IsTrueSplit (table : CostTableSeen) (book : BookSeen) (quotas : List Quota) (marks : List Fact) (duals fees : List ℤ) (target : ℕ)
    (pair : Pair) (bound : ℤ) : Type 0 where
  pub settled : IsSettledWithFees table book quotas marks duals fees
  pub sum : IsFeeSum table book quotas marks duals fees bound
  pub below : ¬ Passes (bound_of bound) target
  pub undecided : IsUndecided book marks pair

-- what is true of the marks, the duals, the fees and the target with which a node ends
abbrev pub IsTrueQuotaStep : CostTableSeen → BookSeen → List Quota → List Fact → List ℤ → List ℤ → ℕ → QuotaStep → Type 0
IsTrueQuotaStep table book quotas marks duals fees target (step.Over q) = IsFirstOver book marks quotas q
IsTrueQuotaStep table book quotas marks duals fees target (step.Hole a) = HasNoneOver book marks quotas × IsHole book marks a
IsTrueQuotaStep table book quotas marks duals fees target (step.Stuck k) =
    HasNoneOver book marks quotas × (k < aircraft book) × IsStuck book marks k
IsTrueQuotaStep table book quotas marks duals fees target (step.Bounded bound) =
    HasNoneOver book marks quotas × IsTrueBound table book quotas marks duals fees target bound
IsTrueQuotaStep table book quotas marks duals fees target (step.Split pair bound) =
    HasNoneOver book marks quotas × IsTrueSplit table book quotas marks duals fees target pair bound
