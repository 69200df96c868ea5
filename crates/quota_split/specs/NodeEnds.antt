-- What each end of a node under quotas shows: that no plan which is legal, keeps the quotas, and of which the marks hold, costs less than
-- the target. For src/laws.rt.
use Rattle.std.specs.Prelude.{◌≡◌, ℕ, ◌<◌, ℤ, pos, ◌≤ℤ◌, List, [], ◌∷◌, ◌++◌, All, length}
use Rattle.tail_book.specs.Seen.{BookSeen}
use Rattle.tail_book.specs.TableSeen.{CostTableSeen}
use Rattle.tail_book.specs.Lookup.{activities, aircraft}
use Rattle.tail_book.specs.CostTable.{IsCostTable, IsTableFor, greatest_cost_in, plan_cost_in}
use Rattle.tail_book.specs.inside.Sound.{IsBook}
use Rattle.branch_marks.specs.declared.fact.Fact.{Fact}
use Rattle.branch_marks.specs.declared.fact.Pair.{Pair}
use Rattle.branch_marks.specs.Bound.{bound_of, Passes}
use Rattle.branch_marks.specs.Branches.{first_branch, second_branch}
use Rattle.branch_marks.specs.DeadEnds.{IsHole, IsStuck}
use Rattle.branch_marks.specs.Following.{FollowInTurn}
use Rattle.branch_marks.specs.inside.Once.{AreOnce}
use Rattle.quota_rows.specs.FeeBound.{AreLeastFeeWeights, MarkedKeptPlansCostAtLeast, fee_lagrangian}
use Rattle.quota_rows.specs.KeptPlans.{HasNoKeptPlan, IsKeptPlan, IsLeastKeptIn}
use Rattle.quota_rows.specs.declared.quota.Quota.{Quota}
use Rattle.quota_split.specs.Ties.{IsFirstOver}

-- a quota of which more are tied than it lets a plan have
abbrev pub OversEnd : Type 0
OversEnd = (table : CostTableSeen) (book : BookSeen) (quotas : List Quota) (marks : List Fact) (q target : ℕ) → AreOnce marks
    → IsFirstOver book marks quotas q → MarkedKeptPlansCostAtLeast table book quotas marks target

-- an activity that is alive for nobody
abbrev pub HolesEnd : Type 0
HolesEnd = (table : CostTableSeen) (book : BookSeen) → IsBook book → (quotas : List Quota) (marks : List Fact) (a target : ℕ) → IsHole book marks a
    → MarkedKeptPlansCostAtLeast table book quotas marks target

-- an aircraft of which no legal route fits
abbrev pub StuckEnds : Type 0
StuckEnds = (table : CostTableSeen) (book : BookSeen) → IsBook book → (quotas : List Quota) (marks : List Fact) (k target : ℕ) → k < aircraft book
    → IsStuck book marks k → MarkedKeptPlansCostAtLeast table book quotas marks target

-- duals and fees whose sum passes what a plan of one cost unit less than the target comes to
abbrev pub BoundsEnd : Type 0
BoundsEnd = (table : CostTableSeen) (book : BookSeen) → IsBook book → (quotas : List Quota) (marks : List Fact) (duals fees values : List ℤ) (target : ℕ)
    → length duals ≡ activities book → All (λ fee. pos 0 ≤ℤ fee) fees → AreLeastFeeWeights table book quotas marks duals fees values
    → Passes (bound_of (fee_lagrangian quotas duals fees values)) target → MarkedKeptPlansCostAtLeast table book quotas marks target

-- where both branches of a split leave no cheaper plan, neither do the marks that were split
abbrev pub BranchesEnd : Type 0
BranchesEnd = (table : CostTableSeen) (book : BookSeen) (quotas : List Quota) (marks : List Fact) (pair : Pair) (target : ℕ)
    → MarkedKeptPlansCostAtLeast table book quotas (marks ++ first_branch pair ∷ []) target
    → MarkedKeptPlansCostAtLeast table book quotas (marks ++ second_branch pair ∷ []) target
    → MarkedKeptPlansCostAtLeast table book quotas marks target

-- where marks with all that follows leave none, neither do the marks
abbrev pub StepsEnd : Type 0
StepsEnd = (table : CostTableSeen) (book : BookSeen) → IsBook book → (quotas : List Quota) (marks steps : List Fact) (target : ℕ)
    → FollowInTurn book marks steps → MarkedKeptPlansCostAtLeast table book quotas (marks ++ steps) target
    → MarkedKeptPlansCostAtLeast table book quotas marks target

-- and where no marks leave none: a kept plan that costs the target is a least one
abbrev pub RootsEnd : Type 0
RootsEnd = (table : CostTableSeen) (book : BookSeen) (quotas : List Quota) (target : ℕ) → MarkedKeptPlansCostAtLeast table book quotas [] target
    → (plan : List (List ℕ)) → IsKeptPlan book quotas plan → plan_cost_in table book plan ≡ target → IsLeastKeptIn table book quotas target plan

-- and where the target is more than any legal plan costs, no legal plan keeps the quotas
abbrev pub EmptyRootsEnd : Type 0
EmptyRootsEnd = (table : CostTableSeen) (book : BookSeen) → IsBook book → IsCostTable table → IsTableFor book table → (quotas : List Quota) (target : ℕ)
    → greatest_cost_in table < target → MarkedKeptPlansCostAtLeast table book quotas [] target → HasNoKeptPlan book quotas
