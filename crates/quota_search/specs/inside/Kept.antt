-- What plans without quotas say of those with quotas. For src/laws.rt.
use Rattle.std.specs.Prelude.{ℕ, List}
use Rattle.tail_book.specs.Seen.{BookSeen}
use Rattle.tail_book.specs.TableSeen.{CostTableSeen}
use Rattle.tail_book.specs.CostTable.{costs_of}
use Rattle.tail_book.specs.Truth.{CostsAtLeastIn, HasNoPlan, IsPlanIn}
use Rattle.quota_rows.specs.KeptPlans.{HasNoKeptPlan, IsLeastKept, IsLeastKeptIn, KeepsQuotas}
use Rattle.quota_rows.specs.declared.quota.Quota.{Quota}

-- where no plan is legal, none keeps the quotas
abbrev pub NoPlansKeepNone : Type 0
NoPlansKeepNone = (book : BookSeen) (quotas : List Quota) → HasNoPlan book → HasNoKeptPlan book quotas

-- a least plan that happens to keep the quotas is a least one among those that keep them
abbrev pub LeastPlansAreLeastKept : Type 0
LeastPlansAreLeastKept = (table : CostTableSeen) (book : BookSeen) (quotas : List Quota) (cost : ℕ) (plan : List (List ℕ)) → IsPlanIn table book cost plan
    → CostsAtLeastIn table book cost → KeepsQuotas book quotas plan → IsLeastKeptIn table book quotas cost plan

-- and what is a least one by the book's own costs is one of the book
abbrev pub OwnCostsKeepLeastKept : Type 0
OwnCostsKeepLeastKept = (book : BookSeen) (quotas : List Quota) (cost : ℕ) (plan : List (List ℕ)) → IsLeastKeptIn (costs_of book) book quotas cost plan
    → IsLeastKept book quotas cost plan
