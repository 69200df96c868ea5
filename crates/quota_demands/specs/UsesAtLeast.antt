-- How often every legal plan uses a quota at least. For src/shown_uses.rt and src/laws.rt.
use Rattle.std.specs.Prelude.{ℕ, ◌<◌, ◌≤◌, List, Contains}
use Rattle.tail_book.specs.Seen.{BookSeen}
use Rattle.tail_book.specs.Plan.{IsLegalPlan}
use Rattle.quota_rows.specs.KeptPlans.{HasNoKeptPlan, uses}
use Rattle.quota_rows.specs.declared.quota.Quota.{Quota}

-- no legal plan uses the quota less often than this
abbrev pub UsesAtLeast : BookSeen → Quota → ℕ → Type 0
UsesAtLeast book quota low = (plan : List (List ℕ)) → IsLegalPlan book plan → low ≤ uses book quota plan

-- where that is more often than one of the quotas lets a plan use it, no legal plan keeps them
abbrev pub UsedTooOftenLeavesNoPlan : Type 0
UsedTooOftenLeavesNoPlan = (book : BookSeen) (quotas : List Quota) (quota : Quota) (low : ℕ) → Contains quotas quota → UsesAtLeast book quota low
    → quota.most < low → HasNoKeptPlan book quotas
