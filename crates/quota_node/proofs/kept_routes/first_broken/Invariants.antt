use Rattle.std.proofs.Common.{ℕ, ◌<◌}
use Rattle.std.specs.Prelude.{slice_index_or}
use Rattle.quota_rows.specs.KeptPlans.{KeepsQuota}
use Rattle.quota_rows.specs.declared.quota.Quota.{Quota}
use Rattle.quota_node.proofs.kept_routes.first_broken.Given as goal

-- the plan keeps the quotas so far
abbrev pub invariant-loop-q : goal.invariant-loop-q
invariant-loop-q l = (r : ℕ) (other : Quota) → r < l.q → KeepsQuota l.book l.plan (slice_index_or l.quotas r other)
