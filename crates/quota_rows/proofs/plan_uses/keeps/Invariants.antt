use Rattle.std.proofs.Common.{◌↔◌, drop}
use Rattle.std.specs.Prelude.{All}
use Rattle.quota_rows.specs.KeptPlans.{KeepsQuota}
use Rattle.quota_rows.proofs.plan_uses.keeps.Given as goal

-- the quotas that are left answer for all
abbrev pub invariant-loop-quota : goal.invariant-loop-quota
invariant-loop-quota l = All (KeepsQuota l.book l.plan) l.quotas ↔ All (KeepsQuota l.book l.plan) (drop l.quota-index l.quotas)
