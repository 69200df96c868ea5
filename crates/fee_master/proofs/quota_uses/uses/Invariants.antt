use Rattle.std.proofs.Common.{◌≡◌, ◌<◌, ℕ, length, get_or}
use Rattle.restricted_master.specs.Lists.{list_at}
use Rattle.quota_rows.specs.declared.quota.Quota.{Quota}
use Rattle.fee_master.specs.inside.Uses.{AreUsesOf}
use Rattle.fee_master.proofs.quota_uses.uses.Given as goal

-- the quotas so far
abbrev pub invariant-loop-q : goal.invariant-loop-q
invariant-loop-q l = record {
  each : length l.uses.items ≡ l.q;
  uses : (q : ℕ) → q < l.q → (quota : Quota) → get_or l.quotas q quota ≡ quota → AreUsesOf l.book l.pool quota (list_at l.uses.items q);
}
