use Rattle.std.proofs.Common.{◌≡◌, ◌+◌, ◌-◌, ◌≤◌, length}
use Rattle.std.specs.Prelude.{All}
use Rattle.tail_text.specs.inside.Joined.{joined}
use Rattle.quota_rows.specs.Belongs.{IsQuotaOf}
use Rattle.quota_rows.specs.QuotaTable.{quotas_from}
use Rattle.quota_rows.specs.declared.quota.TheConstants.{QUOTA_LIMIT}
use Rattle.quota_rows.proofs.quota_table.quotas_from.Given as goal

-- the quotas so far, all of the book, stand before what the records give that are left
abbrev pub invariant-loop-quotas : goal.invariant-loop-quotas
invariant-loop-quotas l = record {
  few : length l.quotas.items ≤ QUOTA_LIMIT;
  each : All (IsQuotaOf l.book) l.quotas.items;
  exact : quotas_from l.book 2 QUOTA_LIMIT l.fn.records
      ≡ joined l.quotas.items (quotas_from l.book (length l.quotas.items + 2) (QUOTA_LIMIT - length l.quotas.items) l.records);
}

abbrev pub decreases-loop-quotas : goal.decreases-loop-quotas
decreases-loop-quotas l = length l.records
