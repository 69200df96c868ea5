-- The answer of the reader of quotas: what the table says, its first refusal, or want of memory. For src/quota_table.rt.
use Rattle.std.specs.Prelude.{◌≡◌, ⊤, List, Result, Ok, Err}
use Rattle.quota_rows.specs.QuotaTable.{QuotaRefusal, refused_at}
use Rattle.quota_rows.specs.declared.quota.Quota.{Quota}
use Rattle.quota_rows.specs.declared.quota_table.QuotaStop.{QuotaStop}
use Rattle.quota_rows.specs.declared.quota_table.QuotaStop.TheVariants.{Refused, Memory}

-- the answer is what is due, seen as the definitions see it, or its refusal; memory may run out at any time
abbrev pub ReadsQuotas : {T : Type 0} → (T → List Quota) → Result (List Quota) QuotaRefusal → Result T QuotaStop → Type 0
ReadsQuotas seen due (Ok quotas) = due ≡ Ok (seen quotas)
ReadsQuotas seen due (Err (Refused code place)) = due ≡ Err (refused_at code place)
ReadsQuotas seen due (Err Memory) = ⊤
