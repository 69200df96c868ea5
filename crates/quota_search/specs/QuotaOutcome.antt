-- When the answer of a search under quotas is true. For src/quota_search.rt.
use Rattle.std.specs.Prelude.{List}
use Rattle.tail_book.specs.Seen.{BookSeen}
use Rattle.quota_rows.specs.KeptPlans.{HasNoKeptPlan, IsLeastKept}
use Rattle.quota_rows.specs.declared.quota.Quota.{Quota}
use Rattle.quota_search.specs.declared.outcome.QuotaOutcome.{QuotaOutcome}
use Rattle.quota_search.specs.declared.outcome.QuotaOutcome.TheVariants.{Optimal, Infeasible}

-- a least plan among those that keep the quotas, or that no legal plan keeps them
abbrev pub IsTrueQuotaOutcome : BookSeen → List Quota → QuotaOutcome → Type 0
IsTrueQuotaOutcome book quotas (Optimal plan cost) = IsLeastKept book quotas cost plan
IsTrueQuotaOutcome book quotas Infeasible = HasNoKeptPlan book quotas
