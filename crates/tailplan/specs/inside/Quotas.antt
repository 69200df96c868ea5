-- With which status a run under quotas ends that printed what it found, when that can be printed, and what the search answers.
-- For src/under_quotas.rt and src/quota_run.rt.
use Rattle.std.specs.Prelude.{ℕ, ◌≡◌, ⊤, List}
use Rattle.tail_book.specs.Seen.{BookSeen}
use Rattle.tail_book.specs.declared.outcome.Outcome.{Outcome}
use Rattle.tail_book.specs.declared.outcome.Outcome.TheVariants.{Optimal, Infeasible, Between, Above}
use Rattle.tail_text.specs.declared.refusal.Refusal.{Refusal}
use Rattle.plan_report.specs.inside.Report.{HasPlanFor}
use Rattle.quota_rows.specs.declared.quota.Quota.{Quota}
use Rattle.quota_search.specs.declared.outcome.QuotaOutcome.{QuotaOutcome}
use Rattle.quota_search.specs.declared.outcome.QuotaOutcome.TheVariants.{Optimal as Least, Infeasible as NoneKept}
use Rattle.run_frame.specs.inside.Answer.{IsAnswerTo}
use Rattle.tailplan.specs.QuotaAnswers.{IsLeastUnder, QuotaAnswer}
use Rattle.tailplan.specs.QuotaCases.{QuotaCase}
use Rattle.tailplan.specs.declared.under_quotas.UnderQuotas.{UnderQuotas}
use Rattle.tailplan.specs.declared.under_quotas.UnderQuotas.TheVariants.{Refused, Planned}
use Rattle.tailplan.specs.inside.Outcomes.{outcome_status}

-- the status of what was found, once it was printed
abbrev pub quota_status : UnderQuotas → ℕ
quota_status (Refused code place) = 3
quota_status (Planned solved) = outcome_status solved.outcome

-- the search under quotas has no limit, so the outcome is no bound
abbrev pub IsNoBound : Outcome → Type 0
IsNoBound (Optimal plan cost) = ⊤
IsNoBound Infeasible = ⊤
IsNoBound (Between plan low high nodes) = ⊥
IsNoBound (Above low nodes) = ⊥

-- what was found can be printed
abbrev pub CanBeReported : UnderQuotas → Type 0
CanBeReported (Refused code place) = ⊤
CanBeReported (Planned solved) = HasPlanFor solved.book solved.outcome × IsNoBound solved.outcome

-- what a search under quotas answers, as the outcome that is reported
abbrev pub outcome_of : QuotaOutcome → Outcome
outcome_of (Least plan cost) = Optimal plan cost
outcome_of NoneKept = Infeasible

-- a book and its quotas are no refusal
abbrev pub AreNoRefusal : QuotaCase → Refusal → Type 0
AreNoRefusal case refusal = ⊥

-- the book was planned, and the outcome is true of it and its quotas
abbrev pub IsPlannedUnder : QuotaCase → UnderQuotas → Type 0
IsPlannedUnder case (Refused code place) = ⊥
IsPlannedUnder case (Planned solved) = (solved.book ≡ case.book) × IsLeastUnder case.book case.quotas solved.outcome

-- this is answered of a book and its quotas
abbrev pub AreSearched : BookSeen → List Quota → QuotaAnswer → Type 0
AreSearched book quotas answer = IsAnswerTo AreNoRefusal IsPlannedUnder (record { book = book; quotas = quotas }) answer
