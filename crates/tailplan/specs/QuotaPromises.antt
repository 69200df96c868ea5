-- What a run under quotas promises by its status, and when each status comes. For src/quota_run.rt and src/run.rt.
use Rattle.std.specs.Prelude.{ℕ, ◌≡◌, ◌==◌, ◌⊎◌, List, cond}
use Rattle.tail_book.specs.declared.outcome.Outcome.TheVariants.{Optimal, Infeasible}
use Rattle.tail_outside.specs.Outside.{Takes}
use Rattle.tail_outside.specs.Shown.{FilesShown, SinkShown}
use Rattle.plan_report.specs.Report.{report}
use Rattle.quota_rows.specs.KeptPlans.{HasNoKeptPlan, IsKeptPlan, IsLeastKept}
use Rattle.quota_rows.specs.QuotaTable.{QuotaRefusal}
use Rattle.run_frame.specs.Answer.{IsUnlessStopped}
use Rattle.run_frame.specs.Promise.{ElsePromise, Judges, PrintsRefusal}
use Rattle.run_frame.specs.TableFiles.{IsHeld}
use Rattle.tailplan.specs.FourTexts.{FourTextsSeen, texts_held}
use Rattle.tailplan.specs.QuotaAnswers.{IsTrueQuotaAnswer, OfFour, quota_answer_text, quota_refusal_line}
use Rattle.tailplan.specs.QuotaCases.{AreRefusedFour, HaveNoBook, HaveNoQuotas, IsQuotaCase, QuotaCase}
use Rattle.tailplan.specs.QuotaWords.{quota_of}
use Rattle.tailplan.specs.Usage.{quota_usage_line}

-- the files are a book and its quotas, and the report of a plan was printed that is legal, keeps the quotas, has the printed cost, and
-- is undercut by no legal plan that keeps them
pub record PrintsLeastKept (before after : SinkShown) (texts : FourTextsSeen) : Type 0 where
  pub case : QuotaCase
  pub plan : List (List ℕ)
  pub cost : ℕ
  pub is : IsQuotaCase texts case
  pub least : IsLeastKept case.book case.quotas cost plan
  pub printed : Takes before after (report case.book (Optimal plan cost))

-- the files are a book and quotas that no legal plan keeps, and that was printed
pub record PrintsNoneKept (before after : SinkShown) (texts : FourTextsSeen) : Type 0 where
  pub case : QuotaCase
  pub is : IsQuotaCase texts case
  pub none : HasNoKeptPlan case.book case.quotas
  pub printed : Takes before after (report case.book Infeasible)

-- the tables are a book, its quotas are refused, and the first refusal was printed
pub record PrintsQuotaRefusal (before after : SinkShown) (texts : FourTextsSeen) : Type 0 where
  pub refusal : QuotaRefusal
  pub is : HaveNoQuotas texts refusal
  pub printed : Takes before after (quota_refusal_line refusal)

-- the first refusal of the tables was printed, or, where they are a book, that of its quotas
abbrev pub PrintsRefusalOfFour : SinkShown → SinkShown → FourTextsSeen → Type 0
PrintsRefusalOfFour before after texts = PrintsRefusal HaveNoBook before after texts ⊎ PrintsQuotaRefusal before after texts

-- what a run under quotas promises of these words and files by its status, where the output was first so and then so: 0 a least plan
-- among those that keep the quotas, 1 that no legal plan keeps them, 3 the first refusal, and else what every run promises
abbrev pub QuotaPromise : List (List ℕ) → FilesShown → SinkShown → SinkShown → ℕ → Type 0
QuotaPromise words files before after status =
    cond (status == 0) (OfFour words files (PrintsLeastKept before after)) (
    cond (status == 1) (OfFour words files (PrintsNoneKept before after)) (
    cond (status == 3) (OfFour words files (PrintsRefusalOfFour before after)) (
    ElsePromise (quota_of words) (texts_held files) HaveNoBook quota_usage_line (IsTrueQuotaAnswer words files) quota_answer_text before after status)))

-- some legal plan keeps the quotas
abbrev pub HasKeptPlan : QuotaCase → Type 0
HasKeptPlan case = (plan : List (List ℕ)) × IsKeptPlan case.book case.quotas plan

-- the status says whether some legal plan keeps the quotas: 0 where one does, and 1 where none does
abbrev pub IsQuotaVerdict : QuotaCase → ℕ → Type 0
IsQuotaVerdict case status = ((status ≡ 0) × HasKeptPlan case) ⊎ ((status ≡ 1) × HasNoKeptPlan case.book case.quotas)

-- files that are refused end with status 3, unless a read or a write failed or memory was wanting
abbrev pub RefusesQuotas : List (List ℕ) → FilesShown → ℕ → Type 0
RefusesQuotas words files status =
    (texts : FourTextsSeen) → IsHeld (quota_of words) (texts_held files) texts → AreRefusedFour texts → (status ≡ 5) ⊎ IsUnlessStopped 3 status

-- of a book and its quotas it is said whether some legal plan keeps them, unless a read or a write failed or memory was wanting
abbrev pub JudgesQuotas : List (List ℕ) → FilesShown → ℕ → Type 0
JudgesQuotas words files status = Judges (quota_of words) (texts_held files) IsQuotaCase IsQuotaVerdict status
