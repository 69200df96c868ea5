-- When the answer of a run under quotas is true, and what is printed for it. For src/quota_run.rt and src/under_quotas.rt.
use Rattle.std.specs.Prelude.{ℕ, List, [], ◌∷◌, ◌++◌, codes, decimal, IfSome}
use Rattle.tail_book.specs.Seen.{BookSeen}
use Rattle.tail_book.specs.declared.outcome.Outcome.{Outcome}
use Rattle.tail_book.specs.declared.outcome.Outcome.TheVariants.{Optimal, Infeasible, Between, Above}
use Rattle.tail_outside.specs.Shown.{FilesShown}
use Rattle.plan_report.specs.Lines.{newline, text_of}
use Rattle.plan_report.specs.Report.{report_lines}
use Rattle.quota_rows.specs.KeptPlans.{HasNoKeptPlan, IsLeastKept}
use Rattle.quota_rows.specs.QuotaTable.{QuotaRefusal, refused_at}
use Rattle.quota_rows.specs.declared.quota.Quota.{Quota}
use Rattle.run_frame.specs.Answer.{IsTrueAnswer as IsTrueOf, lines_of}
use Rattle.run_frame.specs.TableFiles.{OfHeld}
use Rattle.run_frame.specs.declared.answer.Answer.{Answer as AnswerOf}
use Rattle.tailplan.specs.FourTexts.{FourTextsSeen, MayReadTexts, texts_held}
use Rattle.tailplan.specs.QuotaCases.{HaveNoBook, HaveNoQuotas, IsQuotaCase}
use Rattle.tailplan.specs.QuotaWords.{quota_of}
use Rattle.tailplan.specs.Usage.{quota_usage_line}
use Rattle.tailplan.specs.declared.answer.Solved.{Solved}
use Rattle.tailplan.specs.declared.under_quotas.UnderQuotas.{UnderQuotas}
use Rattle.tailplan.specs.declared.under_quotas.UnderQuotas.TheVariants.{Refused, Planned}

-- what a run under quotas answers
abbrev pub QuotaAnswer : Type 0
QuotaAnswer = AnswerOf UnderQuotas

-- the files that the words name may be read
abbrev pub MayReadQuotas : List (List ℕ) → FilesShown → Type 0
MayReadQuotas words files = IfSome (quota_of words) (MayReadTexts files)

-- the words give four names, and P holds of the files under them, where they are told
abbrev pub OfFour : List (List ℕ) → FilesShown → (FourTextsSeen → Type 0) → Type 0
OfFour words files P = OfHeld (quota_of words) (texts_held files) P

-- the outcome is a least plan among those that keep the quotas, or that no legal plan keeps them
abbrev pub IsLeastUnder : BookSeen → List Quota → Outcome → Type 0
IsLeastUnder book quotas (Optimal plan cost) = IsLeastKept book quotas cost plan
IsLeastUnder book quotas Infeasible = HasNoKeptPlan book quotas
IsLeastUnder book quotas (Between plan low high nodes) = ⊥
IsLeastUnder book quotas (Above low nodes) = ⊥

-- the tables are this book, of whose quotas the outcome is true
abbrev pub AreKept : FourTextsSeen → Solved → Type 0
AreKept texts solved = (quotas : List Quota) × IsQuotaCase texts (record { book = solved.book; quotas = quotas }) × IsLeastUnder solved.book quotas solved.outcome

-- the quotas are refused so, or the outcome is true of them
abbrev pub AreUnderQuotas : FourTextsSeen → UnderQuotas → Type 0
AreUnderQuotas texts (Refused code place) = HaveNoQuotas texts (refused_at code place)
AreUnderQuotas texts (Planned solved) = AreKept texts solved

-- the answer is true of these words and files
abbrev pub IsTrueQuotaAnswer : List (List ℕ) → FilesShown → QuotaAnswer → Type 0
IsTrueQuotaAnswer words files answer = IsTrueOf (quota_of words) (texts_held files) HaveNoBook AreUnderQuotas answer

-- what is printed where the quotas are refused: the refusal's code, the word `quotas`, and its place
abbrev pub quota_refusal_line : QuotaRefusal → List ℕ
quota_refusal_line refusal = codes "refused " ++ decimal refusal.code ++ codes " quotas " ++ decimal refusal.place ++ newline

-- what is printed of what was found
abbrev pub quota_lines : UnderQuotas → List (List ℕ)
quota_lines (Refused code place) = quota_refusal_line (refused_at code place) ∷ []
quota_lines (Planned solved) = report_lines solved.book solved.outcome

-- what is printed for an answer
abbrev pub quota_answer_text : QuotaAnswer → List ℕ
quota_answer_text answer = text_of (lines_of quota_usage_line quota_lines answer)
