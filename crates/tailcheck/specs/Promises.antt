-- What a run promises by its status, and when each status comes. For src/run.rt.
use Rattle.std.specs.Prelude.{ℕ, ◌≡◌, ◌≢◌, ◌==◌, ◌⊎◌, List, [], Option, IfSome, Ok, cond}
use Rattle.tail_book.specs.Seen.{BookSeen, RawPlanSeen}
use Rattle.tail_book.specs.Truth.{IsPlanOf, IsTrueClaim}
use Rattle.tail_book.specs.declared.claim.Claim.{Claim}
use Rattle.tail_outside.specs.Outside.{Takes}
use Rattle.tail_outside.specs.Shown.{FilesShown, SinkShown}
use Rattle.cert_checker.specs.Certificate.{Accepts}
use Rattle.cert_checker.specs.Verdict.{verdict}
use Rattle.cert_checker.specs.declared.verdict.Verdict.TheVariants.{No}
use Rattle.plan_audit.specs.Broken.{broken}
use Rattle.plan_audit.specs.Kept.{kept}
use Rattle.plan_report.specs.AuditText.{broken_lines, legal_line}
use Rattle.plan_report.specs.Lines.{text_of}
use Rattle.run_frame.specs.Promise.{ElsePromise, Judges, Refuses}
use Rattle.tailcheck.specs.Answers.{AreRefused, IsDecided, IsShort, IsTooLong, IsTrueAnswer, OfTexts, answer_text}
use Rattle.tailcheck.specs.Cases.{Case, PlanCase, CertificateCase, case_of}
use Rattle.tailcheck.specs.Texts.{texts_held, TextsSeen}
use Rattle.tailcheck.specs.Usage.{usage_line}
use Rattle.tailcheck.specs.VerdictText.{no_line, too_long_line, yes_line}
use Rattle.tailcheck.specs.Words.{check_of}

-- the tables are a book, the plan breaks none of its rules, and the cost was printed of the kept plan, which is legal
pub record PrintsLegal (before after : SinkShown) (texts : TextsSeen) : Type 0 where
  pub book : BookSeen
  pub plan : RawPlanSeen
  pub cost : ℕ
  pub is : case_of texts ≡ Ok (PlanCase book plan)
  pub unbroken : broken book plan ≡ []
  pub legal : IsPlanOf book cost (kept book plan)
  pub printed : Takes before after (legal_line cost)

-- the tables are a book, the plan breaks some of its rules, and exactly these were printed
pub record PrintsBroken (before after : SinkShown) (texts : TextsSeen) : Type 0 where
  pub book : BookSeen
  pub plan : RawPlanSeen
  pub is : case_of texts ≡ Ok (PlanCase book plan)
  pub some : broken book plan ≢ []
  pub printed : Takes before after (text_of (broken_lines book (broken book plan)))

-- the tables are a book, its certificate is accepted for the claim that was printed, and this claim is true of the book
pub record PrintsYes (before after : SinkShown) (texts : TextsSeen) : Type 0 where
  pub book : BookSeen
  pub text : Option (List ℕ)
  pub claim : Claim
  pub is : case_of texts ≡ Ok (CertificateCase book text)
  pub accepted : IfSome text (λ bytes. Accepts book bytes claim)
  pub truth : IsTrueClaim book claim
  pub printed : Takes before after (yes_line claim)

-- the tables are a book, and the line and the reason were printed of the certificate's first failure
pub record PrintsNo (before after : SinkShown) (texts : TextsSeen) : Type 0 where
  pub book : BookSeen
  pub text : Option (List ℕ)
  pub line : ℕ
  pub reason : ℕ
  pub is : case_of texts ≡ Ok (CertificateCase book text)
  pub failed : IfSome text (λ bytes. verdict book bytes ≡ No line reason)
  pub printed : Takes before after (no_line line reason)

-- the tables are a book, the certificate has more bytes than are judged and fails in none of those, and that was printed
pub record PrintsTooLong (before after : SinkShown) (texts : TextsSeen) : Type 0 where
  pub book : BookSeen
  pub text : Option (List ℕ)
  pub is : case_of texts ≡ Ok (CertificateCase book text)
  pub long : IfSome text (IsTooLong book)
  pub printed : Takes before after too_long_line

-- what a run over these words and files promises by its status, where the output was first so and then so: 0 that the plan
-- is legal or the certificate's claim true, 1 which rules the plan breaks or where the certificate fails, 8 that the certificate
-- is too long, and else what every run promises
abbrev pub Promise : List (List ℕ) → FilesShown → SinkShown → SinkShown → ℕ → Type 0
Promise words files before after status =
    cond (status == 0) (OfTexts words files (λ texts. PrintsLegal before after texts ⊎ PrintsYes before after texts)) (
    cond (status == 1) (OfTexts words files (λ texts. PrintsBroken before after texts ⊎ PrintsNo before after texts)) (
    cond (status == 8) (OfTexts words files (PrintsTooLong before after)) (
    ElsePromise (check_of words) (texts_held files) AreRefused usage_line (IsTrueAnswer words files) answer_text before after status)))

-- the certificate is accepted for some claim
abbrev pub IsAccepted : BookSeen → List ℕ → Type 0
IsAccepted book bytes = (claim : Claim) × Accepts book bytes claim

-- the status says whether the plan breaks a rule: 0 where it breaks none, and 1 where it breaks some; or whether the certificate is
-- accepted: 0 where it is, 1 where it is not, and 8 where it is too long to be judged
abbrev pub IsVerdict : Case → ℕ → Type 0
IsVerdict (PlanCase book plan) status = ((status ≡ 0) × (broken book plan ≡ [])) ⊎ ((status ≡ 1) × (broken book plan ≢ []))
IsVerdict (CertificateCase book text) status =
    ((status ≡ 0) × IfSome text (λ bytes. IsShort bytes × IsAccepted book bytes))
    ⊎ (((status ≡ 1) × IfSome text (λ bytes. IsDecided book bytes × (IsAccepted book bytes → ⊥))) ⊎ ((status ≡ 8) × IfSome text (IsTooLong book)))

-- files that are refused end with status 3, unless a read or a write failed or memory was wanting
abbrev pub RefusesTexts : List (List ℕ) → FilesShown → ℕ → Type 0
RefusesTexts words files status = Refuses (check_of words) (texts_held files) AreRefused status

-- a plan that is read and a certificate are judged, unless a read or a write failed or memory was wanting
abbrev pub JudgesTexts : List (List ℕ) → FilesShown → ℕ → Type 0
JudgesTexts words files status = Judges (check_of words) (texts_held files) (λ texts case. case_of texts ≡ Ok case) IsVerdict status
