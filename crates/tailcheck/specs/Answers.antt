-- When an answer is true, and what is printed for it. For src/audited.rt, src/run.rt and others.
use Rattle.std.specs.Prelude.{ℕ, ◌≡◌, ◌≢◌, ◌<◌, ◌≤◌, ◌⊎◌, ⊤, List, [], ◌∷◌, length, take, Option, Ok, Err, IfSome}
use Rattle.tail_book.specs.Seen.{BookSeen, RawPlanSeen}
use Rattle.tail_book.specs.Truth.{IsTrueClaim}
use Rattle.tail_outside.specs.Shown.{FilesShown}
use Rattle.tail_text.specs.declared.refusal.Refusal.{Refusal}
use Rattle.cert_checker.specs.Judged.{judged}
use Rattle.cert_checker.specs.Verdict.{verdict}
use Rattle.cert_checker.specs.declared.verdict.Verdict.{Verdict}
use Rattle.cert_checker.specs.declared.verdict.Verdict.TheVariants.{Yes, No}
use Rattle.plan_audit.specs.Broken.{IsAuditOf}
use Rattle.plan_report.specs.AuditText.{audit_lines}
use Rattle.plan_report.specs.Lines.{text_of}
use Rattle.run_frame.specs.Answer.{IsTrueAnswer as IsTrueOf, lines_of}
use Rattle.run_frame.specs.TableFiles.{OfHeld}
use Rattle.run_frame.specs.declared.answer.Answer.{Answer as AnswerOf}
use Rattle.tailcheck.specs.Cases.{PlanCase, CertificateCase, case_of}
use Rattle.tailcheck.specs.Texts.{MayReadTexts, texts_held, TextsSeen}
use Rattle.tailcheck.specs.Usage.{usage_line}
use Rattle.tailcheck.specs.VerdictText.{too_long_line, verdict_line}
use Rattle.tailcheck.specs.Words.{check_of}
use Rattle.tailcheck.specs.declared.answer.Judgement.{Judgement}
use Rattle.tailcheck.specs.declared.answer.Judgement.TheVariants.{Plan, Certificate, TooLong}
use Rattle.tailcheck.specs.declared.certified.TheConstants.{CERTIFICATE_LIMIT}

-- what a run answers
abbrev pub Answer : Type 0
Answer = AnswerOf Judgement

-- the files that the words name may be read
abbrev pub MayRead : List (List ℕ) → FilesShown → Type 0
MayRead words files = IfSome (check_of words) (MayReadTexts files)

-- the words give four names, and P holds of the files under them, where they are told
abbrev pub OfTexts : List (List ℕ) → FilesShown → (TextsSeen → Type 0) → Type 0
OfTexts words files P = OfHeld (check_of words) (texts_held files) P

-- this is the first refusal of the tables, or, where they are a book, of the plan's file
abbrev pub AreRefused : TextsSeen → Refusal → Type 0
AreRefused texts refusal = case_of texts ≡ Err refusal

-- what a yes claims is true of the book
abbrev pub IsTrueVerdict : BookSeen → Verdict → Type 0
IsTrueVerdict book (Yes claim) = IsTrueClaim book claim
IsTrueVerdict book (No line reason) = ⊤

-- the certificate has no more bytes than are judged
abbrev pub IsShort : List ℕ → Type 0
IsShort bytes = length bytes ≤ CERTIFICATE_LIMIT

-- it has no more, or so many of them meet a failure
abbrev pub IsDecided : BookSeen → List ℕ → Type 0
IsDecided book bytes = IsShort bytes ⊎ ((failure : Verdict) × (judged book (take CERTIFICATE_LIMIT bytes) ≡ Err failure))

-- so much of the certificate decides, and this is the verdict on it
abbrev pub IsJudgedSo : BookSeen → Verdict → List ℕ → Type 0
IsJudgedSo book found bytes = IsDecided book bytes × (verdict book bytes ≡ found)

-- the certificate has more bytes than are judged, and so many of them meet no failure
abbrev pub IsTooLong : BookSeen → List ℕ → Type 0
IsTooLong book bytes = (CERTIFICATE_LIMIT < length bytes) × ((failure : Verdict) → judged book (take CERTIFICATE_LIMIT bytes) ≢ Err failure)

-- the tables are a book, and this is what an audit of the plan's file finds, or the verdict on the certificate, or the
-- certificate is too long
abbrev pub AreJudged : TextsSeen → Judgement → Type 0
AreJudged texts (Plan judged) = (plan : RawPlanSeen) × (case_of texts ≡ Ok (PlanCase judged.book plan)) × IsAuditOf judged.book plan judged.found
AreJudged texts (Certificate found) =
    (book : BookSeen) × (text : Option (List ℕ)) × (case_of texts ≡ Ok (CertificateCase book text))
    × IsTrueVerdict book found × IfSome text (IsJudgedSo book found)
AreJudged texts TooLong =
    (book : BookSeen) × (text : Option (List ℕ)) × (case_of texts ≡ Ok (CertificateCase book text)) × IfSome text (IsTooLong book)

-- the answer is true of these words and files
abbrev pub IsTrueAnswer : List (List ℕ) → FilesShown → Answer → Type 0
IsTrueAnswer words files answer = IsTrueOf (check_of words) (texts_held files) AreRefused AreJudged answer

-- the lines of what was found
abbrev pub found_lines : Judgement → List (List ℕ)
found_lines (Plan judged) = audit_lines judged.book judged.found
found_lines (Certificate found) = verdict_line found ∷ []
found_lines TooLong = too_long_line ∷ []

-- what is printed for an answer
abbrev pub answer_text : Answer → List ℕ
answer_text answer = text_of (lines_of usage_line found_lines answer)
