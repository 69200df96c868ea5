-- With which status a run ends that printed what it found, what can be printed, and when an answer is true of the files that were
-- read. For src/certified.rt, src/answer.rt and others.
use Rattle.std.specs.Prelude.{ℕ, ⊤, List, Option, IfSome}
use Rattle.tail_book.specs.Seen.{BookSeen}
use Rattle.tail_outside.specs.Shown.{FilesShown}
use Rattle.cert_checker.specs.declared.verdict.Verdict.{Verdict}
use Rattle.cert_checker.specs.declared.verdict.Verdict.TheVariants.{Yes, No}
use Rattle.plan_report.specs.inside.AuditText.{AreOfBook}
use Rattle.run_frame.specs.Tables.{TablesSeen}
use Rattle.run_frame.specs.inside.Answer.{audit_status}
use Rattle.run_frame.specs.declared.answer.Answer.TheVariants.{Usage, Refused, Found, ReadFailed, Memory}
use Rattle.tailcheck.specs.Answers.{Answer, AreJudged, AreRefused, IsJudgedSo, IsTooLong, IsTrueVerdict}
use Rattle.tailcheck.specs.Texts.{SubjectName, subject_held}
use Rattle.tailcheck.specs.declared.answer.Judgement.{Judgement}
use Rattle.tailcheck.specs.declared.answer.Judgement.TheVariants.{Plan, Certificate, TooLong}
use Rattle.tailcheck.specs.inside.Texts.{subject_front}

-- the status of a verdict that was printed
abbrev pub verdict_status : Verdict → ℕ
verdict_status (Yes claim) = 0
verdict_status (No line reason) = 1

-- and that of whatever was found
abbrev pub found_status : Judgement → ℕ
found_status (Plan judged) = audit_status judged.found
found_status (Certificate found) = verdict_status found
found_status TooLong = 8

-- the names of what an audit found are in the book
abbrev pub IsFit : Judgement → Type 0
IsFit (Plan judged) = AreOfBook judged.book judged.found
IsFit (Certificate found) = ⊤
IsFit TooLong = ⊤

-- the answer is true of the tables that were read, and of what is judged as far as it is read of the files
abbrev pub IsAnswerOver : FilesShown → TablesSeen → SubjectName → Answer → Type 0
IsAnswerOver files tables name Usage = ⊥
IsAnswerOver files tables name (Refused refusal) =
    IfSome (subject_held files name) (λ subject. AreRefused (record { tables = tables; subject = subject_front subject }) refusal)
IsAnswerOver files tables name (Found found) =
    IfSome (subject_held files name) (λ subject. AreJudged (record { tables = tables; subject = subject_front subject }) found)
IsAnswerOver files tables name ReadFailed = ⊤
IsAnswerOver files tables name Memory = ⊤

-- a verdict on a certificate, where its bytes are told, and true of the book, or that it is too long
abbrev pub IsVerdictOn : BookSeen → Option (List ℕ) → Answer → Type 0
IsVerdictOn book held Usage = ⊥
IsVerdictOn book held (Refused refusal) = ⊥
IsVerdictOn book held (Found (Plan judged)) = ⊥
IsVerdictOn book held (Found (Certificate found)) = IsTrueVerdict book found × IfSome held (IsJudgedSo book found)
IsVerdictOn book held (Found TooLong) = IfSome held (IsTooLong book)
IsVerdictOn book held ReadFailed = ⊤
IsVerdictOn book held Memory = ⊤
