-- From an answer to what was read to one to the words: what was read are the fronts of the files, which say the same as the whole.
use Rattle.std.proofs.Common.{◌≡◌, ◌∙◌, ℕ, List, Option, Result, Ok, None, Some, IfSome, ap, ap₂, refl, subst, sym}
use Rattle.std.specs.Prelude.{option_and_then, option_map}
use Rattle.tail_book.specs.Seen.{BookSeen, RawPlanSeen}
use Rattle.tail_outside.specs.Shown.{FilesShown}
use Rattle.tail_text.specs.Checks.{look}
use Rattle.tail_text.specs.declared.refusal.Refusal.{Refusal}
use Rattle.book_maker.specs.Made.{book_of}
use Rattle.plan_report.specs.PlanText.{plan_in, refused as refused_plan}
use Rattle.run_frame.proofs.Fronts.{book_of-fronts, front-limited}
use Rattle.run_frame.specs.inside.Answer.{IsAnswerTo}
use Rattle.run_frame.specs.inside.TableFiles.{front, fronts}
use Rattle.run_frame.specs.TableFiles.{tables_held}
use Rattle.run_frame.specs.Tables.{TablesSeen}
use Rattle.run_frame.specs.declared.answer.Answer.TheVariants.{Usage, Refused, Found, ReadFailed, Memory}
use Rattle.tailcheck.specs.Answers.{Answer, AreJudged, AreRefused, IsTrueAnswer}
use Rattle.tailcheck.specs.Cases.{PlanCase, CertificateCase, case_of}
use Rattle.tailcheck.specs.Texts.{SubjectName, PlanName, CertificateName, SubjectSeen, PlanBytes, CertificateBytes, CheckNamesSeen, TextsSeen, subject_held}
use Rattle.tailcheck.specs.Words.{check_of}
use Rattle.tailcheck.specs.declared.answer.Judgement.{Judgement}
use Rattle.tailcheck.specs.declared.answer.Judgement.TheVariants.{Plan, Certificate, TooLong}
use Rattle.tailcheck.specs.inside.Findings.{IsAnswerOver, IsVerdictOn}
use Rattle.tailcheck.specs.inside.Texts.{subject_front, text_fronts}

plan_in-front : (bytes : List ℕ) → plan_in (front bytes) ≡ plan_in bytes
plan_in-front bytes = front-limited plan_in (refused_plan 1 0) (λ b big. rw big refl) bytes

-- what is judged of the fronts is what is judged of the whole files
case_of-fronts : (tables : TablesSeen) (subject : SubjectSeen)
    → case_of (text_fronts (record { tables = tables; subject = subject })) ≡ case_of (record { tables = tables; subject = subject })
case_of-fronts tables (PlanBytes bytes) =
    ap₂ (λ (b : Result BookSeen Refusal) (p : Result RawPlanSeen Refusal). look b (λ book. look p (λ plan. Ok (PlanCase book plan))))
    (book_of-fronts tables) (plan_in-front bytes)
case_of-fronts tables (CertificateBytes text) = ap (λ (b : Result BookSeen Refusal). look b (λ book. Ok (CertificateCase book text))) (book_of-fronts tables)

-- other files that hold the same under the name hold the same to judge
same_held : (one other : FilesShown) (name : SubjectName) → ((bytes_of : List ℕ) → other.holds bytes_of ≡ one.holds bytes_of) → subject_held other name ≡ subject_held one name
same_held one other (PlanName name) same = ap (λ (held : Option (List ℕ)). option_map PlanBytes held) (same name)
same_held one other (CertificateName name) same = ap (λ (held : Option (List ℕ)). Some (CertificateBytes held)) (same name)

-- what holds of the tables that were read and of the front of what is judged holds of the whole, where the whole has what its
-- fronts have
grown : (P : TextsSeen → Type 0) → ((tables : TablesSeen) (subject : SubjectSeen) → P (text_fronts (record { tables = tables; subject = subject })) → P (record { tables = tables; subject = subject }))
    → (read : TablesSeen) (tables : Option TablesSeen) (subject : Option SubjectSeen) → IfSome tables (λ whole. read ≡ fronts whole)
    → IfSome subject (λ whole. P (record { tables = read; subject = subject_front whole }))
    → IfSome (option_and_then (λ t. option_map (λ s. record { tables = t; subject = s }) subject) tables) P
grown P grows read None subject is own = tt
grown P grows read (Some tables) None is own = tt
grown P grows read (Some tables) (Some subject) is own =
    grows tables subject (subst (λ (t : TablesSeen). P (record { tables = t; subject = subject_front subject })) is own)

still_refused : (refusal : Refusal) (tables : TablesSeen) (subject : SubjectSeen) → AreRefused (text_fronts (record { tables = tables; subject = subject })) refusal
    → AreRefused (record { tables = tables; subject = subject }) refusal
still_refused refusal tables subject h = sym (case_of-fronts tables subject) ∙ h

still_judged : (found : Judgement) (tables : TablesSeen) (subject : SubjectSeen) → AreJudged (text_fronts (record { tables = tables; subject = subject })) found
    → AreJudged (record { tables = tables; subject = subject }) found
still_judged (Plan judged) tables subject h = (h.0, sym (case_of-fronts tables subject) ∙ h.1, h.2)
still_judged (Certificate found) tables subject h = (h.0, h.1, sym (case_of-fronts tables subject) ∙ h.2, h.3, h.4)
still_judged TooLong tables subject h = (h.0, h.1, sym (case_of-fronts tables subject) ∙ h.2, h.3)

-- an answer over the files after the tables were read is a true answer to the words
pub true_answer : (words : List (List ℕ)) (files later : FilesShown) (names : CheckNamesSeen) (read : TablesSeen) (answer : Answer) → check_of words ≡ Some names
    → IfSome (tables_held files names.tables) (λ whole. read ≡ fronts whole) → ((name : List ℕ) → later.holds name ≡ files.holds name)
    → IsAnswerOver later read names.subject answer → IsTrueAnswer words files answer
true_answer words files later names read Usage given is same h = absurd h
true_answer words files later names read (Refused refusal) given is same h = (
  names,
  given,
  grown (λ texts. AreRefused texts refusal) (still_refused refusal) read (tables_held files names.tables) (subject_held files names.subject) is
      (subst (λ (s : Option SubjectSeen). IfSome s (λ whole. AreRefused (record { tables = read; subject = subject_front whole }) refusal)) (same_held files later names.subject same) h),
)
true_answer words files later names read (Found found) given is same h = (
  names,
  given,
  grown (λ texts. AreJudged texts found) (still_judged found) read (tables_held files names.tables) (subject_held files names.subject) is
      (subst (λ (s : Option SubjectSeen). IfSome s (λ whole. AreJudged (record { tables = read; subject = subject_front whole }) found)) (same_held files later names.subject same) h),
)
true_answer words files later names read ReadFailed given is same h = (names, given)
true_answer words files later names read Memory given is same h = tt

-- what holds of a plan's bytes that were read up to the limit holds of the front of what is held
plan_read : (P : TextsSeen → Type 0) (tables : TablesSeen) (read : List ℕ) (held : Option (List ℕ)) → IfSome held (λ bytes. read ≡ front bytes)
    → P (record { tables = tables; subject = PlanBytes read }) → IfSome (option_map PlanBytes held) (λ whole. P (record { tables = tables; subject = subject_front whole }))
plan_read P tables read None is own = tt
plan_read P tables read (Some bytes) is own = subst (λ (b : List ℕ). P (record { tables = tables; subject = PlanBytes b })) is own

-- an answer to a plan's bytes that were read up to the limit is one over the files
pub plan_over : (files : FilesShown) (tables : TablesSeen) (name read : List ℕ) (answer : Answer) → IfSome (files.holds name) (λ bytes. read ≡ front bytes)
    → IsAnswerTo AreRefused AreJudged (record { tables = tables; subject = PlanBytes read }) answer → IsAnswerOver files tables (PlanName name) answer
plan_over files tables name read Usage is h = absurd h
plan_over files tables name read (Refused refusal) is h = plan_read (λ texts. AreRefused texts refusal) tables read (files.holds name) is h
plan_over files tables name read (Found found) is h = plan_read (λ texts. AreJudged texts found) tables read (files.holds name) is h
plan_over files tables name read ReadFailed is h = absurd h
plan_over files tables name read Memory is h = tt

-- a book and a plan that are read are a case
pub plan_case : (tables : TablesSeen) (bytes : List ℕ) (book : BookSeen) (plan : RawPlanSeen) → book_of tables.timetable tables.fleet tables.rules ≡ Ok book → plan_in bytes ≡ Ok plan
    → case_of (record { tables = tables; subject = PlanBytes bytes }) ≡ Ok (PlanCase book plan)
plan_case tables bytes book plan is_book is_plan = rw (is_book, is_plan) refl

-- so is a book with a certificate, whatever stands there
certificate_case : (tables : TablesSeen) (text : Option (List ℕ)) (book : BookSeen) → book_of tables.timetable tables.fleet tables.rules ≡ Ok book
    → case_of (record { tables = tables; subject = CertificateBytes text }) ≡ Ok (CertificateCase book text)
certificate_case tables text book is_book = rw is_book refl

-- a verdict on a certificate is one over the files
pub verdict_over : (files : FilesShown) (tables : TablesSeen) (name : List ℕ) (book : BookSeen) (answer : Answer) → book_of tables.timetable tables.fleet tables.rules ≡ Ok book
    → IsVerdictOn book (files.holds name) answer → IsAnswerOver files tables (CertificateName name) answer
verdict_over files tables name book Usage is_book h = absurd h
verdict_over files tables name book (Refused refusal) is_book h = absurd h
verdict_over files tables name book (Found (Plan judged)) is_book h = absurd h
verdict_over files tables name book (Found (Certificate found)) is_book h = (book, files.holds name, certificate_case tables (files.holds name) book is_book, h.0, h.1)
verdict_over files tables name book (Found TooLong) is_book h = (book, files.holds name, certificate_case tables (files.holds name) book is_book, h)
verdict_over files tables name book ReadFailed is_book h = tt
verdict_over files tables name book Memory is_book h = tt
