-- When an answer is true, and what is printed for it. For src/run.rt.
use Rattle.std.specs.Prelude.{ℕ, ◌≡◌, false, List, Option, Some, Ok, Err, IfSome}
use Rattle.tail_book.specs.Seen.{BookSeen}
use Rattle.tail_book.specs.Truth.{IsTrueOutcome}
use Rattle.tail_book.specs.declared.outcome.Outcome.{Outcome}
use Rattle.tail_book.specs.CostTable.{costs_of}
use Rattle.tail_outside.specs.Shown.{FilesShown}
use Rattle.tail_text.specs.declared.refusal.Refusal.{Refusal}
use Rattle.book_maker.specs.Made.{book_of}
use Rattle.branch_tree.specs.declared.limit.Limit.{Limit}
use Rattle.cert_lines.specs.declared.version.Version.{Version}
use Rattle.certified_search.specs.OrderedTree.{HasTreeIn}
use Rattle.certified_search.specs.Written.{IsCertificateOf, IsFrontOfDue}
use Rattle.certified_search.specs.declared.order.Order.{Order}
use Rattle.plan_report.specs.Lines.{text_of}
use Rattle.plan_report.specs.Report.{report_lines}
use Rattle.run_frame.specs.Answer.{IsTrueAnswer as IsTrueOf, lines_of}
use Rattle.run_frame.specs.TableFiles.{OfHeld}
use Rattle.run_frame.specs.declared.answer.Answer.{Answer as AnswerOf}
use Rattle.tailplan.specs.Tasks.{MayUseTask, TaskSeen, cert_in, task_held}
use Rattle.tailplan.specs.Usage.{usage_line}
use Rattle.tailplan.specs.Words.{run_of}
use Rattle.tailplan.specs.declared.answer.Solved.{Solved}

-- what a run answers
abbrev pub Answer : Type 0
Answer = AnswerOf Solved

-- the tables that the words name may be read, and the certificate's file may be written
abbrev pub MayUse : List (List ℕ) → FilesShown → Type 0
MayUse words files = IfSome (run_of words) (MayUseTask files)

-- the name of the certificate's file, where the words give one
abbrev pub cert_of : List (List ℕ) → Option (List ℕ)
cert_of words = cert_in (run_of words)

-- the words give a task, and P holds of it with the tables under its names, where they are told
abbrev pub OfTask : List (List ℕ) → FilesShown → (TaskSeen → Type 0) → Type 0
OfTask words files P = OfHeld (run_of words) (task_held files) P

-- the tables of the task are this book
abbrev pub IsBookOf : TaskSeen → BookSeen → Type 0
IsBookOf task book = book_of task.tables.timetable task.tables.fleet task.tables.rules ≡ Ok book

-- this is the first refusal of the tables
abbrev pub AreRefused : TaskSeen → Refusal → Type 0
AreRefused task refusal = book_of task.tables.timetable task.tables.fleet task.tables.rules ≡ Err refusal

-- a tree of the book in this order, within the limit, has this outcome
abbrev pub HasTree : BookSeen → Limit → Order → Outcome → Type 0
HasTree book limit order outcome = HasTreeIn order (costs_of book) book limit outcome

-- the file of this name is there, and P holds of its text
abbrev pub HoldsText : FilesShown → List ℕ → (List ℕ → Type 0) → Type 0
HoldsText files name P = (text : List ℕ) × (files.holds name ≡ Some text) × P text

-- the file of this name holds a certificate of the outcome in this version, where anything is told of it
abbrev pub HoldsCertificate : FilesShown → BookSeen → Limit → Order → Version → Outcome → List ℕ → Type 0
HoldsCertificate files book limit order version outcome name =
    files.ceased name ≡ false → HoldsText files name (IsCertificateOf book limit order version outcome)

-- so does the certificate's file, where the task names one
abbrev pub IsCertified : FilesShown → TaskSeen → BookSeen → Outcome → Type 0
IsCertified files task book outcome = IfSome task.cert (HoldsCertificate files book task.limit task.order task.version outcome)

-- the tables are this book, of which the outcome is true, a tree in the order of the task, within the limit, has it, and it is certified
-- in the files as they are left
abbrev pub AreSolved : FilesShown → TaskSeen → Solved → Type 0
AreSolved later task solved =
    IsBookOf task solved.book × IsTrueOutcome solved.book solved.outcome × HasTree solved.book task.limit task.order solved.outcome
    × IsCertified later task solved.book solved.outcome

-- the answer is true of these words and files, and of what the files are left with
abbrev pub IsTrueAnswer : List (List ℕ) → FilesShown → FilesShown → Answer → Type 0
IsTrueAnswer words files later answer = IsTrueOf (run_of words) (task_held files) AreRefused (AreSolved later) answer

-- the text is a front of what was due in the certificate's file of the task
abbrev pub HasFrontOfDue : TaskSeen → List ℕ → Type 0
HasFrontOfDue task text = (book : BookSeen) × IsBookOf task book × IsFrontOfDue book task.limit task.order task.version text

-- what is printed for an answer
abbrev pub answer_text : Answer → List ℕ
answer_text answer = text_of (lines_of usage_line (λ solved. report_lines solved.book solved.outcome) answer)
