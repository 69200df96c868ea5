-- How a run ends: what was printed of its answer, and what becomes of the files by it.
-- For src/book_plan.rt, src/run.rt and others.
use Rattle.std.specs.Prelude.{ℕ, ◌≡◌, ⊤, Result, Ok, Err, List, Option, IfSome, false, ◌⊎◌}
use Rattle.tail_outside.specs.Outside.{OnlyRead}
use Rattle.tail_outside.specs.Shown.{FilesShown, SinkShown}
use Rattle.tail_text.specs.declared.refusal.Refusal.{Refusal}
use Rattle.run_frame.specs.inside.Answer.{IsPrinted, status_of}
use Rattle.run_frame.specs.declared.answer.Answer.TheVariants.{Usage, Refused, Found, ReadFailed, Memory}
use Rattle.tail_book.specs.Seen.{BookSeen}
use Rattle.tail_book.specs.Truth.{IsTrueOutcome}
use Rattle.branch_tree.specs.declared.limit.Limit.{Limit}
use Rattle.cert_lines.specs.declared.version.Version.{Version}
use Rattle.certified_search.specs.Written.{IsFrontOfDue}
use Rattle.certified_search.specs.declared.order.Order.{Order}
use Rattle.tailplan.specs.Answers.{Answer, HasFrontOfDue, HasTree, HoldsCertificate, HoldsText, answer_text}
use Rattle.tailplan.specs.Tasks.{TaskSeen}
use Rattle.tailplan.specs.declared.answer.Solved.{Solved}
use Rattle.tailplan.specs.declared.answered.Unwritten.{Unwritten}
use Rattle.tailplan.specs.inside.Outcomes.{outcome_status}

-- an answer was printed, or nothing, where the certificate could not be written
abbrev pub IsReported : Result Answer Unwritten → SinkShown → SinkShown → ℕ → Type 0
IsReported (Ok answer) before after status = IsPrinted (answer_text answer) (status_of (λ solved. outcome_status solved.outcome) answer) before after status
IsReported (Err fail) before after status = (status ≡ 6) × (after ≡ before)

-- before the search the files are only read
abbrev pub KeepsFiles : FilesShown → FilesShown → Answer → Type 0
KeepsFiles old new Usage = OnlyRead old new
KeepsFiles old new (Refused refusal) = OnlyRead old new
KeepsFiles old new (Found solved) = ⊤
KeepsFiles old new ReadFailed = OnlyRead old new
KeepsFiles old new Memory = ⊤

-- where the task names a certificate's file, it holds what it held or a front of what was due
abbrev pub LeavesFile : TaskSeen → FilesShown → FilesShown → Type 0
LeavesFile task old new =
    IfSome task.cert (λ name. new.ceased name ≡ false → (new.holds name ≡ old.holds name) ⊎ HoldsText new name (HasFrontOfDue task))

-- what is planned: a book, under a limit and in an order, with or without a certificate, of a version
pub record Planned : Type 0 where
  pub book : BookSeen
  pub limit : Limit
  pub order : Order
  pub version : Version
  pub cert : Option (List ℕ)

-- a book, planned as a task asks
abbrev pub planned_of : BookSeen → TaskSeen → Planned
planned_of book task = record { book = book; limit = task.limit; order = task.order; version = task.version; cert = task.cert }

-- a book is no refusal
abbrev pub NeverRefused : Planned → Refusal → Type 0
NeverRefused planned refusal = ⊥

-- the outcome is true of the book, a tree in the order, within the limit, has it, and it is certified
abbrev pub IsPlanned : FilesShown → Planned → Solved → Type 0
IsPlanned later planned solved =
    (solved.book ≡ planned.book) × IsTrueOutcome planned.book solved.outcome × HasTree planned.book planned.limit planned.order solved.outcome
    × IfSome planned.cert (HoldsCertificate later planned.book planned.limit planned.order planned.version solved.outcome)

-- the file holds what it held, or a front of what was due of the book
abbrev pub LeavesPlanned : Planned → FilesShown → FilesShown → Type 0
LeavesPlanned planned old new =
    IfSome planned.cert (λ name. new.ceased name ≡ false
    → (new.holds name ≡ old.holds name) ⊎ HoldsText new name (IsFrontOfDue planned.book planned.limit planned.order planned.version))
