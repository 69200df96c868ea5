-- The status of an answer, and of an audit that is found; when an answer can be printed, and what printing it leaves.
use Rattle.std.specs.Prelude.{ℕ, ◌≡◌, ◌⊎◌, ⊤, List, Err}
use Rattle.tail_outside.specs.Outside.{PieceHasFailed, Takes, TakesFront}
use Rattle.tail_outside.specs.Shown.{SinkShown}
use Rattle.tail_text.specs.declared.refusal.Refusal.{Refusal}
use Rattle.book_maker.specs.Made.{book_of}
use Rattle.plan_audit.specs.declared.broken.Audit.{Audit}
use Rattle.plan_audit.specs.declared.broken.Audit.TheVariants.{Legal, Broken}
use Rattle.run_frame.specs.Tables.{TablesSeen}
use Rattle.run_frame.specs.declared.answer.Answer.{Answer}
use Rattle.run_frame.specs.declared.answer.Answer.TheVariants.{Usage, Refused, Found, ReadFailed, Memory}

-- the status of an answer that was printed, by that of what was found
abbrev pub status_of : {T : Type 0} → (T → ℕ) → Answer T → ℕ
status_of code Usage = 2
status_of code (Refused refusal) = 3
status_of code (Found found) = code found
status_of code ReadFailed = 5
status_of code Memory = 7

-- the status of an audit that was printed or drawn
abbrev pub audit_status : Audit → ℕ
audit_status (Legal cost) = 0
audit_status (Broken rules) = 1

-- what was found can be printed
abbrev pub IsPrintable : {T : Type 0} → (T → Type 0) → Answer T → Type 0
IsPrintable is_printable Usage = ⊤
IsPrintable is_printable (Refused refusal) = ⊤
IsPrintable is_printable (Found found) = is_printable found
IsPrintable is_printable ReadFailed = ⊤
IsPrintable is_printable Memory = ⊤

-- an answer to what was read is true: what was read is refused so, or this is found in it
abbrev pub IsAnswerTo : {X T : Type 0} → (X → Refusal → Type 0) → (X → T → Type 0) → X → Answer T → Type 0
IsAnswerTo refuses finds x Usage = ⊥
IsAnswerTo refuses finds x (Refused refusal) = refuses x refusal
IsAnswerTo refuses finds x (Found found) = finds x found
IsAnswerTo refuses finds x ReadFailed = ⊥
IsAnswerTo refuses finds x Memory = ⊤

-- the tables are no book, and this answer tells why: their first refusal, or that memory was wanting
abbrev pub IsNoBook : {T : Type 0} → TablesSeen → Answer T → Type 0
IsNoBook tables Usage = ⊥
IsNoBook tables (Refused refusal) = book_of tables.timetable tables.fleet tables.rules ≡ Err refusal
IsNoBook tables (Found found) = ⊥
IsNoBook tables ReadFailed = ⊥
IsNoBook tables Memory = ⊤

-- the text was printed, and the status says so; or a fault or want of memory came, and a front of it was printed
abbrev pub IsPrinted : List ℕ → ℕ → SinkShown → SinkShown → ℕ → Type 0
IsPrinted due code before after status =
    ((status ≡ code) × Takes before after due)
    ⊎ ((status ≡ 6) × PieceHasFailed before after × TakesFront before after due)
    ⊎ ((status ≡ 7) × TakesFront before after due)
