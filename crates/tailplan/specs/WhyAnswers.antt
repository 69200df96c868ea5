-- When the answer to why no plan is legal is true, and what is printed for it. For src/why_run.rt and src/explained.rt.
use Rattle.std.specs.Prelude.{ℕ, ◌≡◌, List, Ok, Err, IfSome}
use Rattle.tail_book.specs.Seen.{BookSeen}
use Rattle.tail_outside.specs.Shown.{FilesShown}
use Rattle.tail_text.specs.declared.refusal.Refusal.{Refusal}
use Rattle.book_maker.specs.Made.{book_of}
use Rattle.plan_report.specs.Lines.{text_of}
use Rattle.run_frame.specs.Answer.{IsTrueAnswer as IsTrueOf, lines_of}
use Rattle.run_frame.specs.TableFiles.{MayReadTables, OfHeld, tables_held}
use Rattle.run_frame.specs.Tables.{TablesSeen}
use Rattle.run_frame.specs.declared.answer.Answer.{Answer as AnswerOf}
use Rattle.shortage_report.specs.ShortageText.{why_lines}
use Rattle.shortage_report.specs.Why.{IsTrueWhy}
use Rattle.tailplan.specs.Usage.{why_usage_line}
use Rattle.tailplan.specs.WhyWords.{why_of}
use Rattle.tailplan.specs.declared.explained.Explained.{Explained}

-- what is answered
abbrev pub WhyAnswer : Type 0
WhyAnswer = AnswerOf Explained

-- the tables that the words name may be read
abbrev pub MayReadWhy : List (List ℕ) → FilesShown → Type 0
MayReadWhy words files = IfSome (why_of words) (MayReadTables files)

-- the words give three names, and P holds of the tables under them, where they are told
abbrev pub OfTables : List (List ℕ) → FilesShown → (TablesSeen → Type 0) → Type 0
OfTables words files P = OfHeld (why_of words) (tables_held files) P

-- the tables are this book
abbrev pub AreBook : TablesSeen → BookSeen → Type 0
AreBook tables book = book_of tables.timetable tables.fleet tables.rules ≡ Ok book

-- this is the first refusal of the tables
abbrev pub AreNoBook : TablesSeen → Refusal → Type 0
AreNoBook tables refusal = book_of tables.timetable tables.fleet tables.rules ≡ Err refusal

-- the tables are this book, and what is told of it is true
abbrev pub AreExplained : TablesSeen → Explained → Type 0
AreExplained tables found = AreBook tables found.book × IsTrueWhy found.book found.why

-- the answer is true of these words and files
abbrev pub IsTrueWhyAnswer : List (List ℕ) → FilesShown → WhyAnswer → Type 0
IsTrueWhyAnswer words files answer = IsTrueOf (why_of words) (tables_held files) AreNoBook AreExplained answer

-- what is printed for an answer
abbrev pub why_answer_text : WhyAnswer → List ℕ
why_answer_text answer = text_of (lines_of why_usage_line (λ found. why_lines found.book found.why) answer)
