-- When the answer of a run that draws a shortage is true, and what is printed for it. For src/shortage_run.rt and src/shown.rt.
use Rattle.std.specs.Prelude.{ℕ, ◌≡◌, List, Ok, Err, IfSome, Result, option_and_then}
use Rattle.tail_book.specs.Seen.{BookSeen}
use Rattle.tail_outside.specs.Shown.{FilesShown}
use Rattle.tail_text.specs.Checks.{look}
use Rattle.tail_text.specs.declared.refusal.Refusal.{Refusal}
use Rattle.book_maker.specs.Made.{book_of}
use Rattle.plan_picture.specs.Ports.{port_named}
use Rattle.plan_report.specs.Lines.{text_of}
use Rattle.run_frame.specs.Answer.{IsTrueAnswer as IsTrueOf, lines_of}
use Rattle.run_frame.specs.TableFiles.{OfHeld}
use Rattle.run_frame.specs.declared.answer.Answer.{Answer as AnswerOf}
use Rattle.shortage_picture.specs.Picture.{page_lines}
use Rattle.shortage_picture.specs.declared.picture.View.{View}
use Rattle.shortage_reader.specs.ShortageText.{shortage_in}
use Rattle.shortage_reader.specs.Told.{ToldSeen}
use Rattle.tailview.specs.ShortageTexts.{MayReadShortageTexts, ShortageTextsSeen, shortage_held}
use Rattle.tailview.specs.ShortageWords.{shortage_of}
use Rattle.tailview.specs.Usage.{shortage_usage_line}
use Rattle.tailview.specs.declared.shown.Shown.{Shown}

-- what such a run answers
abbrev pub ShortageAnswer : Type 0
ShortageAnswer = AnswerOf Shown

-- the files that the words name may be read
abbrev pub MayReadShortage : List (List ℕ) → FilesShown → Type 0
MayReadShortage words files = IfSome (shortage_of words) (MayReadShortageTexts files)

-- the words give four names, and P holds of the files under them, where they are told
abbrev pub OfShortage : List (List ℕ) → FilesShown → (ShortageTextsSeen → Type 0) → Type 0
OfShortage words files P = OfHeld (shortage_of words) (shortage_held files) P

-- a book, and the shortage that a file tells of for it
pub record ShortageCase : Type 0 where
  pub book : BookSeen
  pub told : ToldSeen

-- the book of the tables and the shortage of its file, or the first refusal: that of the tables, and then that of the file
abbrev pub shortage_case_of : ShortageTextsSeen → Result ShortageCase Refusal
shortage_case_of texts =
    look (book_of texts.tables.timetable texts.tables.fleet texts.tables.rules) (λ book.
    look (shortage_in book texts.told) (λ told.
    Ok (record { book = book; told = told })))

-- this is the first refusal of the files
abbrev pub AreNotShown : ShortageTextsSeen → Refusal → Type 0
AreNotShown texts refusal = shortage_case_of texts ≡ Err refusal

-- what a picture of this book shows beside the shortage: the airport's curfews, and a page, each where it is asked for
abbrev pub shown_view : BookSeen → ShortageTextsSeen → View
shown_view book texts = record { airport = option_and_then (port_named book) texts.airport; html = texts.html }

-- the tables are this book, its file tells this of it, and this is shown beside it
abbrev pub AreShown : ShortageTextsSeen → Shown → Type 0
AreShown texts shown =
    (shortage_case_of texts ≡ Ok (record { book = shown.book; told = shown.told })) × (shown.view ≡ shown_view shown.book texts)

-- the answer is true of these words and files
abbrev pub IsTrueShortageAnswer : List (List ℕ) → FilesShown → ShortageAnswer → Type 0
IsTrueShortageAnswer words files answer = IsTrueOf (shortage_of words) (shortage_held files) AreNotShown AreShown answer

-- the lines of the picture of what is shown
abbrev pub shown_lines : Shown → List (List ℕ)
shown_lines shown = page_lines shown.view shown.book shown.told

-- what is printed for an answer: of what is shown, its picture
abbrev pub shortage_answer_text : ShortageAnswer → List ℕ
shortage_answer_text answer = text_of (lines_of shortage_usage_line shown_lines answer)
