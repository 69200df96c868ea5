-- When an answer is true, and what is printed for it. For src/run.rt and src/answer.rt.
use Rattle.std.specs.Prelude.{ℕ, ◌≡◌, List, Ok, Err, Option, IfSome, option_and_then, option_map}
use Rattle.tail_book.specs.Seen.{BookSeen, RawPlanSeen}
use Rattle.tail_outside.specs.Shown.{FilesShown}
use Rattle.tail_text.specs.declared.refusal.Refusal.{Refusal}
use Rattle.plan_audit.specs.Broken.{IsAuditOf}
use Rattle.plan_audit.specs.Kept.{kept}
use Rattle.plan_homes.specs.Homes.{homes}
use Rattle.plan_picture.specs.Picture.{page_lines}
use Rattle.plan_picture.specs.Ports.{port_named}
use Rattle.plan_picture.specs.View.{ViewSeen}
use Rattle.plan_report.specs.Lines.{text_of}
use Rattle.run_frame.specs.Answer.{IsTrueAnswer as IsTrueOf, lines_of}
use Rattle.run_frame.specs.TableFiles.{OfHeld}
use Rattle.run_frame.specs.declared.answer.Answer.{Answer as AnswerOf}
use Rattle.tailview.specs.Cases.{case_of}
use Rattle.tailview.specs.Drawn.{drawn_cost, drawn_rules}
use Rattle.tailview.specs.Texts.{MayReadTexts, texts_held, TextsSeen}
use Rattle.tailview.specs.Usage.{usage_line}
use Rattle.tailview.specs.Words.{names_of}
use Rattle.tailview.specs.declared.answer.Judged.{Judged}

-- what a run answers
abbrev pub Answer : Type 0
Answer = AnswerOf Judged

-- the files that the words name may be read
abbrev pub MayRead : List (List ℕ) → FilesShown → Type 0
MayRead words files = IfSome (names_of words) (MayReadTexts files)

-- the words give names, and P holds of the files under them, where they are told
abbrev pub OfTexts : List (List ℕ) → FilesShown → (TextsSeen → Type 0) → Type 0
OfTexts words files P = OfHeld (names_of words) (texts_held files) P

-- this is the first refusal of the tables, or, where they are a book, of the plan's file, or else of that of the plan before
abbrev pub AreRefused : TextsSeen → Refusal → Type 0
AreRefused texts refusal = case_of texts ≡ Err refusal

-- what a picture of this book shows beside the plan: the airport's curfews, what has left its home in the plan that was
-- published before, a strip for each day, and a page, each where it is asked for
abbrev pub view_in : BookSeen → TextsSeen → Option RawPlanSeen → ViewSeen
view_in book texts before = record {
  airport = option_and_then (port_named book) texts.airport;
  homes = option_map (homes book) before;
  by_day = texts.by_day;
  html = texts.html;
}

-- the tables are this book, this is kept of the plan of its file, an audit of it finds this, and this is shown beside it
abbrev pub AreJudged : TextsSeen → Judged → Type 0
AreJudged texts judged = (plan : RawPlanSeen) × (before : Option RawPlanSeen)
    × (case_of texts ≡ Ok (record { book = judged.book; plan = plan; before = before })) × IsAuditOf judged.book plan judged.found
    × (judged.plan ≡ kept judged.book plan) × (judged.view ≡ view_in judged.book texts before)

-- the answer is true of these words and files
abbrev pub IsTrueAnswer : List (List ℕ) → FilesShown → Answer → Type 0
IsTrueAnswer words files answer = IsTrueOf (names_of words) (texts_held files) AreRefused AreJudged answer

-- the lines of the picture of what was found
abbrev pub drawn_lines : Judged → List (List ℕ)
drawn_lines judged = page_lines judged.view judged.book judged.plan (drawn_cost judged.found) (drawn_rules judged.found)

-- what is printed for an answer: of what was found, its picture
abbrev pub answer_text : Answer → List ℕ
answer_text answer = text_of (lines_of usage_line drawn_lines answer)
