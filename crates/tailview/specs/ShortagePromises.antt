-- What a run that draws a shortage promises by its status, and when each status comes. For src/shortage_run.rt.
use Rattle.std.specs.Prelude.{ℕ, ◌≡◌, ◌==◌, List, Ok, cond}
use Rattle.tail_outside.specs.Outside.{Takes}
use Rattle.tail_outside.specs.Shown.{FilesShown, SinkShown}
use Rattle.run_frame.specs.Promise.{ElsePromise, Judges, Refuses}
use Rattle.shortage_picture.specs.Picture.{picture}
use Rattle.tailview.specs.ShortageAnswers.{AreNotShown, IsTrueShortageAnswer, OfShortage, ShortageCase, shortage_answer_text, shortage_case_of, shown_view}
use Rattle.tailview.specs.ShortageTexts.{ShortageTextsSeen, shortage_held}
use Rattle.tailview.specs.ShortageWords.{shortage_of}
use Rattle.tailview.specs.Usage.{shortage_usage_line}

-- the tables are a book, and the picture of the shortage that the file tells of was printed
pub record PrintsShortage (before after : SinkShown) (texts : ShortageTextsSeen) : Type 0 where
  pub case : ShortageCase
  pub is : shortage_case_of texts ≡ Ok case
  pub printed : Takes before after (picture (shown_view case.book texts) case.book case.told)

-- what a run over these words and files promises by its status, where the output was first so and then so: 0 the picture of the
-- shortage, and else what every run promises
abbrev pub ShortagePromise : List (List ℕ) → FilesShown → SinkShown → SinkShown → ℕ → Type 0
ShortagePromise words files before after status =
    cond (status == 0) (OfShortage words files (PrintsShortage before after)) (
    ElsePromise (shortage_of words) (shortage_held files) AreNotShown shortage_usage_line (IsTrueShortageAnswer words files) shortage_answer_text before after status)

-- files that are refused end with status 3, unless a read or a write failed or memory was wanting
abbrev pub RefusesShortage : List (List ℕ) → FilesShown → ℕ → Type 0
RefusesShortage words files status = Refuses (shortage_of words) (shortage_held files) AreNotShown status

-- a shortage that is read is drawn, unless a read or a write failed or memory was wanting
abbrev pub DrawsShortage : List (List ℕ) → FilesShown → ℕ → Type 0
DrawsShortage words files status =
    Judges (shortage_of words) (shortage_held files) (λ texts case. shortage_case_of texts ≡ Ok case) (λ case code. code ≡ 0) status
