-- What a run promises by its status, and when each status comes. For src/run.rt.
use Rattle.std.specs.Prelude.{ℕ, ◌≡◌, ◌≢◌, ◌==◌, ◌⊎◌, List, [], Ok, cond}
use Rattle.tail_book.specs.Plan.{IsLegalPlan}
use Rattle.tail_outside.specs.Outside.{Takes}
use Rattle.tail_outside.specs.Shown.{FilesShown, SinkShown}
use Rattle.plan_audit.specs.Broken.{broken}
use Rattle.plan_audit.specs.Kept.{kept}
use Rattle.plan_picture.specs.Picture.{picture}
use Rattle.run_frame.specs.Promise.{ElsePromise, Judges, Refuses}
use Rattle.tailview.specs.Answers.{AreRefused, IsTrueAnswer, OfTexts, answer_text, view_in}
use Rattle.tailview.specs.Cases.{Case, case_of}
use Rattle.tailview.specs.Texts.{texts_held, TextsSeen}
use Rattle.tailview.specs.Usage.{usage_line}
use Rattle.tailview.specs.Words.{names_of}

-- the tables are a book, and the picture of the plan was printed
pub record PrintsPicture (before after : SinkShown) (texts : TextsSeen) (case : Case) : Type 0 where
  pub is : case_of texts ≡ Ok case
  pub printed : Takes before after (picture (view_in case.book texts case.before) case.book case.plan)

-- the picture was printed of a plan that breaks no rule: what is kept of it is legal
pub record PrintsLegal (before after : SinkShown) (texts : TextsSeen) : Type 0 where
  pub case : Case
  pub drawn : PrintsPicture before after texts case
  pub unbroken : broken case.book case.plan ≡ []
  pub legal : IsLegalPlan case.book (kept case.book case.plan)

-- the picture was printed of a plan that breaks some rules
pub record PrintsBroken (before after : SinkShown) (texts : TextsSeen) : Type 0 where
  pub case : Case
  pub drawn : PrintsPicture before after texts case
  pub some : broken case.book case.plan ≢ []

-- what a run over these words and files promises by its status, where the output was first so and then so: 0 the
-- picture of a legal plan, 1 that of a plan that breaks rules, and else what every run promises
abbrev pub Promise : List (List ℕ) → FilesShown → SinkShown → SinkShown → ℕ → Type 0
Promise words files before after status =
    cond (status == 0) (OfTexts words files (PrintsLegal before after)) (
    cond (status == 1) (OfTexts words files (PrintsBroken before after)) (
    ElsePromise (names_of words) (texts_held files) AreRefused usage_line (IsTrueAnswer words files) answer_text before after status))

-- the status says whether the plan breaks a rule: 0 where it breaks none, and 1 where it breaks some
abbrev pub IsVerdict : Case → ℕ → Type 0
IsVerdict case status = ((status ≡ 0) × (broken case.book case.plan ≡ [])) ⊎ ((status ≡ 1) × (broken case.book case.plan ≢ []))

-- files that are refused end with status 3, unless a read or a write failed or memory was wanting
abbrev pub RefusesTexts : List (List ℕ) → FilesShown → ℕ → Type 0
RefusesTexts words files status = Refuses (names_of words) (texts_held files) AreRefused status

-- a plan that is read is judged, unless a read or a write failed or memory was wanting
abbrev pub JudgesPlan : List (List ℕ) → FilesShown → ℕ → Type 0
JudgesPlan words files status = Judges (names_of words) (texts_held files) (λ texts case. case_of texts ≡ Ok case) IsVerdict status
