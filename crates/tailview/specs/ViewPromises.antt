-- What any run of the viewer promises by its status, and when each status comes: words that begin as the option of a shortage's file ask
-- for its picture, and all others for that of a plan. For src/run.rt.
use Rattle.std.specs.Prelude.{ℕ, ◌≡◌, List, None, cond}
use Rattle.tail_outside.specs.Shown.{FilesShown, SinkShown}
use Rattle.run_frame.specs.Answer.{IsUnlessStopped}
use Rattle.tailview.specs.Promises.{JudgesPlan, Promise, RefusesTexts}
use Rattle.tailview.specs.ShortagePromises.{DrawsShortage, RefusesShortage, ShortagePromise}
use Rattle.tailview.specs.ShortageWords.{is_shortage, shortage_of}
use Rattle.tailview.specs.Words.{names_of}

-- what the status promises of a shortage's picture, or of a plan's
abbrev pub ViewPromise : List (List ℕ) → FilesShown → SinkShown → SinkShown → ℕ → Type 0
ViewPromise words files before after status =
    cond (is_shortage words) (ShortagePromise words files before after status) (Promise words files before after status)

-- words that ask for neither rightly end with status 2, unless a write failed or memory was wanting
abbrev pub RefusesWords : List (List ℕ) → ℕ → Type 0
RefusesWords words status =
    cond (is_shortage words) (shortage_of words ≡ None → IsUnlessStopped 2 status) (names_of words ≡ None → IsUnlessStopped 2 status)

-- files that are refused end with status 3, unless a read or a write failed or memory was wanting
abbrev pub RefusesFiles : List (List ℕ) → FilesShown → ℕ → Type 0
RefusesFiles words files status = cond (is_shortage words) (RefusesShortage words files status) (RefusesTexts words files status)

-- a plan that is read is judged, and a shortage that is read is drawn, unless a read or a write failed or memory was wanting
abbrev pub JudgesFiles : List (List ℕ) → FilesShown → ℕ → Type 0
JudgesFiles words files status = cond (is_shortage words) (DrawsShortage words files status) (JudgesPlan words files status)
