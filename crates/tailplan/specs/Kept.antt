-- What becomes of the files of a run: only the certificate's is written, and what it may then hold.
-- For src/run.rt and src/book_plan.rt.
use Rattle.std.specs.Prelude.{ℕ, ◌≡◌, ◌≢◌, ◌⊎◌, ◌≤◌, false, List, Option, None, Some, String}
use Rattle.tail_book.specs.Faults.{HasRisen}
use Rattle.tail_outside.specs.Outside.{OnlyRead, PieceHasFailed, SameNames}
use Rattle.tail_outside.specs.Shown.{FilesShown, SinkShown}
use Rattle.run_frame.specs.Spelled.{spelled}
use Rattle.run_frame.specs.TableFiles.{AreGiven}
use Rattle.tailplan.specs.Answers.{HasFrontOfDue, HoldsText, OfTask, cert_of}

-- what has not ceased now had not before
abbrev pub StayCeased : FilesShown → FilesShown → Type 0
StayCeased old new = (name : List ℕ) → new.ceased name ≡ false → old.ceased name ≡ false

-- every file but the certificate's holds what it held, and the names that may be used are the same; the counts of failures didn't fall
pub record OnlyCertificate (cert : Option (List ℕ)) (old new : FilesShown) : Type 0 where
  pub others : (name : List ℕ) → cert ≢ Some name → new.holds name ≡ old.holds name
  pub lets_read : SameNames old.lets_read new.lets_read
  pub lets_write : SameNames old.lets_write new.lets_write
  pub ceases : StayCeased old new
  pub reads : old.read_faults ≤ new.read_faults
  pub writes : old.write_faults ≤ new.write_faults

-- the file holds what it held, or is there with a front of a certificate that was due
abbrev pub LeavesCertificate : List (List ℕ) → FilesShown → FilesShown → Type 0
LeavesCertificate words old new =
    (name : List ℕ) → cert_of words ≡ Some name → new.ceased name ≡ false
    → (new.holds name ≡ old.holds name) ⊎ OfTask words old (λ task. HoldsText new name (HasFrontOfDue task))

-- the words or a table were refused, or a read failed
abbrev pub EndsBeforeSearch : ℕ → Type 0
EndsBeforeSearch status = (status ≡ 2) ⊎ ((status ≡ 3) ⊎ (status ≡ 5))

-- such a run, and one whose words name no certificate's file, only reads
abbrev pub OnlyReads : List (List ℕ) → ℕ → FilesShown → FilesShown → Type 0
OnlyReads words status old new = (cert_of words ≡ None) ⊎ EndsBeforeSearch status → OnlyRead old new

-- a piece of what was printed failed, or, where the words name a certificate's file, a write to the files
abbrev pub WriteHasFailed : List (List ℕ) → FilesShown → FilesShown → SinkShown → SinkShown → Type 0
WriteHasFailed words old new before after =
    PieceHasFailed before after ⊎ (AreGiven (cert_of words) × HasRisen old.write_faults new.write_faults)

-- status 6 comes only of a write that failed, where the files and the output show what these two functions say of them
abbrev pub FailsByWrite : {F S Z : Type 0} → (F → FilesShown) → (S → SinkShown) → List (String Z) → F → F → S → S → ℕ → Type 0
FailsByWrite files_shown sink_shown words files later before after status =
    status ≡ 6 → WriteHasFailed (spelled words) (files_shown files) (files_shown later) (sink_shown before) (sink_shown after)
