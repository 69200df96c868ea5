-- What the calls of files and sinks say of bytes and of faults.
use Rattle.std.specs.Prelude.{ℕ, Bool, false, ◌≡◌, ◌≤◌, ⊤, List, ◌++◌, Option, Some, None}
use Rattle.tail_outside.specs.Shown.{FilesShown, SinkShown}
use Rattle.tail_book.specs.Faults.{HasRisen}

-- where the bytes were told, the piece was added
abbrev pub Adds : Option (List ℕ) → Option (List ℕ) → List ℕ → Type 0
Adds (Some old) new piece = new ≡ Some (old ++ piece)
Adds None new piece = ⊤

-- where the bytes were told, a front of the piece was added
abbrev pub AddsFront : Option (List ℕ) → Option (List ℕ) → List ℕ → Type 0
AddsFront (Some old) new piece = (taken : List ℕ) × (rest : List ℕ) × (piece ≡ taken ++ rest) × (new ≡ Some (old ++ taken))
AddsFront None new piece = ⊤

-- the sink took exactly this piece, where it tells what it took
abbrev pub Takes : SinkShown → SinkShown → List ℕ → Type 0
Takes old new piece = new.ceased ≡ false → Adds old.told new.told piece

-- the sink took a front of this piece, where it tells what it took
abbrev pub TakesFront : SinkShown → SinkShown → List ℕ → Type 0
TakesFront old new piece = new.ceased ≡ false → AddsFront old.told new.told piece

-- a piece failed
abbrev pub PieceHasFailed : SinkShown → SinkShown → Type 0
PieceHasFailed old new = HasRisen old.faults new.faults

-- the same names pass
abbrev pub SameNames : (List ℕ → Bool) → (List ℕ → Bool) → Type 0
SameNames old new = (name : List ℕ) → new name ≡ old name

-- the files were only read: nothing that they show is another, but for the count of failed reads, which didn't fall
pub record OnlyRead (old new : FilesShown) : Type 0 where
  pub holds : (name : List ℕ) → new.holds name ≡ old.holds name
  pub lets_read : SameNames old.lets_read new.lets_read
  pub lets_write : SameNames old.lets_write new.lets_write
  pub ceased : SameNames old.ceased new.ceased
  pub writes : new.write_faults ≡ old.write_faults
  pub reads : old.read_faults ≤ new.read_faults

-- a read failed
abbrev pub ReadHasFailed : FilesShown → FilesShown → Type 0
ReadHasFailed old new = HasRisen old.read_faults new.read_faults
