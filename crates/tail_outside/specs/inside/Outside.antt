-- What single calls of files do to bytes and names, and that calls one after the other only read, or only write one file.
use Rattle.std.specs.Prelude.{ℕ, Bool, false, ◌≡◌, ◌≢◌, ◌⊎◌, ◌↔◌, ◌≤◌, List, [], ◌++◌, length, take, drop, Option, Some, unwrap_or}
use Rattle.std.proofs.Common.{◌∙◌, refl}
use Rattle.std.proofs.Math.Nat.{le_refl, le_trans}
use Rattle.tail_outside.specs.Shown.{FilesShown}
use Rattle.tail_book.specs.Faults.{HasRisen}
use Rattle.tail_outside.specs.Outside.{SameNames, OnlyRead}

-- n bytes of the file at a place stand at the front of the buffer,
-- and there are none exactly at the end of the file or where the buffer has no room
pub record IsRead (bytes : List ℕ) (at : ℕ) (buffer : List ℕ) (n : ℕ) : Type 0 where
  pub front : take n buffer ≡ take n (drop at bytes)
  pub within : n ≤ length (drop at bytes)
  pub none : (n ≡ 0) ↔ ((length buffer ≡ 0) ⊎ (drop at bytes ≡ []))

-- what a file holds after a piece was added: what it held, or nothing where it held nothing, with the piece behind
abbrev pub with_piece : Option (List ℕ) → List ℕ → Option (List ℕ)
with_piece held piece = Some (unwrap_or held [] ++ piece)

-- the file holds what it held, or that with a front of the piece behind
abbrev pub HoldsFront : Option (List ℕ) → Option (List ℕ) → List ℕ → Type 0
HoldsFront old new piece = (new ≡ old) ⊎ ((taken : List ℕ) × (rest : List ℕ) × (piece ≡ taken ++ rest) × (new ≡ with_piece old taken))

-- every file of another name holds what it held
abbrev pub SameOthers : (List ℕ → Option (List ℕ)) → (List ℕ → Option (List ℕ)) → List ℕ → Type 0
SameOthers old new name = (other : List ℕ) → other ≢ name → new other ≡ old other

-- what has ceased stays so: what has not ceased now had not before
abbrev pub StayCeased : (List ℕ → Bool) → (List ℕ → Bool) → Type 0
StayCeased old new = (name : List ℕ) → new name ≡ false → old name ≡ false

-- only the file of this name was written: the others hold what they held, the names that may be used are the same, what
-- had ceased stays so, and no read failed; the count of failed writes didn't fall
pub record OnlyWritten (name : List ℕ) (old new : FilesShown) : Type 0 where
  pub others : SameOthers old.holds new.holds name
  pub lets_read : SameNames old.lets_read new.lets_read
  pub lets_write : SameNames old.lets_write new.lets_write
  pub ceases : StayCeased old.ceased new.ceased
  pub reads : new.read_faults ≡ old.read_faults
  pub writes : old.write_faults ≤ new.write_faults

-- a write failed
abbrev pub WriteHasFailed : FilesShown → FilesShown → Type 0
WriteHasFailed old new = HasRisen old.write_faults new.write_faults

-- a call that does nothing only reads
pub only_read_same : (files : FilesShown) → OnlyRead files files
only_read_same files = record {
  holds = λ name. refl;
  lets_read = λ name. refl;
  lets_write = λ name. refl;
  ceased = λ name. refl;
  writes = refl;
  reads = le_refl files.read_faults;
}

-- two calls only read where each does
pub only_read_chains : (a b c : FilesShown) → OnlyRead a b → OnlyRead b c → OnlyRead a c
only_read_chains a b c h k = record {
  holds = λ name. k.holds name ∙ h.holds name;
  lets_read = λ name. k.lets_read name ∙ h.lets_read name;
  lets_write = λ name. k.lets_write name ∙ h.lets_write name;
  ceased = λ name. k.ceased name ∙ h.ceased name;
  writes = k.writes ∙ h.writes;
  reads = le_trans h.reads k.reads;
}

-- a call that does nothing writes no other file
pub only_written_same : (name : List ℕ) (files : FilesShown) → OnlyWritten name files files
only_written_same name files = record {
  others = λ other differs. refl;
  lets_read = λ other. refl;
  lets_write = λ other. refl;
  ceases = λ other lasts. lasts;
  reads = refl;
  writes = le_refl files.write_faults;
}

-- two calls write no file but one where each does
pub only_written_chains : (name again : List ℕ) (a b c : FilesShown) → again ≡ name → OnlyWritten name a b → OnlyWritten again b c → OnlyWritten name a c
only_written_chains name again a b c same h k = record {
  others = λ other differs. k.others other (λ is. differs (is ∙ same)) ∙ h.others other differs;
  lets_read = λ other. k.lets_read other ∙ h.lets_read other;
  lets_write = λ other. k.lets_write other ∙ h.lets_write other;
  ceases = λ other lasts. h.ceases other (k.ceases other lasts);
  reads = k.reads ∙ h.reads;
  writes = le_trans h.writes k.writes;
}
