-- What calls on a log say of the events that it tells, from before to after. All but `IsLater` speak of a log that has not
-- ceased by the call's end, and of each list that it told before.
use Rattle.std.specs.Prelude.{ℕ, ℤ, false, ◌≡◌, ◌⊎◌, ◌≤◌, List, [], ◌∷◌, ◌++◌}
use Rattle.branch_marks.specs.declared.event.Event.{Event}
use Rattle.branch_marks.specs.declared.event.Event.TheVariants as event
use Rattle.branch_marks.specs.ProofTree.{Cover}
use Rattle.branch_marks.specs.TreeEvents.{cover_event}
use Rattle.branch_marks.specs.LogShown.{LogShown}
use Rattle.tail_book.specs.Faults.{HasRisen}

-- the log tells no list
abbrev pub TellsNothing : LogShown → Type 0
TellsNothing log = (told : List Event) → log.tells told → ⊥

-- the log leaves the labels of covers out: where it tells a cover without labels, it tells the same with any of them
abbrev pub LeavesLabelsOut : LogShown → Type 0
LeavesLabelsOut log = (told : List Event) (k : ℕ) (cover : Cover) → log.tells (told ++ event.Cover k cover.value ∷ []) → log.tells (told ++ cover_event k cover)

-- the log tells the list with all of the due events at its end
abbrev pub Notes : LogShown → LogShown → List Event → Type 0
Notes old new due = (told : List Event) → new.ceased ≡ false → old.tells told → new.tells (told ++ due)

-- the log tells the list as it was, or is torn between the list and the event
abbrev pub NotesNothing : LogShown → LogShown → Event → Type 0
NotesNothing old new event = (told : List Event) → new.ceased ≡ false → old.tells told → new.tells told ⊎ new.torn told event

-- the log tells the list and then a front of the due events, and may be torn within the event that comes next
pub record IsCut (log : LogShown) (told due : List Event) : Type 0 where
  pub front : List Event
  pub rest : List Event
  pub split : due ≡ front ++ rest
  pub state : log.tells (told ++ front) ⊎ ((next : Event) × (later : List Event) × (rest ≡ next ∷ later) × log.torn (told ++ front) next)

abbrev pub NotesFront : LogShown → LogShown → List Event → Type 0
NotesFront old new due = (told : List Event) → new.ceased ≡ false → old.tells told → IsCut new told due

-- the one state comes after the other: a log that has ceased stays so, and the count of failed writes never falls
pub record IsLater (old new : LogShown) : Type 0 where
  pub ceases : new.ceased ≡ false → old.ceased ≡ false
  pub counts : old.faults ≤ new.faults

-- a write failed
abbrev pub WriteHasFailed : LogShown → LogShown → Type 0
WriteHasFailed old new = HasRisen old.faults new.faults
