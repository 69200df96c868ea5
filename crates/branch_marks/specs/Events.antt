-- Events of a tree: which of them a line of a certificate spells. For src/tree_log.rt.
use Rattle.std.specs.Prelude.{ℕ, ℤ, pos, ◌≡◌, ◌^◌, ◌-ℤ◌, ◌<◌, ◌≤◌, ⊤, List, All, length}
use Rattle.tail_book.specs.Ranges.{IsWithin}
use Rattle.tail_book.specs.declared.limits.TheConstants.{COUNTER_LIMIT}
use Rattle.branch_marks.specs.declared.fact.Fact.{Fact as BranchFact}
use Rattle.branch_marks.specs.declared.fact.Fact.TheVariants.{Bar, Must, Cut, Tie}
use Rattle.branch_marks.specs.declared.fact.Pair.{Pair}
use Rattle.branch_marks.specs.declared.fact.Pair.TheVariants.{Fly, Link}
use Rattle.branch_marks.specs.declared.event.Event.{Event}
use Rattle.branch_marks.specs.declared.event.Event.TheVariants.{Fact, Split, Hole, Stuck, Bound, Dual, Cover, Label}

-- a line spells the number of an aircraft or of an activity
abbrev pub IsLineNumber : ℕ → Type 0
IsLineNumber n = n < 2 ^ 32

-- a line spells the value of a dual or of a cover, or a weight
abbrev pub IsLineValue : ℤ → Type 0
IsLineValue = IsWithin (pos 0 -ℤ pos (2 ^ 61)) (pos (2 ^ 61))

-- a line spells the value of a counter, which is never negative
abbrev pub IsLineCounter : ℤ → Type 0
IsLineCounter = IsWithin (pos 0) (pos (2 ^ 61))

-- a line spells the fact as a step; a Tie is only ever a branch
abbrev pub IsLineFact : BranchFact → Type 0
IsLineFact (Bar k a) = IsLineNumber k × IsLineNumber a
IsLineFact (Must k a) = IsLineNumber k × IsLineNumber a
IsLineFact (Cut a b) = IsLineNumber a × IsLineNumber b
IsLineFact (Tie a b) = ⊥

-- a line spells the pair of a split
abbrev pub IsLinePair : Pair → Type 0
IsLinePair (Fly k a) = IsLineNumber k × IsLineNumber a
IsLinePair (Link a b) = IsLineNumber a × IsLineNumber b

-- a line spells the label
pub record IsLineLabel (at : ℕ) (weight : ℤ) (counters : List ℤ) : Type 0 where
  pub activity : IsLineNumber at
  pub value : IsLineValue weight
  pub count : length counters ≤ COUNTER_LIMIT
  pub each : All IsLineCounter counters

-- a line of a certificate spells the event, so that it can be noted
abbrev pub IsNotable : Event → Type 0
IsNotable (Fact fact) = IsLineFact fact
IsNotable (Split pair) = IsLinePair pair
IsNotable (Hole a) = IsLineNumber a
IsNotable (Stuck k) = IsLineNumber k
IsNotable Bound = ⊤
IsNotable (Dual a value) = IsLineNumber a × IsLineValue value × (¬ value ≡ pos 0)
IsNotable (Cover k value) = IsLineNumber k × IsLineValue value
IsNotable (Label at weight counters) = IsLineLabel at weight counters
