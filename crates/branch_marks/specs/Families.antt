-- Closed families of labels: what pricing leaves, and what shows that no route weighs less. For src/laws/covering.rt.
use Rattle.std.specs.Prelude.{ℕ, ℤ, pos, ◌<◌, ◌≤ℤ◌, List, All}
use Rattle.tail_book.specs.Seen.{BookSeen}
use Rattle.tail_book.specs.TableSeen.{CostTableSeen}
use Rattle.tail_book.specs.declared.place.Place.{Place}
use Rattle.tail_book.specs.declared.place.Place.TheVariants.{Carry, After}
use Rattle.tail_book.specs.Lookup.{activities, carry_of}
use Rattle.tail_book.specs.Counters.{step, WithinLimits}
use Rattle.branch_marks.specs.declared.fact.Fact.{Fact}
use Rattle.branch_marks.specs.Marks.{IsAlive, IsUsable, MayEnd}
use Rattle.branch_marks.specs.DeadEnds.{IsStuck}
use Rattle.branch_marks.specs.Weights.{WeighsAtLeast}
use Rattle.branch_marks.specs.Labels.{Label, IsCoveredBy, label_after}

-- each usable link of aircraft k from the place whose step stays within the limits gives a label that a member covers
abbrev pub GoesOn : CostTableSeen → BookSeen → List Fact → ℕ → List ℤ → List Label → Place → ℤ → List ℤ → Type 0
GoesOn table book marks k duals family x weight values =
    (b : ℕ) → b < activities book → IsUsable book marks k x b → WithinLimits book.rules.counters (step book k x b values)
    → IsCoveredBy family (label_after table book k duals x weight values b)

-- the family is closed for aircraft k: its activities are alive, and it goes on from the carry-in and from each of its members
pub record IsClosedFamily (table : CostTableSeen) (book : BookSeen) (marks : List Fact) (k : ℕ) (duals : List ℤ) (family : List Label) : Type 0 where
  pub alive : All (λ (member : Label). IsAlive book marks k member.at) family
  pub first : GoesOn table book marks k duals family Carry (pos 0) (carry_of book k)
  pub next : All (λ (member : Label). GoesOn table book marks k duals family (After member.at) member.weight member.counters) family

-- no end is lighter than this: not the carry-in, which weighs 0, nor any member, where aircraft k may end there
pub record EndsAtLeast (marks : List Fact) (k : ℕ) (family : List Label) (low : ℤ) : Type 0 where
  pub first : MayEnd marks k Carry → low ≤ℤ pos 0
  pub members : All (λ (member : Label). MayEnd marks k (After member.at) → low ≤ℤ member.weight) family

-- aircraft k may end neither at its carry-in nor at any member
pub record HasNoEnd (marks : List Fact) (k : ℕ) (family : List Label) : Type 0 where
  pub first : ¬ MayEnd marks k Carry
  pub members : All (λ (member : Label). ¬ MayEnd marks k (After member.at)) family

-- a closed family bounds the weight of every legal route that fits
abbrev pub ClosedFamiliesBound : Type 0
ClosedFamiliesBound = (table : CostTableSeen) (book : BookSeen) (marks : List Fact) (k : ℕ) (duals : List ℤ) (family : List Label) (low : ℤ)
    → IsClosedFamily table book marks k duals family → EndsAtLeast marks k family low → WeighsAtLeast table book marks k duals low

-- one without an end shows that no legal route fits
abbrev pub EndlessFamiliesStick : Type 0
EndlessFamiliesStick = (table : CostTableSeen) (book : BookSeen) (marks : List Fact) (k : ℕ) (duals : List ℤ) (family : List Label)
    → IsClosedFamily table book marks k duals family → HasNoEnd marks k family → IsStuck book marks k
