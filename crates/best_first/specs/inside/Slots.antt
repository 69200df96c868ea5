-- The tree of a search while it grows, as a list of slots in depth-first order: what a slot keeps of a counted node, and what is known
-- of an open place. For src/slots.rt and others.
use Rattle.std.specs.Prelude.{◌≡◌, ◌+◌, ◌<◌, ◌≤◌, ℕ, ℤ, pos, true, false, List, [], ◌∷◌, ◌++◌, All, Contains, length, map, Option, Some, None, slice_index_or}
use Rattle.tail_book.specs.Seen.{BookSeen}
use Rattle.tail_book.specs.TableSeen.{CostTableSeen}
use Rattle.tail_book.specs.Lookup.{aircraft}
use Rattle.branch_marks.specs.declared.fact.Fact.{Fact}
use Rattle.branch_marks.specs.Bound.{bound_of, Passes}
use Rattle.branch_marks.specs.Branches.{first_branch, second_branch, IsUndecided}
use Rattle.branch_marks.specs.DeadEnds.{IsHole, IsStuck}
use Rattle.branch_marks.specs.Facts.{IsFactOf}
use Rattle.branch_marks.specs.Following.{FollowInTurn, IsShut}
use Rattle.branch_marks.specs.Settled.{AreDuals, IsSum}
use Rattle.branch_marks.specs.inside.BranchTests.{undecided}
use Rattle.branch_marks.specs.inside.Once.{AreOnce}
use Rattle.dive_heuristic.specs.declared.answer.Dive.{Dive}
use Rattle.node_leaves.specs.Place.{Open, open_place}
use Rattle.node_leaves.specs.Target.{IsTarget}
use Rattle.branch_tree.specs.Counted.{IsSplitOf}
use Rattle.branch_tree.specs.Step.{IsLagrangianBound}
use Rattle.branch_tree.specs.inside.SearchParts.{tripled}
use Rattle.best_first.specs.declared.rank.Rank.{Rank}
use Rattle.best_first.specs.declared.links.Link.{Link}
use Rattle.best_first.specs.declared.slots.KeptEnd.{KeptEnd}
use Rattle.best_first.specs.declared.slots.KeptEnd.TheVariants.{Hole, Stuck, Bounded, Split}
use Rattle.best_first.specs.declared.slots.Kept.{Kept}
use Rattle.best_first.specs.declared.slots.Slot.{Slot}
use Rattle.best_first.specs.inside.Links.{AreLinks, facts_at}
use Rattle.best_first.specs.Rank.{IsBefore}
use Rattle.best_first.specs.Order.{Count, Standing, AreInOrder, numbers_of}
use Rattle.best_first.specs.BestTree.{Owed, owed_root, Laid}

-- no fact comes twice
abbrev pub HaveNoneTwice : List Fact → Type 0
HaveNoneTwice facts = AreOnce facts

-- what is known of each place that was opened: no fact comes twice, all are of the book, its duals are in the box, and its rank's
-- bound is at most the bound of its own least weights
pub record IsFair (table : CostTableSeen) (book : BookSeen) (here : Owed) : Type 0 where
  pub once : AreOnce here.place.marks
  pub of_book : All (IsFactOf book) here.place.marks
  pub duals : AreDuals table book here.place.duals
  pub floor : (sum : ℤ) → IsSum table book here.place.marks here.place.duals sum → bound_of here.rank.bound ≤ bound_of sum

-- what is known of an end that was kept, under these marks and duals: all that can be told of it again
abbrev pub IsKeptEnd : CostTableSeen → BookSeen → List Fact → List ℤ → ℕ → KeptEnd → Type 0
IsKeptEnd table book marks duals target (Hole a) = IsHole book marks a
IsKeptEnd table book marks duals target (Stuck k) = (k < aircraft book) × IsStuck book marks k
IsKeptEnd table book marks duals target Bounded = (sum : ℤ) × IsSum table book marks duals sum × Passes (bound_of sum) target
IsKeptEnd table book marks duals target (Split pair bound) =
    IsUndecided book marks pair × IsLagrangianBound table book marks duals bound
    × ((routes : List (List ℕ)) × (dive : Dive) × IsSplitOf table book marks target pair duals routes dive)

-- the bound under which it opens places, and these places
abbrev pub kept_bound : KeptEnd → ℤ
kept_bound (Split pair bound) = bound
kept_bound (Hole a) = pos 0
kept_bound (Stuck k) = pos 0
kept_bound Bounded = pos 0

abbrev pub opened_from : List Fact → List ℤ → KeptEnd → ℕ → List Owed
opened_from marks duals (Split pair bound) since =
    record { place = open_place (marks ++ first_branch pair ∷ []) duals; rank = record { bound = bound; since = since; second = false } }
    ∷ record { place = open_place (marks ++ second_branch pair ∷ []) duals; rank = record { bound = bound; since = since; second = true } } ∷ []
opened_from marks duals (Hole a) since = []
opened_from marks duals (Stuck k) since = []
opened_from marks duals Bounded since = []

-- a counted node as it is kept, at a place of these marks: its steps lie behind them, and its end is right under its target
pub record IsKeptAt (table : CostTableSeen) (book : BookSeen) (links : List Link) (before : List Fact) (duals : List ℤ) (kept : Kept)
    (opened : List Owed) : Type 0 where
  pub steps : List Fact
  pub closed : facts_at links kept.last ≡ before ++ steps
  pub within : kept.last ≤ length links
  pub follow : FollowInTurn book before steps
  pub shut : IsShut book (facts_at links kept.last)
  pub target : IsTarget table book kept.target
  pub in_box : AreDuals table book duals
  pub ending : IsKeptEnd table book (facts_at links kept.last) duals kept.target kept.end
  pub opens : opened ≡ opened_from (facts_at links kept.last) duals kept.end (kept.number + 1)

-- a slot without a node holds the duals of its place, and opens nothing; one with a node holds that
abbrev pub IsHeld : CostTableSeen → BookSeen → List Link → Open → List ℤ → Option Kept → List Owed → Type 0
IsHeld table book links here duals None opened = (duals ≡ here.duals) × (opened ≡ [])
IsHeld table book links here duals (Some kept) opened = IsKeptAt table book links here.marks duals kept opened

-- the slot stands at this place, and opens these
pub record IsSlotAt (table : CostTableSeen) (book : BookSeen) (links : List Link) (here : Owed) (slot : Slot) (opened : List Owed) : Type 0 where
  pub fair : IsFair table book here
  pub rank : slot.rank ≡ here.rank
  pub within : slot.end ≤ length links
  pub marks : facts_at links slot.end ≡ here.place.marks
  pub held : IsHeld table book links here.place slot.duals.values slot.kept opened

-- it stands at some place
abbrev pub IsSlot : CostTableSeen → BookSeen → List Link → Slot → Type 0
IsSlot table book links slot = (here : Owed) × (opened : List Owed) × IsSlotAt table book links here slot opened

-- as the order sees it
abbrev pub kept_count : Option Kept → Option Count
kept_count None = None
kept_count (Some kept) = Some (record { number = kept.number; target = kept.target })

abbrev pub slot_standing : Slot → Standing
slot_standing slot = record { rank = slot.rank; counted = kept_count slot.kept }

-- what is known while nodes are counted, after so many and with this target: no number is as large, no target is lower, the last one
-- is this, and open places were opened before
abbrev pub IsPast : ℕ → ℕ → Rank → Option Count → Type 0
IsPast n target rank None = rank.since ≤ n
IsPast n target rank (Some count) = (count.number < n) × (target ≤ count.target) × (count.number + 1 ≡ n → count.target ≡ target)

pub record AreCountedSo (n target : ℕ) (standings : List Standing) : Type 0 where
  pub ordered : AreInOrder standings
  pub past : All (λ (one : Standing). IsPast n target one.rank one.counted) standings
  pub count : length (numbers_of standings) ≡ n
  pub each : (i : ℕ) → i < n → Contains (numbers_of standings) i

-- the slots lead from the root to no place, and so many nodes were counted
pub record AreSlots (table : CostTableSeen) (book : BookSeen) (links : List Link) (slots : List Slot) (n target : ℕ) : Type 0 where
  pub chained : AreLinks links
  pub laid : Laid (IsSlotAt table book links) (owed_root book ∷ []) slots []
  pub counted : AreCountedSo n target (map slot_standing slots)

-- how many nodes the open slots can grow to at most
abbrev pub slot_room : BookSeen → List Link → ℕ → Option Kept → ℕ
slot_room book links end None = tripled (undecided book (facts_at links end))
slot_room book links end (Some kept) = 0

unfoldable pub room_of : BookSeen → List Link → List Slot → ℕ
room_of book links [] = 0
room_of book links (slot ∷ slots) = slot_room book links slot.end slot.kept + room_of book links slots

-- the slot of a number, and an open one past the end
abbrev pub slot_at : List Slot → ℕ → Slot
slot_at slots p =
    slice_index_or slots p (record { rank = record { bound = pos 0; since = 0; second = false }; end = 0; duals = record { values = [] }; kept = None })

-- no slot before n is open; or p is one that is, and comes no later than any before n
abbrev pub IsFirstBelow : List Slot → ℕ → Option ℕ → Type 0
IsFirstBelow slots n None = (q : ℕ) → q < n → ¬ ((slot_at slots q).kept ≡ None)
IsFirstBelow slots n (Some p) =
    (p < length slots) × ((slot_at slots p).kept ≡ None)
    × ((q : ℕ) → q < n → (slot_at slots q).kept ≡ None → ¬ IsBefore (slot_at slots q).rank (slot_at slots p).rank)
