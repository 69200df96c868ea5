-- The proof tree of a certificate: when it is shown, and what its leaves bound. For src/laws/showing.rt.
use Rattle.std.specs.Prelude.{◌≡◌, ℕ, ℤ, pos, ◌+◌, ◌<◌, ◌≤◌, ⊤, List, [], ◌∷◌, ◌++◌, length, map, All, AllPairs, Contains, slice_index_or, replicate}
use Rattle.tail_book.specs.Seen.{BookSeen}
use Rattle.tail_book.specs.TableSeen.{CostTableSeen}
use Rattle.tail_book.specs.Lookup.{activities, aircraft}
use Rattle.tail_book.specs.CostTable.{IsCostTable, IsTableFor, greatest_cost_in}
use Rattle.tail_book.specs.inside.Sound.{IsBook}
use Rattle.tail_book.specs.Truth.{HasNoPlan, CostsAtLeastIn}
use Rattle.branch_marks.specs.declared.fact.Fact.{Fact}
use Rattle.branch_marks.specs.declared.fact.Pair.{Pair}
use Rattle.branch_marks.specs.DeadEnds.{IsHole}
use Rattle.branch_marks.specs.Following.{Follows}
use Rattle.branch_marks.specs.Bound.{lagrangian, rounded_up, MarkedPlansCostAtLeast}
use Rattle.branch_marks.specs.Settled.{AreDuals}
use Rattle.branch_marks.specs.Labels.{Label}
use Rattle.branch_marks.specs.Families.{IsClosedFamily, EndsAtLeast, HasNoEnd}
use Rattle.branch_marks.specs.Branches.{first_branch, second_branch, IsUndecided}

-- a value that no weight of one aircraft undercuts, and the family that shows it
pub record Cover : Type 0 where
  pub value : ℤ
  pub family : List Label

-- a fact that follows, and then a tree; a split with a tree for each branch; or a leaf: an activity that nobody may fly, an
-- aircraft that is stuck with the family that shows it, or duals with a cover for each aircraft
pub data Tree : Type 0 where
  Step : Fact → Tree → Tree
  Split : Pair → Tree → Tree → Tree
  Hole : ℕ → Tree
  Stuck : ℕ → List Label → Tree
  Bounded : List ℤ → List Cover → Tree

-- the family is closed, its labels never fall in activity, and each has one value for each counter
pub record IsShownFamily (table : CostTableSeen) (book : BookSeen) (marks : List Fact) (k : ℕ) (duals : List ℤ) (family : List Label) : Type 0 where
  pub closed : IsClosedFamily table book marks k duals family
  pub ordered : AllPairs (λ (label other : Label). label.at ≤ other.at) family
  pub counted : All (λ (label : Label). length label.counters ≡ length book.rules.counters) family

-- the cover of aircraft k is shown: such a family, none of whose ends is lighter than the value
pub record IsShownCover (table : CostTableSeen) (book : BookSeen) (marks : List Fact) (k : ℕ) (duals : List ℤ) (cover : Cover) : Type 0 where
  pub family : IsShownFamily table book marks k duals cover.family
  pub ends : EndsAtLeast marks k cover.family cover.value

-- a dual of 0 for each activity
abbrev pub zero_duals : BookSeen → List ℤ
zero_duals book = replicate (activities book) (pos 0)

-- aircraft k is shown to be stuck: such a family under duals that are all 0, without an end
pub record IsShownStuck (table : CostTableSeen) (book : BookSeen) (marks : List Fact) (k : ℕ) (family : List Label) : Type 0 where
  pub aircraft : k < aircraft book
  pub shown : IsShownFamily table book marks k (zero_duals book) family
  pub endless : HasNoEnd marks k family

-- the cover of aircraft k
abbrev pub cover_of : List Cover → ℕ → Cover
cover_of covers k = slice_index_or covers k (record { value = pos 0; family = [] })

-- a bound is shown: duals in the box, and a shown cover for each aircraft
pub record IsShownBound (table : CostTableSeen) (book : BookSeen) (marks : List Fact) (duals : List ℤ) (covers : List Cover) : Type 0 where
  pub in_box : AreDuals table book duals
  pub one_each : length covers ≡ aircraft book
  pub each : (k : ℕ) → k < aircraft book → IsShownCover table book marks k duals (cover_of covers k)

-- the tree is shown from these marks on: each step is new and follows, each split is on an undecided pair, each leaf is shown
abbrev pub IsShown : CostTableSeen → BookSeen → List Fact → Tree → Type 0
IsShown table book marks (Step fact tree) = (¬ Contains marks fact) × Follows book marks fact × IsShown table book (marks ++ fact ∷ []) tree
IsShown table book marks (Split pair one other) =
    IsUndecided book marks pair × IsShown table book (marks ++ first_branch pair ∷ []) one × IsShown table book (marks ++ second_branch pair ∷ []) other
IsShown table book marks (Hole a) = IsHole book marks a
IsShown table book marks (Stuck k family) = IsShownStuck table book marks k family
IsShown table book marks (Bounded duals covers) = IsShownBound table book marks duals covers

-- what duals and covers bound, in cost units
abbrev pub leaf_bound : List ℤ → List Cover → ℕ
leaf_bound duals covers = rounded_up (lagrangian duals (map (λ cover. cover.value) covers))

-- each bound of the tree is at least this
abbrev pub BoundsAtLeast : ℕ → Tree → Type 0
BoundsAtLeast low (Step fact tree) = BoundsAtLeast low tree
BoundsAtLeast low (Split pair one other) = BoundsAtLeast low one × BoundsAtLeast low other
BoundsAtLeast low (Hole a) = ⊤
BoundsAtLeast low (Stuck k family) = ⊤
BoundsAtLeast low (Bounded duals covers) = low ≤ leaf_bound duals covers

-- a shown tree bounds every legal plan of which its marks hold
abbrev pub ShownTreesBound : Type 0
ShownTreesBound = (table : CostTableSeen) (book : BookSeen) → IsBook book → (marks : List Fact) (tree : Tree) (low : ℕ)
    → IsShown table book marks tree → BoundsAtLeast low tree → MarkedPlansCostAtLeast table book marks low

-- and from no marks on, every legal plan
abbrev pub ShownRootsBound : Type 0
ShownRootsBound = (table : CostTableSeen) (book : BookSeen) → IsBook book → (tree : Tree) (low : ℕ)
    → IsShown table book [] tree → BoundsAtLeast low tree → CostsAtLeastIn table book low

-- so where its bounds pass what legal plans cost at most, no plan is legal
abbrev pub ShownTreesRefute : Type 0
ShownTreesRefute = (table : CostTableSeen) (book : BookSeen) → IsBook book → IsCostTable table → IsTableFor book table → (tree : Tree)
    → IsShown table book [] tree → BoundsAtLeast (greatest_cost_in table + 1) tree → HasNoPlan book
