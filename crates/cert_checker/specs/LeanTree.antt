-- Proof trees as a certificate tells them: of a lean leaf it tells the duals alone. For src/laws.rt.
use Rattle.std.specs.Prelude.{◌≡◌, ◌≤◌, ℕ, ℤ, List, [], ◌∷◌, ◌++◌, map, Contains, IfSome}
use Rattle.tail_book.specs.Seen.{BookSeen}
use Rattle.tail_book.specs.CostTable.{costs_of}
use Rattle.tail_book.specs.inside.Sound.{IsBook}
use Rattle.branch_marks.specs.declared.event.Event.TheVariants as event
use Rattle.branch_marks.specs.declared.fact.Fact.{Fact}
use Rattle.branch_marks.specs.declared.fact.Pair.{Pair}
use Rattle.branch_marks.specs.Branches.{first_branch, second_branch, IsUndecided}
use Rattle.branch_marks.specs.Following.{Follows}
use Rattle.branch_marks.specs.ProofTree.{Tree, IsShown, BoundsAtLeast}
use Rattle.branch_marks.specs.ProofTree as whole
use Rattle.branch_marks.specs.Settled.{AreDuals}
use Rattle.branch_marks.specs.TreeEvents.{dual_events, tree_events}
use Rattle.cert_lines.specs.declared.cert_line.CertLine.{CertLine}
use Rattle.cert_lines.specs.declared.cert_line.CertLine.TheVariants as line
use Rattle.cert_checker.specs.LeastWeight.{lean_bound}

-- a tree that is told whole, with all that shows its leaves; a fact that follows, and then a tree; a split with a tree for each
-- branch; or a lean leaf with its duals
pub data LeanTree : Type 0 where
  Told : Tree → LeanTree
  Step : Fact → LeanTree → LeanTree
  Split : Pair → LeanTree → LeanTree → LeanTree
  Lean : List ℤ → LeanTree

-- the tree is shown from these marks on, as far as it is told. A lean leaf, whose duals are in the box, stands in version 2 alone
abbrev pub IsShownIn : ℕ → BookSeen → List Fact → LeanTree → Type 0
IsShownIn version book marks (Told tree) = IsShown (costs_of book) book marks tree
IsShownIn version book marks (Step fact tree) = (¬ Contains marks fact) × Follows book marks fact × IsShownIn version book (marks ++ fact ∷ []) tree
IsShownIn version book marks (Split pair one other) =
    IsUndecided book marks pair × IsShownIn version book (marks ++ first_branch pair ∷ []) one × IsShownIn version book (marks ++ second_branch pair ∷ []) other
IsShownIn version book marks (Lean duals) = (version ≡ 2) × AreDuals (costs_of book) book duals

-- each bound of the tree is at least this; that of a lean leaf is what its duals bound by, if they do
abbrev pub BoundsIn : BookSeen → ℕ → List Fact → LeanTree → Type 0
BoundsIn book low marks (Told tree) = BoundsAtLeast low tree
BoundsIn book low marks (Step fact tree) = BoundsIn book low (marks ++ fact ∷ []) tree
BoundsIn book low marks (Split pair one other) =
    BoundsIn book low (marks ++ first_branch pair ∷ []) one × BoundsIn book low (marks ++ second_branch pair ∷ []) other
BoundsIn book low marks (Lean duals) = IfSome (lean_bound book marks duals) (λ bound. low ≤ bound)

-- the lines of the tree
abbrev pub tree_lines : LeanTree → List CertLine
tree_lines (Told tree) = map line.Event (tree_events tree)
tree_lines (Step fact tree) = line.Event (event.Fact fact) ∷ tree_lines tree
tree_lines (Split pair one other) = line.Event (event.Split pair) ∷ tree_lines one ++ tree_lines other
tree_lines (Lean duals) = line.Lean ∷ map line.Event (dual_events 0 duals)

-- a tree with lean leaves stands for one that is told whole and is shown, with bounds that are no lower
abbrev pub LeanTreesAreWhole : Type 0
LeanTreesAreWhole = (book : BookSeen) → IsBook book → (version : ℕ) (marks : List Fact) (tree : LeanTree) (low : ℕ)
    → IsShownIn version book marks tree → BoundsIn book low marks tree
    → (whole : Tree) × IsShown (costs_of book) book marks whole × BoundsAtLeast low whole

-- the tree with each of its bound leaves lean
abbrev pub lean_of : Tree → LeanTree
lean_of (whole.Step fact tree) = Step fact (lean_of tree)
lean_of (whole.Split pair one other) = Split pair (lean_of one) (lean_of other)
lean_of (whole.Hole a) = Told (whole.Hole a)
lean_of (whole.Stuck k family) = Told (whole.Stuck k family)
lean_of (whole.Bounded duals covers) = Lean duals

-- a tree that is shown is so in version 2 with lean leaves, whose bounds are no lower than those of its covers
abbrev pub WholeTreesAreLean : Type 0
WholeTreesAreLean = (book : BookSeen) → IsBook book → (marks : List Fact) (tree : Tree) (low : ℕ)
    → IsShown (costs_of book) book marks tree → BoundsAtLeast low tree → IsShownIn 2 book marks (lean_of tree) × BoundsIn book low marks (lean_of tree)
