-- The laws of search trees: what such a tree ends with is true, and its nodes are a proof tree of what the outcome
-- claims. Both hold of every tree that was grown from the root, whichever of its places was taken first.
use Rattle.std.specs.Prelude.{◌≡◌, ◌≤◌, ◌+◌, ℕ, ℤ, List, [], ◌∷◌, ◌++◌, length, All}
use Rattle.tail_book.specs.Seen.{BookSeen}
use Rattle.tail_book.specs.TableSeen.{CostTableSeen}
use Rattle.tail_book.specs.CostTable.{IsCostTable, IsTableFor}
use Rattle.tail_book.specs.inside.Sound.{IsBook}
use Rattle.tail_book.specs.Truth.{IsTrueOutcomeIn}
use Rattle.tail_book.specs.declared.outcome.Outcome.{Outcome}
use Rattle.tail_book.specs.declared.outcome.Outcome.TheVariants.{Optimal, Infeasible, Between, Above}
use Rattle.branch_marks.specs.declared.fact.Fact.{Fact}
use Rattle.branch_marks.specs.ProofTree.{Tree, IsShown, BoundsAtLeast}
use Rattle.branch_marks.specs.inside.BranchTests.{undecided}
use Rattle.branch_tree.specs.declared.limit.Limit.{Limit}
use Rattle.node_leaves.specs.Place.{Open, root}
use Rattle.node_leaves.specs.Node.{Node, IsShownNode, Bounds}
use Rattle.node_leaves.specs.Growth.{Grows}
use Rattle.branch_tree.specs.GrownTree.{IsGrownTree}
use Rattle.branch_marks.specs.TreeEvents.{tree_events}
use Rattle.node_leaves.specs.NodeEvents.{events_of}
use Rattle.node_leaves.specs.Target.{no_target, HasUsedDive}
use Rattle.branch_tree.specs.SearchTree.{SearchTree, nodes_of, IsSearchTree}
use Rattle.branch_tree.specs.Step.{IsLagrangianBound, ReachesBoundOf}

-- the bound that an outcome claims of every legal plan; where it claims that there is none, one more than any costs
abbrev pub claimed : CostTableSeen → Outcome → ℕ
claimed table (Optimal plan cost) = cost
claimed table Infeasible = no_target table
claimed table (Between plan low high nodes) = low
claimed table (Above low nodes) = low

-- the bounds of a grown tree reach what the outcome claims
abbrev pub GrownTreesAreBounded : Type 0
GrownTreesAreBounded = (table : CostTableSeen) (book : BookSeen) (limit : Limit) (outcome : Outcome) (count : ℕ) (closing nodes : List Node)
    → IsGrownTree table book limit outcome count closing nodes → Grows (Bounds table book (claimed table outcome)) (root book ∷ []) nodes []

-- what it ends with is true
abbrev pub GrownTreesAreTrue : Type 0
GrownTreesAreTrue = (table : CostTableSeen) (book : BookSeen) → IsBook book → IsCostTable table → IsTableFor book table
    → (limit : Limit) (outcome : Outcome) (count : ℕ) (closing nodes : List Node) → IsGrownTree table book limit outcome count closing nodes
    → IsTrueOutcomeIn table book outcome

-- a search tree is one
abbrev pub SearchTreesAreGrown : Type 0
SearchTreesAreGrown = (table : CostTableSeen) (book : BookSeen) (limit : Limit) (outcome : Outcome) (tree : SearchTree)
    → IsSearchTree table book limit outcome tree → IsGrownTree table book limit outcome (length tree.counted) tree.closing (nodes_of tree)

-- so what a search tree ends with is true
abbrev pub SearchTreesAreTrue : Type 0
SearchTreesAreTrue = (table : CostTableSeen) (book : BookSeen) → IsBook book → IsCostTable table → IsTableFor book table
    → (limit : Limit) (outcome : Outcome) (tree : SearchTree) → IsSearchTree table book limit outcome tree → IsTrueOutcomeIn table book outcome

-- its nodes are shown, and leave no place open
abbrev pub SearchTreesAreShown : Type 0
SearchTreesAreShown = (table : CostTableSeen) (book : BookSeen) (limit : Limit) (outcome : Outcome) (tree : SearchTree)
    → IsSearchTree table book limit outcome tree → Grows (IsShownNode table book) (root book ∷ []) (nodes_of tree) []

-- and their bounds reach what the outcome claims
abbrev pub SearchTreesAreBounded : Type 0
SearchTreesAreBounded = (table : CostTableSeen) (book : BookSeen) (limit : Limit) (outcome : Outcome) (tree : SearchTree)
    → IsSearchTree table book limit outcome tree → Grows (Bounds table book (claimed table outcome)) (root book ∷ []) (nodes_of tree) []

-- the final target is at most the cost of each plan with which a dive of a split ended
abbrev pub DivesAreUsed : Type 0
DivesAreUsed = (table : CostTableSeen) (book : BookSeen) (limit : Limit) (outcome : Outcome) (tree : SearchTree)
    → (is : IsSearchTree table book limit outcome tree) → All (λ (node : Node). HasUsedDive is.final node.ending) tree.counted

-- shown nodes that lead from the root to no open place are a shown proof tree, with the same bounds and the same events
abbrev pub ShownNodesAreTrees : Type 0
ShownNodesAreTrees = (table : CostTableSeen) (book : BookSeen) (low : ℕ) (nodes : List Node) → Grows (Bounds table book low) (root book ∷ []) nodes []
    → (tree : Tree) × IsShown table book [] tree × BoundsAtLeast low tree × (tree_events tree ≡ events_of nodes)

-- of the places to which shown nodes lead from the root, at most one more is open than there are pairs that no facts leave undecided
abbrev pub OpenPlacesAreFew : Type 0
OpenPlacesAreFew = (table : CostTableSeen) (book : BookSeen) (nodes : List Node) (left : List Open)
    → Grows (IsShownNode table book) (root book ∷ []) nodes left → length left ≤ undecided book [] + 1

-- at a branch of a split, whose marks are those of the split and one fact more, the duals of the split bound no lower than at the
-- split. A split's bound reaches that of its place (RisesFrom in Step.antt), so bounds never fall along a branch, nor does the least
-- bound of the places that are open as more nodes are counted
abbrev pub BranchesBoundNoLower : Type 0
BranchesBoundNoLower = (table : CostTableSeen) (book : BookSeen) (marks : List Fact) (fact : Fact) (duals : List ℤ) (bound : ℤ)
    → IsLagrangianBound table book (marks ++ fact ∷ []) duals bound → ReachesBoundOf table book marks duals bound
