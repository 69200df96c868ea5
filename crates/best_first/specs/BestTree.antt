-- The tree of a search by least bound, with the order in which its nodes were counted, and what its outcome has to do with them.
-- For Laws.antt, inside/Slots.antt and inside/BestParts.antt, src/closing.rt, src/tree_telling.rt and others.
use Rattle.std.specs.Prelude.{◌≡◌, ◌⊎◌, ◌+◌, ◌<◌, ◌≤◌, ⊤, ℕ, ℤ, pos, true, false, List, [], ◌∷◌, ◌++◌, All, Contains, length, map, Option, Some, None}
use Rattle.tail_book.specs.Seen.{BookSeen}
use Rattle.tail_book.specs.TableSeen.{CostTableSeen}
use Rattle.tail_book.specs.declared.outcome.Outcome.{Outcome}
use Rattle.branch_marks.specs.declared.fact.Fact.{Fact}
use Rattle.branch_marks.specs.Branches.{first_branch, second_branch}
use Rattle.node_leaves.specs.Place.{Open, open_place, root}
use Rattle.node_leaves.specs.Node.{Ending, Hole, Stuck, Bounded, Split, Node, closed_marks}
use Rattle.branch_tree.specs.declared.limit.Limit.{Limit}
use Rattle.branch_tree.specs.Step.{IsLagrangianBound}
use Rattle.branch_tree.specs.Counted.{IsCounted}
use Rattle.branch_tree.specs.Closing.{IsClosing}
use Rattle.branch_tree.specs.SearchTree.{HasReached, IsWithin, IsOutcomeOf}
use Rattle.best_first.specs.declared.rank.Rank.{Rank}
use Rattle.best_first.specs.Order.{Count, Standing, AreInOrder, numbers_of, IsOver, IsPruned}

-- a place at which a node is owed, and its rank among those that are open
pub record Owed : Type 0 where
  pub place : Open
  pub rank : Rank

-- the root, which no node has opened
abbrev pub owed_root : BookSeen → Owed
owed_root book = record { place = root book; rank = record { bound = pos 0; since = 0; second = false } }

-- from the places that are owed, in order, the slots lead to those that are left: each stands at the first place that is owed, and
-- puts what it opens in front of the others
unfoldable pub Laid : {S : Type 0} → (Owed → S → List Owed → Type 0) → List Owed → List S → List Owed → Type 0
Laid Stands owed [] left = owed ≡ left
Laid Stands [] (slot ∷ slots) left = ⊥
Laid Stands (here ∷ owed) (slot ∷ slots) left = (opened : List Owed) × Stands here slot opened × Laid Stands (opened ++ owed) slots left

-- a node of the tree: the rank of its place; how many nodes were counted before it, and nothing where it is a closing one; and,
-- where it is split, its bound, in thousandths of a cost unit
pub record Turn : Type 0 where
  pub rank : Rank
  pub number : Option ℕ
  pub bound : ℤ
  pub node : Node

-- as the order sees it
abbrev pub count_of : Option ℕ → ℕ → Option Count
count_of None target = None
count_of (Some number) target = Some (record { number = number; target = target })

abbrev pub standing_of : Turn → Standing
standing_of turn = record { rank = turn.rank; counted = count_of turn.number turn.node.target }

-- the closing nodes of a tree
abbrev pub closing_node : Option ℕ → Node → List Node
closing_node None node = node ∷ []
closing_node (Some number) node = []

unfoldable pub closing_of : List Turn → List Node
closing_of [] = []
closing_of (turn ∷ tree) = closing_node turn.number turn.node ++ closing_of tree

-- what an end opens: the first branch of a split and then its second, ranked by its bound and by how many nodes were counted then
abbrev pub opened_by : List Fact → Ending → ℤ → ℕ → List Owed
opened_by marks (Split pair duals routes dive) bound since =
    record { place = open_place (marks ++ first_branch pair ∷ []) duals; rank = record { bound = bound; since = since; second = false } }
    ∷ record { place = open_place (marks ++ second_branch pair ∷ []) duals; rank = record { bound = bound; since = since; second = true } } ∷ []
opened_by marks (Hole a) bound since = []
opened_by marks (Stuck k family) bound since = []
opened_by marks (Bounded duals covers) bound since = []

-- the bound of a split is that of its duals
abbrev pub HasBound : CostTableSeen → BookSeen → List Fact → Ending → ℤ → Type 0
HasBound table book marks (Split pair duals routes dive) bound = IsLagrangianBound table book marks duals bound
HasBound table book marks (Hole a) bound = ⊤
HasBound table book marks (Stuck k family) bound = ⊤
HasBound table book marks (Bounded duals covers) bound = ⊤

-- a closing node is one under the final target, and opens nothing; a counted one is right under the target that it left
abbrev pub IsTurnAt : CostTableSeen → BookSeen → ℕ → Open → Option ℕ → ℤ → Node → List Owed → Type 0
IsTurnAt table book final here None bound node opened = IsClosing table book final here node × (opened ≡ [])
IsTurnAt table book final here (Some number) bound node opened =
    IsCounted table book here node × HasBound table book (closed_marks here node) node.ending bound
    × (opened ≡ opened_by (closed_marks here node) node.ending bound (number + 1))

-- the node stands at this place, and opens these
pub record StandsAt (table : CostTableSeen) (book : BookSeen) (final : ℕ) (here : Owed) (turn : Turn) (opened : List Owed) : Type 0 where
  pub rank : turn.rank ≡ here.rank
  pub is : IsTurnAt table book final here.place turn.number turn.bound turn.node opened

-- how many nodes of the tree were counted
abbrev pub count_in : List Turn → ℕ
count_in tree = length (numbers_of (map standing_of tree))

-- as many nodes were counted as the limit allows; or the root was, and each place without a counted node was opened under a bound
-- that reaches the final target
abbrev pub IsDone : Limit → ℕ → List Turn → Type 0
IsDone limit final tree =
    HasReached limit (count_in tree)
    ⊎ ((1 ≤ count_in tree) × All (λ (one : Standing). IsPruned final one.rank one.counted) (map standing_of tree))

-- the nodes, in depth-first order, lead from the root to no place; those that were counted are numbered from 0, each was taken in
-- order, targets never rise and end at the final one; and the outcome is what they say
pub record IsBestTree (table : CostTableSeen) (book : BookSeen) (limit : Limit) (outcome : Outcome) (tree : List Turn) : Type 0 where
  pub final : ℕ
  pub laid : Laid (StandsAt table book final) (owed_root book ∷ []) tree []
  pub numbered : (i : ℕ) → i < count_in tree → Contains (numbers_of (map standing_of tree)) i
  pub ordered : AreInOrder (map standing_of tree)
  pub over : All (λ (one : Standing). IsOver final one.counted) (map standing_of tree)
  pub within : IsWithin limit (count_in tree)
  pub done : IsDone limit final tree
  pub answered : IsOutcomeOf table book limit (count_in tree) (closing_of tree) final outcome

-- the nodes of a tree, without their order
abbrev pub nodes_of : List Turn → List Node
nodes_of tree = map (λ (turn : Turn). turn.node) tree
