-- Inside a search: what it keeps between two nodes, what holds of its open places, how much they can still grow to, and what its
-- two passes leave. For src/first_pass.rt, src/second_pass.rt and others.
use Rattle.std.specs.Prelude.{◌≡◌, ◌⊎◌, ◌+◌, ◌<◌, ◌≤◌, ⊤, ℕ, zero, suc, List, [], ◌∷◌, ◌++◌, length, Option, Some, None}
use Rattle.tail_book.specs.Seen.{BookSeen}
use Rattle.tail_book.specs.TableSeen.{CostTableSeen}
use Rattle.tail_book.specs.declared.outcome.Outcome.{Outcome}
use Rattle.tail_book.specs.declared.outcome.Outcome.TheVariants.{Optimal, Infeasible, Between, Above}
use Rattle.connection_net.specs.Net.{net_of}
use Rattle.branch_marks.specs.LogShown.{LogShown}
use Rattle.branch_marks.specs.Settled.{AreDuals}
use Rattle.branch_marks.specs.TreeLog.{Notes}
use Rattle.branch_marks.specs.inside.BranchTests.{undecided}
use Rattle.dive_heuristic.specs.Divers.{IsDiverOf}
use Rattle.branch_tree.specs.declared.limit.Limit.{Limit}
use Rattle.branch_tree.specs.declared.limit.Limit.TheVariants.{Free, Nodes}
use Rattle.branch_tree.specs.declared.search_state.SearchState.{SearchState}
use Rattle.branch_tree.specs.Closing.{IsClosing, IsLowest}
use Rattle.branch_tree.specs.Counted.{IsCounted}
use Rattle.node_leaves.specs.Growth.{Grows}
use Rattle.node_leaves.specs.Node.{Node, branches, closed_marks}
use Rattle.node_leaves.specs.NodeEvents.{events_of, node_events}
use Rattle.node_leaves.specs.Place.{Open, root}
use Rattle.branch_tree.specs.SearchTree.{HasReached}
use Rattle.node_leaves.specs.inside.FittingPool.{IsLegalPool}
use Rattle.node_leaves.specs.Target.{no_target, IsBest, FallsTo}
use Rattle.node_leaves.specs.inside.Leaf.{IsNodePricerOf}
use Rattle.branch_tree.specs.inside.OpenPlaces.{AreOpenPlaces}

-- what is kept is of the book and the table: its network, open places, a pool of legal routes, the best
-- plan so far, a pricer, and a diver
pub record IsStateFor (table : CostTableSeen) (book : BookSeen) (state : SearchState) : Type 0 where
  pub net : state.net ≡ net_of book
  pub places : AreOpenPlaces book state.places
  pub pool : IsLegalPool table book state.pool
  pub best : IsBest table book state.best.plan state.best.target
  pub prices : IsNodePricerOf table book state.tools.prices
  pub diver : IsDiverOf book table state.tools.diver

-- a place that a search may open: its duals are in the box
abbrev pub IsPlace : CostTableSeen → BookSeen → Open → Type 0
IsPlace table book here = AreDuals table book here.duals

-- each of these is such a place
abbrev pub ArePlaces : CostTableSeen → BookSeen → List Open → Type 0
ArePlaces table book [] = ⊤
ArePlaces table book (here ∷ places) = IsPlace table book here × ArePlaces table book places

-- three to the power of n
abbrev pub tripled : ℕ → ℕ
tripled zero = 1
tripled (suc n) = tripled n + tripled n + tripled n

-- how many nodes open places can grow to at most: the measure by which a search ends
unfoldable pub room : BookSeen → List Open → ℕ
room book [] = 0
room book (here ∷ places) = tripled (undecided book here.marks) + room book places

-- the counter under a limit: exact, and at most the limit; without one it may stand still, and nothing is said of it
abbrev pub Counts : Limit → ℕ → ℕ → Type 0
Counts Free counter count = ⊤
Counts (Nodes most) counter count = (counter ≡ count) × (count ≤ most)

-- the limit allows one node more
abbrev pub Allows : Limit → ℕ → Type 0
Allows Free counter = ⊤
Allows (Nodes most) counter = counter < most

-- the limit is reached
abbrev pub HasStopped : Limit → ℕ → Type 0
HasStopped Free counter = ⊥
HasStopped (Nodes most) counter = most ≤ counter

-- one node was counted at this place, its branches stand in front of the other places, and it was told
pub record IsVisited (table : CostTableSeen) (book : BookSeen) (here : Open) (others places : List Open) (target : ℕ) (old new : LogShown) : Type 0 where
  pub node : Node
  pub counted : IsCounted table book here node
  pub goal : node.target ≡ target
  pub left : places ≡ branches (closed_marks here node) node.ending ++ others
  pub told : Notes old new (node_events node)

-- nodes were counted from the root to these places, with targets that fall to this one, and told
pub record IsGrown (table : CostTableSeen) (book : BookSeen) (limit : Limit) (places : List Open) (target counter : ℕ) (old new : LogShown) : Type 0 where
  pub counted : List Node
  pub grown : Grows (IsCounted table book) (root book ∷ []) counted places
  pub falls : FallsTo (no_target table) counted target
  pub counts : Counts limit counter (length counted)
  pub told : Notes old new (events_of counted)

-- and so many that no place is left, or the limit is reached
pub record IsGrownOut (table : CostTableSeen) (book : BookSeen) (limit : Limit) (places : List Open) (target counter : ℕ) (old new : LogShown) : Type 0 where
  pub run : IsGrown table book limit places target counter old new
  pub reached : (places ≡ []) ⊎ HasReached limit (length run.counted)

-- one place was closed: its node was priced and told, and with it this is the least bound that is left
pub record IsOneClosed (table : CostTableSeen) (book : BookSeen) (target : ℕ) (here : Open) (low least : Option ℕ) (old new : LogShown) : Type 0 where
  pub node : Node
  pub closing : IsClosing table book target here node
  pub lowest : (nodes : List Node) → IsLowest target nodes low → IsLowest target (nodes ++ node ∷ []) least
  pub told : Notes old new (node_events node)

-- places were closed up to those that are left, and this is the least bound that is left
pub record AreClosed (table : CostTableSeen) (book : BookSeen) (target : ℕ) (places left : List Open) (low : Option ℕ) (old new : LogShown) : Type 0 where
  pub closing : List Node
  pub closed : Grows (IsClosing table book target) places closing left
  pub lowest : IsLowest target closing low
  pub told : Notes old new (events_of closing)

-- the outcome of the best plan, its cost, the least bound that is left, and the counter
abbrev pub outcome_for : Option (List (List ℕ)) → ℕ → Option ℕ → ℕ → Outcome
outcome_for (Some plan) target None nodes = Optimal plan target
outcome_for None target None nodes = Infeasible
outcome_for (Some plan) target (Some low) nodes = Between plan low target nodes
outcome_for None target (Some low) nodes = Above low nodes
