-- The closing pass: the nodes of the places that are open when the counter has reached its limit. For src/second_pass.rt.
use Rattle.std.specs.Prelude.{◌≡◌, ℕ, ◌≤◌, List, [], All, Any, Option, Some, None}
use Rattle.tail_book.specs.Seen.{BookSeen}
use Rattle.tail_book.specs.TableSeen.{CostTableSeen}
use Rattle.branch_marks.specs.ProofTree.{leaf_bound}
use Rattle.node_leaves.specs.Priced.{IsPriced}
use Rattle.node_leaves.specs.Place.{Open}
use Rattle.node_leaves.specs.Node.{Ending, Hole, Stuck, Bounded, Split, Node, IsShownNode}
use Rattle.branch_marks.specs.Bound.{Passes}
use Rattle.node_leaves.specs.Target.{bound_under}

-- a closing node: no fact was added, and its target is the final one
pub record IsClosing (table : CostTableSeen) (book : BookSeen) (final : ℕ) (here : Open) (node : Node) : Type 0 where
  pub shown : IsShownNode table book here node
  pub no_steps : node.steps ≡ []
  pub target : node.target ≡ final
  pub priced : IsPriced table book here node.ending

-- the end is a bound that does not reach the target, and comes to this in cost units, rounded up: below the target there
-- may be a plan
abbrev pub IsLeftAt : ℕ → Ending → ℕ → Type 0
IsLeftAt final (Bounded duals covers) low = (¬ Passes (bound_under duals covers) final) × (low ≡ leaf_bound duals covers)
IsLeftAt final (Hole a) low = ⊥
IsLeftAt final (Stuck k family) low = ⊥
IsLeftAt final (Split pair duals routes dive) low = ⊥

-- no node is left so; or this is the least at which one is
abbrev pub IsLowest : ℕ → List Node → Option ℕ → Type 0
IsLowest final nodes None = All (λ node. (bound : ℕ) → ¬ IsLeftAt final node.ending bound) nodes
IsLowest final nodes (Some low) =
    Any (λ node. IsLeftAt final node.ending low) nodes
    × All (λ node. (bound : ℕ) → IsLeftAt final node.ending bound → low ≤ bound) nodes
