-- Inside a search by least bound: what it keeps between two nodes, and what a visit finds and leaves.
-- For src/best_state.rt, src/visit.rt and others.
use Rattle.std.specs.Prelude.{◌≡◌, ◌⊎◌, ◌+◌, ◌<◌, ◌≤◌, ℕ, List, ◌++◌, All, length, map, Some}
use Rattle.tail_book.specs.Seen.{BookSeen}
use Rattle.tail_book.specs.TableSeen.{CostTableSeen}
use Rattle.connection_net.specs.Net.{net_of}
use Rattle.branch_marks.specs.declared.fact.Fact.{Fact}
use Rattle.branch_marks.specs.Bound.{bound_of, Passes}
use Rattle.branch_marks.specs.Following.{FollowInTurn, IsShut}
use Rattle.branch_marks.specs.inside.MarkTables.{AreMarksOf}
use Rattle.dive_heuristic.specs.Divers.{IsDiverOf}
use Rattle.node_leaves.specs.Target.{IsTarget, IsBest}
use Rattle.node_leaves.specs.inside.Leaf.{IsNodePricerOf}
use Rattle.branch_tree.specs.declared.limit.Limit.{Limit}
use Rattle.branch_tree.specs.SearchTree.{HasReached}
use Rattle.node_leaves.specs.inside.SearchRoutes.{AreSearchRoutes}
use Rattle.best_first.specs.declared.best_state.BestState.{BestState}
use Rattle.best_first.specs.declared.links.Link.{Link}
use Rattle.best_first.specs.declared.slots.Slot.{Slot}
use Rattle.best_first.specs.Order.{Standing, IsPruned}
use Rattle.best_first.specs.inside.Slots.{AreSlots, IsFirstBelow, room_of, slot_at, slot_standing}

-- what is kept beside the slots is of the book and the table
pub record IsBestState (table : CostTableSeen) (book : BookSeen) (state : BestState) : Type 0 where
  pub net : state.net ≡ net_of book
  pub marks : AreMarksOf book state.marks
  pub routes : AreSearchRoutes table book state.routes
  pub best : IsBest table book state.best.plan state.best.target
  pub prices : IsNodePricerOf table book state.tools.prices
  pub diver : IsDiverOf book table state.tools.diver

-- the slots of the state are right
abbrev pub HasSlots : CostTableSeen → BookSeen → BestState → Type 0
HasSlots table book state = AreSlots table book state.links.items state.slots.items state.count state.best.target

-- the open slot that comes first, whose bound leaves room below the target unless it is the root
pub record IsNext (slots : List Slot) (n target p : ℕ) : Type 0 where
  pub first : IsFirstBelow slots (length slots) (Some p)
  pub room : 1 ≤ n → ¬ Passes (bound_of (slot_at slots p).rank.bound) target

-- marks that grew from those of a place by facts that follow in their turn, and are shut
pub record IsShutAt (table : CostTableSeen) (book : BookSeen) (before marks : List Fact) (target : ℕ) : Type 0 where
  pub steps : List Fact
  pub closed : marks ≡ before ++ steps
  pub follow : FollowInTurn book before steps
  pub shut : IsShut book marks
  pub is_target : IsTarget table book target

-- one node more is counted, and what is open can grow to less
pub record IsOneMore (table : CostTableSeen) (book : BookSeen) (links : List Link) (slots : List Slot) (more : List Link) (after : List Slot)
    (n target : ℕ) : Type 0 where
  pub grown : AreSlots table book more after (n + 1) target
  pub less : room_of book more after < room_of book links slots

-- as many nodes were counted as the limit allows, or the root was, and what is open was opened under bounds that reach the target
abbrev pub IsCountedOut : Limit → List Slot → ℕ → ℕ → Type 0
IsCountedOut limit slots n target =
    HasReached limit n ⊎ ((1 ≤ n) × All (λ (one : Standing). IsPruned target one.rank one.counted) (map slot_standing slots))
