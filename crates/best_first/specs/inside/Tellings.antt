-- What is told of a tree that has grown: of an end that was kept, of a slot, and of the slots before one.
-- For src/node_telling.rt, src/closing.rt and src/tree_telling.rt.
use Rattle.std.specs.Prelude.{◌≡◌, ℕ, ℤ, List, [], ◌∷◌, ◌++◌, All, map, take, drop, Option, None}
use Rattle.tail_book.specs.Seen.{BookSeen}
use Rattle.tail_book.specs.TableSeen.{CostTableSeen}
use Rattle.branch_marks.specs.declared.fact.Fact.{Fact}
use Rattle.branch_marks.specs.LogShown.{LogShown}
use Rattle.branch_marks.specs.TreeLog.{Notes}
use Rattle.node_leaves.specs.Node.{Ending, Node, IsShownEnding}
use Rattle.node_leaves.specs.NodeEvents.{ending_events, events_of, node_events}
use Rattle.branch_tree.specs.Closing.{IsLowest}
use Rattle.branch_tree.specs.Counted.{IsEndOf}
use Rattle.best_first.specs.declared.links.Link.{Link}
use Rattle.best_first.specs.declared.slots.KeptEnd.{KeptEnd}
use Rattle.best_first.specs.declared.slots.Slot.{Slot}
use Rattle.best_first.specs.Order.{IsPruned, Standing}
use Rattle.best_first.specs.BestTree.{Owed, owed_root, Laid, Turn, StandsAt, HasBound, opened_by, closing_node, closing_of, nodes_of, standing_of}
use Rattle.best_first.specs.inside.Slots.{IsSlotAt, kept_bound, kept_count, opened_from, slot_standing}

-- an end that was kept was told: it is shown, is right for its target, has the bound that was kept, and opens the same
pub record IsEndTold (table : CostTableSeen) (book : BookSeen) (marks : List Fact) (duals : List ℤ) (target : ℕ) (end : KeptEnd) (old new : LogShown)
    : Type 0 where
  pub ending : Ending
  pub shown : IsShownEnding table book marks ending
  pub right : IsEndOf table book marks target ending
  pub bounds : HasBound table book marks ending (kept_bound end)
  pub opens : (since : ℕ) → opened_from marks duals end since ≡ opened_by marks ending (kept_bound end) since
  pub told : Notes old new (ending_events ending)

-- a slot was told as a node of the tree: one that stands wherever the slot does, opens the same, and is the same in the order; with
-- it this is the least bound that is left; and no bound is left at a place that was opened under a bound that reaches the target
pub record IsSlotTold (table : CostTableSeen) (book : BookSeen) (final : ℕ) (links : List Link) (slot : Slot) (low least : Option ℕ) (old new : LogShown)
    : Type 0 where
  pub turn : Turn
  pub same : standing_of turn ≡ slot_standing slot
  pub stands : (here : Owed) (opened : List Owed) → IsSlotAt table book links here slot opened → StandsAt table book final here turn opened
  pub lowest : (nodes : List Node) → IsLowest final nodes low → IsLowest final (nodes ++ closing_node turn.number turn.node) least
  pub pruned : IsPruned final slot.rank (kept_count slot.kept) → IsLowest final (closing_node turn.number turn.node) None
  pub told : Notes old new (node_events turn.node)

-- the slots before p were told, and this is the least bound that is left; where all of their places that are open were opened under
-- bounds that reach the target, none is left
pub record AreToldTo (table : CostTableSeen) (book : BookSeen) (final : ℕ) (links : List Link) (slots : List Slot) (p : ℕ) (low : Option ℕ)
    (old new : LogShown) : Type 0 where
  pub tree : List Turn
  pub owed : List Owed
  pub laid : Laid (StandsAt table book final) (owed_root book ∷ []) tree owed
  pub left : Laid (IsSlotAt table book links) owed (drop p slots) []
  pub same : map standing_of tree ≡ map slot_standing (take p slots)
  pub lowest : IsLowest final (closing_of tree) low
  pub pruned : All (λ (one : Standing). IsPruned final one.rank one.counted) (map slot_standing (take p slots)) → IsLowest final (closing_of tree) None
  pub told : Notes old new (events_of (nodes_of tree))

-- all of them were
pub record AreTold (table : CostTableSeen) (book : BookSeen) (final : ℕ) (slots : List Slot) (low : Option ℕ) (old new : LogShown) : Type 0 where
  pub tree : List Turn
  pub laid : Laid (StandsAt table book final) (owed_root book ∷ []) tree []
  pub same : map standing_of tree ≡ map slot_standing slots
  pub lowest : IsLowest final (closing_of tree) low
  pub pruned : All (λ (one : Standing). IsPruned final one.rank one.counted) (map slot_standing slots) → IsLowest final (closing_of tree) None
  pub told : Notes old new (events_of (nodes_of tree))
