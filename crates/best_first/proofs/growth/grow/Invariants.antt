use Rattle.std.proofs.Common.{◌≤◌}
use Rattle.branch_tree.specs.SearchTree.{IsWithin}
use Rattle.best_first.specs.inside.BestParts.{HasSlots, IsBestState}
use Rattle.best_first.specs.inside.Slots.{room_of}
use Rattle.best_first.proofs.growth.grow.Given as goal

-- the root was counted, and with it no more nodes than the limit allows
abbrev pub invariant-nodes : goal.invariant-nodes
invariant-nodes l = record {
  state : IsBestState l.table l.book l.state;
  slots : HasSlots l.table l.book l.state;
  some : 1 ≤ l.state.count;
  within : IsWithin l.limit l.state.count;
}

abbrev pub decreases-nodes : goal.decreases-nodes
decreases-nodes l = room_of l.book l.state.links.items l.state.slots.items
