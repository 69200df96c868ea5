use Rattle.std.proofs.Common.{◌≤◌}
use Rattle.branch_marks.specs.TreeLog.{IsLater}
use Rattle.branch_tree.specs.inside.OpenPlaces.{places_of}
use Rattle.branch_tree.specs.inside.SearchParts.{IsGrown, IsStateFor, room}
use Rattle.branch_tree.proofs.first_pass.grow.Given as goal

-- nodes from the root to the open places were counted, and their events told
abbrev pub invariant-nodes : goal.invariant-nodes
invariant-nodes g l = record {
  grown : IsGrown l.table l.book l.limit (places_of l.state.places) l.state.best.target l.counter (g.L.TreeLog.shows l.initial.log) (g.L.TreeLog.shows l.log);
  state : IsStateFor l.table l.book l.state;
  falls : l.state.best.target ≤ l.initial.state.best.target;
  later : IsLater (g.L.TreeLog.shows l.initial.log) (g.L.TreeLog.shows l.log);
  beside : g.L.TreeLog.beside l.initial.log l.log;
}

abbrev pub decreases-nodes : goal.decreases-nodes
decreases-nodes g l = room l.book (places_of l.state.places)
