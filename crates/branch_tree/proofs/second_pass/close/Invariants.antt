use Rattle.std.proofs.Common.{◌≡◌, length}
use Rattle.branch_marks.specs.TreeLog.{IsLater}
use Rattle.branch_tree.specs.inside.OpenPlaces.{places_of}
use Rattle.branch_tree.specs.inside.SearchParts.{AreClosed, ArePlaces, IsStateFor}
use Rattle.branch_tree.proofs.second_pass.close.Given as goal

-- the first places were closed
abbrev pub invariant-nodes : goal.invariant-nodes
invariant-nodes g l = record {
  closed : AreClosed l.table l.book l.target (places_of l.initial.state.places) (places_of l.state.places) l.low
      (g.L.TreeLog.shows l.initial.log) (g.L.TreeLog.shows l.log);
  places : ArePlaces l.table l.book (places_of l.state.places);
  state : IsStateFor l.table l.book l.state;
  best : l.state.best ≡ l.initial.state.best;
  later : IsLater (g.L.TreeLog.shows l.initial.log) (g.L.TreeLog.shows l.log);
  beside : g.L.TreeLog.beside l.initial.log l.log;
}

abbrev pub decreases-nodes : goal.decreases-nodes
decreases-nodes g l = length (places_of l.state.places)
