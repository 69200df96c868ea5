use Rattle.open_branches.specs.Branches.{owed_of}
use Rattle.quota_search.specs.inside.Owing.{AreAllOnce, ComesDownTo, owed_room}
use Rattle.quota_search.specs.inside.State.{IsStateFor}
use Rattle.quota_search.proofs.tree.grow.Given as goal

-- the root comes down to what is owed
abbrev pub invariant-nodes : goal.invariant-nodes
invariant-nodes l = record {
  state : IsStateFor l.table l.book l.quotas l.state;
  once : AreAllOnce (owed_of l.state.branches);
  down : ComesDownTo l.table l.book l.quotas l.state.best.target (owed_of l.initial.state.branches) (owed_of l.state.branches);
}

abbrev pub decreases-nodes : goal.decreases-nodes
decreases-nodes l = owed_room l.book (owed_of l.state.branches)
