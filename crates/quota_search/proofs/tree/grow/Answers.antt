use Rattle.std.proofs.Common.{sym, subst, List}
use Rattle.branch_marks.specs.declared.fact.Fact.{Fact}
use Rattle.open_branches.specs.Branches.{owed_of}
use Rattle.quota_search.specs.inside.Owing.{AreAllOnce, ComesDownTo}
use Rattle.quota_search.proofs.NodeEnds.{comes_on, comes_to_itself}
use Rattle.quota_search.proofs.tree.grow.Goals as goal

-- the root is owed
pub nodes-init : goal.nodes-init
nodes-init c = record {
  state = c.requires.state;
  once = subst AreAllOnce (sym c.requires.root) (tt, tt);
  down = comes_to_itself c.args.table.now c.args.book.now c.args.quotas.now c.args.state.now.best.target (owed_of c.args.state.now.branches);
}

-- what a node leaves is owed in the place of what was
pub nodes-preserved : goal.nodes-preserved
nodes-preserved c =
    let table = c.args.table.now in let book = c.args.book.now in let quotas = c.args.quotas.now in
    let first = owed_of c.args.state.now.branches in let target = c.nodes.state.best.target in
    let visited = c.in-Ok-visit.ensures in
    let before = subst (λ (z : List (List Fact)). ComesDownTo table book quotas target first z) (sym c.in-Ok.ensures.owed) c.nodes.invariant.down in
    record {
      state = visited.state;
      once = visited.once;
      down = comes_on table book quotas target c.visit.new.state.best.target first (owed_of c.next.new.self) (owed_of c.visit.new.state.branches)
          visited.falls before visited.visited;
    }
