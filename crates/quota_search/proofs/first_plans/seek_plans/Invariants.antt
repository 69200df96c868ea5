use Rattle.std.proofs.Common.{◌≡◌}
use Rattle.open_branches.specs.Branches.{owed_of}
use Rattle.quota_search.specs.inside.State.{IsStateFor}
use Rattle.quota_search.proofs.first_plans.seek_plans.Given as goal

-- what is kept stays that of the book, and as much is owed as before
abbrev pub invariant-loop-i : goal.invariant-loop-i
invariant-loop-i l = record {
  state : IsStateFor l.table l.book l.quotas l.state;
  owed : owed_of l.state.branches ≡ owed_of l.fn.state.branches;
}
