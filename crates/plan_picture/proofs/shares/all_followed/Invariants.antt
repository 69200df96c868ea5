use Rattle.std.proofs.Common.{◌≡◌, ◌++◌, drop, map}
use Rattle.maint_counters.specs.inside.Counts.{AreCountable}
use Rattle.plan_picture.specs.Shares.{followed}
use Rattle.plan_picture.proofs.shares.all_followed.Given as goal

-- the values so far, and those that are left
abbrev pub invariant-loop-value : goal.invariant-loop-value
invariant-loop-value l = record {
  values : map followed l.values ≡ l.all.items ++ map followed (drop l.value-index l.values);
  range : AreCountable l.all.items;
}
