use Rattle.std.proofs.Common.{◌≡◌, ◌++◌, drop, length}
use Rattle.plan_picture.specs.Shares.{greater_of}
use Rattle.plan_picture.proofs.shares.greater_of.Given as goal

-- the greater values so far, and those that are left
abbrev pub invariant-loop-c : goal.invariant-loop-c
invariant-loop-c l = record {
  values : greater_of l.some l.others ≡ l.all.items ++ greater_of (drop l.c l.some) (drop l.c l.others);
  width : length l.all.items ≡ l.c;
}
