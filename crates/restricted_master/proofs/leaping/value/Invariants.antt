use Rattle.std.proofs.Common.{◌<◌, ℕ}
use Rattle.branch_marks.specs.Bound.{value_of}
use Rattle.restricted_master.specs.Lists.{list_at}
use Rattle.restricted_master.specs.inside.Leaps.{IsLeastOf}
use Rattle.restricted_master.proofs.leaping.value.Given as goal

-- the aircraft so far
abbrev pub invariant-loop-k : goal.invariant-loop-k
invariant-loop-k l = (k : ℕ) → k < l.k → IsLeastOf (list_at l.lists.by_aircraft k) l.weights (value_of l.values k)
