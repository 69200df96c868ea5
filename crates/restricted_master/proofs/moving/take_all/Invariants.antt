use Rattle.std.proofs.Common.{◌≡◌, ◌<◌, ℕ}
use Rattle.branch_marks.specs.Bound.{value_of}
use Rattle.restricted_master.specs.inside.Choices.{choice_at, taken_at}
use Rattle.restricted_master.proofs.moving.take_all.Given as goal

-- the aircraft so far
abbrev pub invariant-loop-k : goal.invariant-loop-k
invariant-loop-k l = (k : ℕ) → k < l.k → value_of l.values k ≡ taken_at l.dual (choice_at l.choices k).with (choice_at l.choices k).without
