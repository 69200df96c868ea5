use Rattle.std.proofs.Common.{◌≡◌, ◌<◌, ℕ, Some, None}
use Rattle.branch_marks.specs.Bound.{value_of}
use Rattle.restricted_master.specs.inside.Choices.{choice_at}
use Rattle.restricted_master.proofs.aircraft_choices.start.Given as goal

-- the aircraft so far
abbrev pub invariant-loop-k : goal.invariant-loop-k
invariant-loop-k l = record {
  with : (k : ℕ) → k < l.k → (choice_at l.choices k).with ≡ None;
  without : (k : ℕ) → k < l.k → (choice_at l.choices k).without ≡ Some (value_of l.values k);
}
