use Rattle.std.proofs.Common.{◌≡◌, ◌<◌, ◌≤◌, ◌+ℤ◌, ℕ}
use Rattle.branch_marks.specs.Bound.{value_of}
use Rattle.restricted_master.specs.Lists.{list_at}
use Rattle.restricted_master.specs.inside.Choices.{choice_at}
use Rattle.restricted_master.specs.inside.Least.{IsFound}
use Rattle.restricted_master.proofs.aircraft_choices.complete.Given as goal

-- the aircraft so far are completed, and the others as they were
abbrev pub invariant-loop-k : goal.invariant-loop-k
invariant-loop-k l = record {
  found : (k : ℕ) → k < l.k
      → IsFound l.pool (list_at l.lists.by_aircraft k) l.weights l.a (value_of l.values k +ℤ l.dual) (choice_at l.initial.choices k) (choice_at l.choices k);
  rest : (k : ℕ) → l.k ≤ k → choice_at l.choices k ≡ choice_at l.initial.choices k;
}
