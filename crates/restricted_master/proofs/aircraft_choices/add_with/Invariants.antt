use Rattle.std.proofs.Common.{◌≡◌, ◌<◌, ◌+ℤ◌, ℕ, length, slice_index_or}
use Rattle.restricted_master.specs.Lists.{is_of}
use Rattle.restricted_master.specs.inside.Choices.{choice_at}
use Rattle.restricted_master.specs.inside.Least.{IsLeastBelow, weight_at}
use Rattle.restricted_master.proofs.aircraft_choices.add_with.Given as goal

-- the routes so far
abbrev pub invariant-loop-q : goal.invariant-loop-q
invariant-loop-q l = record {
  least : (k : ℕ) → k < length l.choices
      → IsLeastBelow l.q (λ p. is_of l.pool k (slice_index_or l.numbers p 0)) (λ p. weight_at l.weights (slice_index_or l.numbers p 0) +ℤ l.dual) (choice_at l.choices k).with;
  same : (k : ℕ) → k < length l.choices → (choice_at l.choices k).without ≡ (choice_at l.initial.choices k).without;
}
