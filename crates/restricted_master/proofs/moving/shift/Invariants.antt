use Rattle.std.proofs.Common.{◌≡◌, ◌<◌, ◌-ℤ◌, ℕ, length, take}
use Rattle.std.specs.Prelude.{if◌then◌else◌}
use Rattle.tail_book.specs.Numbers.{contains}
use Rattle.restricted_master.specs.inside.Least.{weight_at}
use Rattle.restricted_master.proofs.moving.shift.Given as goal

-- the routes so far
abbrev pub invariant-loop-q : goal.invariant-loop-q
invariant-loop-q l = (i : ℕ) → i < length l.weights
    → weight_at l.weights i ≡ (if contains (take l.q l.numbers) i then weight_at l.initial.weights i -ℤ l.rise else weight_at l.initial.weights i)
