use Rattle.std.proofs.Common.{◌≡◌, ◌<◌, ℕ, length, take}
use Rattle.std.specs.Prelude.{if◌then◌else◌}
use Rattle.tail_book.specs.Numbers.{contains}
use Rattle.fee_master.specs.inside.Uses.{times_at}
use Rattle.fee_master.proofs.moving.write_all.Given as goal

-- the places so far
abbrev pub invariant-loop-q : goal.invariant-loop-q
invariant-loop-q l = (i : ℕ) → i < length l.times
    → times_at l.times i ≡ (if contains (take l.q l.numbers) i then l.number else times_at l.initial.times i)
