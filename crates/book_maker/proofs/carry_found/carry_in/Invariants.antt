use Rattle.std.proofs.Common.{◌≡◌, drop, length, take}
use Rattle.book_maker.specs.CarryFound.{carry_from, carry_in}
use Rattle.book_maker.proofs.carry_found.carry_in.Given as goal

-- the values so far, and what the items give that are left; each counter has a value
abbrev pub invariant-loop-i : goal.invariant-loop-i
invariant-loop-i l = (length l.values.items ≡ length l.counters.keys)
    × (carry_in l.counters.keys l.items ≡ carry_from l.counters.keys (take l.i l.items) l.values.items (drop l.i l.items))
