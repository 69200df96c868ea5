use Rattle.std.proofs.Common.{◌≡◌, ℕ}
use Rattle.std.specs.Prelude.{◌&&◌, nat_le, nat_lt, not}
use Rattle.branch_marks.specs.inside.BitRows.{bit}
use Rattle.branch_marks.proofs.bit_rows.clear_range.Given as goal

-- the numbers so far are cleared
abbrev pub invariant-loop-p : goal.invariant-loop-p
invariant-loop-p l = (q : ℕ) → bit l.words q ≡ (bit l.fn.words q && not (nat_le l.from q && nat_lt q l.p))
