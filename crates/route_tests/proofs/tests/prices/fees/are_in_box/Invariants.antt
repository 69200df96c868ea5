use Rattle.std.proofs.Common.{◌<◌, ℕ, ℤ, get_or}
use Rattle.quota_rows.specs.Fees.{IsFee}
use Rattle.route_tests.proofs.tests.prices.fees.are_in_box.Given as goal

-- the fees before place q are in the box
abbrev pub invariant-loop-q : goal.invariant-loop-q
invariant-loop-q l = (p : ℕ) (d : ℤ) → p < l.q → IsFee l.table (get_or l.fees p d)
