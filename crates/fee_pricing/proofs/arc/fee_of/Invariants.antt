use Rattle.std.proofs.Common.{◌≡◌, ◌+ℤ◌, ◌≤ℤ◌, ◌*◌, pos, drop}
use Rattle.quota_rows.specs.Fees.{fee_of}
use Rattle.fee_pricing.proofs.arc.fee_of.Given as goal

-- with the fees of the quotas from q on it is the whole fee
abbrev pub invariant-loop-q : goal.invariant-loop-q
invariant-loop-q l = record {
  left : (l.sum +ℤ fee_of l.book (drop l.q l.quotas) (drop l.q l.fees) l.a l.b) ≡ fee_of l.book l.quotas l.fees l.a l.b;
  least : pos 0 ≤ℤ l.sum;
  most : l.sum ≤ℤ pos (l.q * 8000000001000);
}
