use Rattle.std.proofs.Common.{◌≡◌, true, false}
use Rattle.fee_master.specs.inside.Settling.{AreSettled, Gains, IsClear, IsPriced}
use Rattle.fee_master.proofs.settling.sweep.Given as goal

-- either a cost unit has been gained, or nothing has moved and all places so far are settled
abbrev pub invariant-loop-j : goal.invariant-loop-j
invariant-loop-j l = record {
  priced : IsPriced l.fixed l.duals l.fees l.weights;
  clear : IsClear l.fixed l.times;
  still : l.moved ≡ false → (l.duals ≡ l.initial.duals) × (l.fees ≡ l.initial.fees) × AreSettled l.fixed l.duals l.fees l.j;
  risen : l.moved ≡ true → Gains l.fixed l.initial.duals l.initial.fees l.duals l.fees;
}
