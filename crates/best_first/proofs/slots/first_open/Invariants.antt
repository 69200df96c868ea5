use Rattle.std.proofs.Common.{◌<◌, length}
use Rattle.std.specs.Prelude.{IfSome}
use Rattle.best_first.specs.inside.Slots.{IsFirstBelow}
use Rattle.best_first.proofs.slots.first_open.Given as goal

-- the first open one so far
abbrev pub invariant-loop-p : goal.invariant-loop-p
invariant-loop-p l = record {
  first : IsFirstBelow l.slots l.p l.first;
  within : IfSome l.first (λ q. q < length l.slots);
}
