use Rattle.std.proofs.Common.{ℕ, below_more, refl}
use Rattle.propagator.specs.Closed.{SomebodyFlies}
use Rattle.propagator.proofs.hole.hole.Goals as goal

pub loop-a-preserved : goal.loop-a-preserved
loop-a-preserved c = below_more (λ (b : ℕ). SomebodyFlies c.args.book.now c.args.marks.now.facts b) c.loop-a.a c.loop-a.invariant (c.if-not-somebody_flies.ensures.0 refl)
