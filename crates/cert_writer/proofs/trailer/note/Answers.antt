use Rattle.std.proofs.Common.{arith}
use Rattle.cert_writer.proofs.FlierLemmas.{notes-kept, notes-set}
use Rattle.cert_writer.proofs.trailer.note.Goals as goal
use Rattle.cert_writer.proofs.trailer.note.Goals.{else-a-fliers-via-then-a-fliers+else-fliers-a, else-a-fliers-via-else-a-fliers}

pub returns-then-fliers-a : goal.returns-then-fliers-a
returns-then-fliers-a c = notes-set c.args.a c.args.k c.args.nobody c.args.fliers.now c.if-a-fliers.true c.if-fliers-a.true

pub returns-else-a-fliers : goal.returns-else-a-fliers
returns-else-a-fliers c = notes-kept c.args.a c.args.k c.args.nobody c.args.fliers.now
    (λ within is. elim c.else-a-fliers.branch [
      | else-a-fliers-via-then-a-fliers+else-fliers-a w ↦ w.if-fliers-a.false is
      | else-a-fliers-via-else-a-fliers w ↦ absurd (omega (arith, within, w.if-a-fliers.false))
    ])
