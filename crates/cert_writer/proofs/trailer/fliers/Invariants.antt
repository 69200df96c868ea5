use Rattle.cert_writer.proofs.FlierLemmas.{AreNoted}
use Rattle.cert_writer.proofs.trailer.fliers.Given as goal

-- the routes so far are gone over
abbrev pub invariant-loop-k : goal.invariant-loop-k
invariant-loop-k l = AreNoted l.routes l.n l.k l.fliers.items
