use Rattle.cert_writer.proofs.FlierLemmas.{IsLeft}
use Rattle.cert_writer.proofs.trailer.note_route.Given as goal

-- the activities that are left are still to be gone over
abbrev pub invariant-loop-a : goal.invariant-loop-a
invariant-loop-a l = IsLeft l.route l.a-index l.k l.nobody l.fn.fliers l.fliers
