use Rattle.std.proofs.Common.{length}
use Rattle.tail_book.specs.declared.limits.TheConstants.{ACTIVITY_LIMIT}
use Rattle.plan_report.proofs.IdLemmas.{AreKept}
use Rattle.plan_report.proofs.plan_text.ids_in.Given as goal

-- the parts so far are names, and the first of them are kept
abbrev pub invariant-loop-part : goal.invariant-loop-part
invariant-loop-part l = AreKept ACTIVITY_LIMIT l.fn.parts l.parts l.ids.items l.too_many

abbrev pub decreases-loop-part : goal.decreases-loop-part
decreases-loop-part l = length l.parts
