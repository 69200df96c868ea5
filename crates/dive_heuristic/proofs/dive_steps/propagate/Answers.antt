use Rattle.dive_heuristic.proofs.Carriers.{fixed_has_no_hole}
use Rattle.dive_heuristic.proofs.dive_steps.propagate.Goals as goal

pub returns-in-Fixed-clause-somebody : goal.returns-in-Fixed-clause-somebody
returns-in-Fixed-clause-somebody c =
    fixed_has_no_hole c.args.book.now c.close.new.marks.facts c.in_ok-closed.closed c.in-Fixed.is c.in_ok-closed.ensures.answer
