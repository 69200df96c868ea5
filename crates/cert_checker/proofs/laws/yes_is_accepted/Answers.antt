use Rattle.cert_checker.proofs.Yes.{yes_accepted}
use Rattle.cert_checker.proofs.laws.yes_is_accepted.Goals as goal

pub returns : goal.returns
returns c = yes_accepted c.has_fact_decides.ensures c.follows_decides.ensures c.undecided_decides.ensures c.shown_decides.ensures c.bounds_decide.ensures c.legal_plan_decides.ensures c.read_lines_are_spelled.ensures
