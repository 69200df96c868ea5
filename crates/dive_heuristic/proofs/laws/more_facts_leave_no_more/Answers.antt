use Rattle.dive_heuristic.proofs.FewerMarks.{no_more_undecided}
use Rattle.dive_heuristic.proofs.laws.more_facts_leave_no_more.Goals as goal

pub returns : goal.returns
returns c = no_more_undecided c.facts_leave_no_more.ensures
