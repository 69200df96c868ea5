use Rattle.branch_marks.proofs.MoreFacts.{opens_nothing}
use Rattle.branch_marks.proofs.laws.more_facts.more_facts_open_nothing.Goals as goal

pub returns : goal.returns
returns c = opens_nothing
