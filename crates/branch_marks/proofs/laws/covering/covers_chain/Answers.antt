use Rattle.branch_marks.proofs.Dominance.{covers_chain}
use Rattle.branch_marks.proofs.laws.covering.covers_chain.Goals as goal

pub returns : goal.returns
returns c = covers_chain c.each_at_most_chains.ensures
