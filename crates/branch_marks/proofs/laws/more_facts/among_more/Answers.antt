use Rattle.std.specs.Prelude.{Contains}
use Rattle.branch_marks.proofs.MoreFacts.{among_added, of_fewer}
use Rattle.branch_marks.proofs.laws.more_facts.among_more.Goals as goal

pub returns : goal.returns
returns c = record { added = among_added; chain = λ marks middle more here there. of_fewer (Contains more) marks middle here there }
