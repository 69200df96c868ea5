use Rattle.branch_marks.proofs.Dominance.{covers_itself}
use Rattle.branch_marks.proofs.laws.covering.labels_cover_themselves.Goals as goal

pub returns : goal.returns
returns c = covers_itself c.each_at_most_itself.ensures
