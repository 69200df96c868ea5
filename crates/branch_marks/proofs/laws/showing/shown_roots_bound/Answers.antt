use Rattle.std.proofs.Common.{[]}
use Rattle.std.proofs.lemmas.List.Elements.{All-nil}
use Rattle.branch_marks.specs.Facts.{Holds}
use Rattle.branch_marks.proofs.laws.showing.shown_roots_bound.Goals as goal

pub returns : goal.returns
returns c table book sound tree low shown bounds plan legal =
    c.shown_trees_bound.ensures table book sound [] tree low shown bounds plan legal (All-nil (λ fact. Holds fact plan))
