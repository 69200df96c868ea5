use Rattle.branch_marks.proofs.WholeCovers.{low_bound_shown}
use Rattle.branch_marks.proofs.laws.whole_families.low_bounds_are_shown.Goals as goal

pub returns : goal.returns
returns c = λ table book sound marks duals values in_box low. low_bound_shown c.low_weights_are_shown.ensures table book sound marks duals values in_box low
