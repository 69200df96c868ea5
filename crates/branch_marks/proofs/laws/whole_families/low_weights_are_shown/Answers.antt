use Rattle.branch_marks.proofs.WholeEnds.{low_ends}
use Rattle.branch_marks.proofs.laws.whole_families.low_weights_are_shown.Goals as goal

pub returns : goal.returns
returns c = λ table book sound marks k duals value least.
    let (family, shown, ends) = c.families_of_routes_exist.ensures table book sound marks k duals in
    (family, record { family = shown; ends = low_ends table book marks k duals family ends value least })
