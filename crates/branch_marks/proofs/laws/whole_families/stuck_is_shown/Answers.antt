use Rattle.branch_marks.specs.ProofTree.{zero_duals}
use Rattle.branch_marks.proofs.WholeEnds.{no_ends}
use Rattle.branch_marks.proofs.laws.whole_families.stuck_is_shown.Goals as goal

pub returns : goal.returns
returns c = λ table book sound marks k of_book stuck.
    let zeros = zero_duals book in
    let (family, shown, ends) = c.families_of_routes_exist.ensures table book sound marks k zeros in
    (family, record { aircraft = of_book; shown = shown; endless = no_ends table book marks k zeros family ends stuck })
