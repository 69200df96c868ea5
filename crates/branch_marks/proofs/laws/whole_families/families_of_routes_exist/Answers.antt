use Rattle.branch_marks.proofs.WholeFamily.{whole_family, whole_is_shown, whole_ends}
use Rattle.branch_marks.proofs.laws.whole_families.families_of_routes_exist.Goals as goal

-- the family of all labels
pub returns : goal.returns
returns c = λ table book sound marks k duals.
    let usable = c.usable_decides.ensures in let limits = c.limits_decide.ensures in let itself = c.labels_cover_themselves.ensures in let rise = c.links_rise.ensures in
    let more_legal = c.legal_with_one_more.ensures in let more_usable = c.usable_with_one_more.ensures in
    let place = c.place_with_one_more.ensures in let counters = c.counters_with_one_more.ensures in let weighs = c.weight_with_one_more.ensures in (
      whole_family table book marks k duals,
      whole_is_shown table book marks k duals usable limits itself rise sound more_legal more_usable place counters weighs,
      whole_ends table book marks k duals usable limits itself rise sound more_legal more_usable place counters weighs c.fits_is_usable_to_its_end.ensures,
    )
