use Rattle.route_search.proofs.Bound.{exact}
use Rattle.route_search.proofs.laws.done_buckets_are_exact.Goals as goal

pub returns : goal.returns
returns c = λ table book marks k duals store cut ends sound_book hk sound nodes truths done all.
    exact c.each_at_most_itself.ensures c.each_at_most_chains.ensures c.steps_keep_order.ensures c.lower_stays_within.ensures c.weight_is_along.ensures
    table book marks k duals store cut ends done all c.kept_rows_are_true.ensures c.fits_is_usable_to_its_end.ensures sound_book hk truths
