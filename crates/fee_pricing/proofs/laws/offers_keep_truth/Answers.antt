use Rattle.fee_pricing.proofs.Truths.{offers_keep_truth}
use Rattle.fee_pricing.proofs.laws.offers_keep_truth.Goals as goal

pub returns : goal.returns
returns c =
    offers_keep_truth c.legal_with_one_more.ensures c.counters_with_one_more.ensures c.place_with_one_more.ensures
    c.usable_with_one_more.ensures c.offers_keep_rows.ensures c.kept_rows_are_offered.ensures
