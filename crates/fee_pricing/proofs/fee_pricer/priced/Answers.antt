use Rattle.std.proofs.Common.{ℤ, ℕ, List, w64, FitsSigned, rules, sym, subst}
use Rattle.std.proofs.lemmas.Int.{to_z-of_z}
use Rattle.quota_rows.specs.FeeWeights.{IsLeastFeeWeight, IsRouteOfFeeWeight}
use Rattle.fee_pricing.specs.inside.ForAsked.{arc_for}
use Rattle.fee_pricing.proofs.Prices.{least}
use Rattle.fee_pricing.proofs.fee_pricer.priced.Goals as goal

-- there is no end
pub returns-in_default : goal.returns-in_default
returns-in_default c =
    c.endless_stores_stick.ensures (arc_for c.args.asked.now) c.args.asked.now.book.now c.args.asked.now.marks.now.facts c.args.asked.now.k c.args.store.now
    c.every_store_is_sound.ensures c.requires.nodes c.requires.closed c.in_default.ensures

-- the least end has the least weight, and the route to it has it
pub returns : goal.returns
returns c =
    let table = c.args.asked.now.table.now in
    let book = c.args.asked.now.book.now in
    let quotas = c.args.asked.now.quotas.now in
    let marks = c.args.asked.now.marks.now.facts in
    let k = c.args.asked.now.k in
    let duals = c.args.asked.now.duals.now.values in
    let fees = c.args.asked.now.fees.now.values in
    let value = c.in-Some.end.value in
    let fits : FitsSigned w64 value = search rules in
    let by_arcs = c.least_ends_are_least.ensures (arc_for c.args.asked.now) book marks k c.args.store.now c.in-Some.end
    c.every_book_is_sound.ensures c.requires.asked.aircraft c.every_store_is_sound.ensures c.requires.nodes c.requires.truths c.requires.closed c.in-Some.ensures in
    subst (λ (v : ℤ). IsLeastFeeWeight table book quotas marks k duals fees v × IsRouteOfFeeWeight table book quotas marks k duals fees v c.in_ok-route.route)
    (sym (to_z-of_z w64 value fits))
    (subst (λ (route : List ℕ). IsLeastFeeWeight table book quotas marks k duals fees value × IsRouteOfFeeWeight table book quotas marks k duals fees value route)
    (sym c.in_ok-route.ensures) (least c.fee_weight_is_by_arcs.ensures table book quotas marks k duals fees value _ by_arcs))
