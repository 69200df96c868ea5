use Rattle.std.proofs.Common.{◌≡◌, true, rules}
use Rattle.best_first.specs.inside.Links.{facts_at}
use Rattle.best_first.proofs.LeavesExist.{leaf_exists}
use Rattle.best_first.proofs.SlotPlaces.{slot_duals}
use Rattle.best_first.proofs.SlotsTold.{unpriced_told}
use Rattle.best_first.proofs.closing.close_slot.Goals as goal

-- it has a leaf, of which nobody is told
pub returns-clause-told : goal.returns-clause-told
returns-clause-told g c =
    let table = c.args.table.now in let book = c.args.book.now in let links = c.args.links.now in let slot = c.args.slot.now in
    let skips : c.need_not_price.result ≡ true = search rules in
    let in_box = slot_duals table book links slot c.requires.slot c.requires.none in
    let leaf = leaf_exists c.least_weights_exist.ensures c.sums_exist.ensures c.low_bounds_are_shown.ensures c.stuck_is_shown.ensures table book
    c.every_book_is_sound.ensures (facts_at links slot.end) slot.duals.values in_box in
    unpriced_told table book c.args.target links slot c.requires.none c.requires.slot (c.need_not_price.ensures.passes skips) c.args.low
    (g.L.TreeLog.shows c.args.log.now) (c.need_not_price.ensures.nothing skips) leaf
