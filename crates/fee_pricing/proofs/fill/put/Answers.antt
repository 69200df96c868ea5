use Rattle.fee_pricing.specs.inside.ForAsked.{arc_for}
use Rattle.fee_pricing.proofs.fill.put.Goals as goal

-- the row that is offered is true
pub returns-clause-truths : goal.returns-clause-truths
returns-clause-truths c =
    c.offers_keep_truth.ensures (arc_for c.args.asked.now) c.args.asked.now.book.now c.args.asked.now.marks.now.facts c.args.asked.now.k c.args.store.now c.offer.new.self
    c.args.parent c.args.b c.args.row.now c.in_ok-_offered._offered c.every_store_is_sound.ensures c.every_store_is_sound-2.ensures
    c.requires.truths c.requires.kept c.requires.truth c.requires.next c.in_ok-_offered.ensures.offered

-- and what was there is kept
pub returns-clause-grows : goal.returns-clause-grows
returns-clause-grows c =
    let sound = c.every_store_is_sound.ensures in
    let offers = c.in_ok-_offered.ensures.offered in
    record {
      rows = c.offers_keep_rows.ensures c.args.store.now c.offer.new.self c.args.b c.args.parent c.args.row.now c.in_ok-_offered._offered sound offers;
      covered = c.offers_keep_covered.ensures c.args.store.now c.offer.new.self c.args.b c.args.parent c.args.row.now c.in_ok-_offered._offered sound offers;
      others = c.others_stay.ensures c.args.store.now c.offer.new.self c.args.b c.args.parent c.args.row.now c.in_ok-_offered._offered offers;
    }
