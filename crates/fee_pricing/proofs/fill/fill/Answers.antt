use Rattle.std.proofs.Common.{arith, length, ◌<◌}
use Rattle.label_store.proofs.Growing.{grows_trans}
use Rattle.fee_pricing.proofs.Filling.{filled}
use Rattle.fee_pricing.specs.inside.ForAsked.{arc_for}
use Rattle.fee_pricing.proofs.fill.fill.Goals as goal

pub returns-clause-filled : goal.returns-clause-filled
returns-clause-filled c =
    let node : c.args.b < length c.try_first.new.store.buckets = omega (arith, c.in_ok-try_first.ensures.wide.nodes, c.requires.state.nodes, c.requires.activity) in
    filled (arc_for c.args.asked.now) c.args.asked.now.book.now c.args.asked.now.marks.now.facts c.args.asked.now.k c.try_first.new.store c.try_links.new.store c.args.b
    c.every_store_is_sound.ensures node c.in_ok-try_links.ensures.grows c.in_ok-try_first.ensures.begun c.in_ok-try_links.ensures.reached

pub returns-clause-grows : goal.returns-clause-grows
returns-clause-grows c =
    grows_trans c.args.store.now c.try_first.new.store c.try_links.new.store c.in_ok-try_first.ensures.grows c.in_ok-try_links.ensures.grows
