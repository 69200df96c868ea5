use Rattle.std.proofs.Common.{◌≡◌, ◌<◌, rules, arith, length}
use Rattle.tail_book.specs.Lookup.{activities}
use Rattle.label_store.proofs.Growing.{wide_trans}
use Rattle.fee_pricing.proofs.Filling.{filled_one_more}
use Rattle.fee_pricing.specs.inside.ForAsked.{arc_for}
use Rattle.fee_pricing.proofs.fill.fill_all.Goals as goal

-- one bucket more is done
pub loop-b-preserved : goal.loop-b-preserved
loop-b-preserved c =
    let inv = c.loop-b.invariant in
    let few : c.loop-b.b < activities c.args.asked.now.book.now = search rules in
    let node : c.loop-b.b < length c.loop-b.store.buckets = omega (arith, few, inv.wide.nodes, c.requires.state.nodes) in
    let long : length c.fill.new.row ≡ length c.args.row.now = search rules in
    record {
      state = c.in_ok-fill.ensures.state;
      wide = wide_trans c.args.store.now c.loop-b.store c.fill.new.store inv.wide c.in_ok-fill.ensures.wide;
      filled = filled_one_more (arc_for c.args.asked.now) c.args.asked.now.book.now c.args.asked.now.marks.now.facts c.args.asked.now.k c.loop-b.store c.fill.new.store c.loop-b.b
          c.every_store_is_sound.ensures node c.in_ok-fill.ensures.grows inv.filled c.in_ok-fill.ensures.filled;
      row = long;
    }
