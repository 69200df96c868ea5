use Rattle.std.proofs.Common.{rules}
use Rattle.connection_net.specs.inside.LinkTable.{IsLegOf, no_leg}
use Rattle.tail_book.proofs.Listed.{each_more}
use Rattle.connection_net.proofs.link_table.all_legs.Goals as goal

-- the next row stands last
pub loop-a-preserved : goal.loop-a-preserved
loop-a-preserved c = record {
  count = search rules;
  each = rw c.in_ok-push.ensures.items
      (each_more (IsLegOf c.args.book.now) c.loop-a.legs.items c.leg_of.result no_leg c.loop-a.a c.loop-a.invariant.count c.loop-a.invariant.each c.leg_of.ensures);
}
