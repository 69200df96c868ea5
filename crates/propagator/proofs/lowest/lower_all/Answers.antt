use Rattle.std.proofs.Common.{rules}
use Rattle.propagator.proofs.LowestFloors.{not_lowered, lowered_more}
use Rattle.propagator.proofs.lowest.lower_all.Goals as goal

pub loop-a-init : goal.loop-a-init
loop-a-init c = not_lowered c.args.book.now c.args.row.now c.args.lowest.now c.requires.lowest c.requires.wide

pub loop-a-preserved : goal.loop-a-preserved
loop-a-preserved c =
    lowered_more c.each_at_most_itself.ensures c.each_at_most_chains.ensures c.args.book.now c.args.row.now c.args.lowest.now c.loop-a.lowest c.lower_at.new.lowest
    c.loop-a.a (search rules) c.loop-a.invariant c.lower_at.ensures.set c.lower_at.ensures.wide
