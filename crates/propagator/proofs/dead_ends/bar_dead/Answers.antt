use Rattle.std.proofs.Common.{◌-◌}
use Rattle.propagator.proofs.DeadEnds.{end_next}
use Rattle.propagator.proofs.MovedFloors.{loses_both}
use Rattle.propagator.proofs.InTurn.{grow_both}
use Rattle.propagator.proofs.Arriving.{acts_on}
use Rattle.propagator.proofs.dead_ends.bar_dead.Goals as goal

pub loop-a-preserved : goal.loop-a-preserved
loop-a-preserved c = (
  end_next c.args.book.now c.args.k c.loop-a.a (c.loop-a.a - 1) c.args.marks.now c.loop-a.marks c.bar_if_dead.new.marks
      c.args.facts.now.items c.loop-a.facts.items c.bar_if_dead.new.facts.items c.args.row.now c.loop-a.row c.bar_if_dead.new.row c.loop-a.ask c.bar_if_dead.new.ask
      c.loop-a.invariant.0 c.bar_if_dead.ensures.marks c.bar_if_dead.ensures.grows c.bar_if_dead.ensures.acts c.bar_if_dead.ensures.width
      c.bar_if_dead.ensures.floors c.in_ok-bar_if_dead.ensures.asked,
  loses_both c.args.row.now c.loop-a.row c.bar_if_dead.new.row c.loop-a.invariant.1 c.bar_if_dead.ensures.loses,
)

pub returns-in_err-bar_if_dead-clause-grows : goal.returns-in_err-bar_if_dead-clause-grows
returns-in_err-bar_if_dead-clause-grows c =
    grow_both c.args.book.now c.args.marks.now.facts c.loop-a.marks.facts c.bar_if_dead.new.marks.facts
    c.args.facts.now.items c.loop-a.facts.items c.bar_if_dead.new.facts.items c.loop-a.invariant.0.grows c.bar_if_dead.ensures.grows

pub returns-in_err-bar_if_dead-clause-acts : goal.returns-in_err-bar_if_dead-clause-acts
returns-in_err-bar_if_dead-clause-acts c =
    acts_on c.args.book.now c.args.k c.args.marks.now.facts c.loop-a.marks.facts c.bar_if_dead.new.marks.facts c.loop-a.invariant.0.acts c.bar_if_dead.ensures.acts

pub returns-in_err-bar_if_dead-clause-loses : goal.returns-in_err-bar_if_dead-clause-loses
returns-in_err-bar_if_dead-clause-loses c = loses_both c.args.row.now c.loop-a.row c.bar_if_dead.new.row c.loop-a.invariant.1 c.bar_if_dead.ensures.loses
