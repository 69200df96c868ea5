use Rattle.std.proofs.Common.{arith}
use Rattle.propagator.proofs.InTurn.{grow_both, grow_none}
use Rattle.propagator.proofs.MovedFloors.{all_none, all_both}
use Rattle.propagator.proofs.Settled.{settle_next, ready_next, ready_first}
use Rattle.propagator.proofs.settled_aircraft.settle_all.Goals as goal

pub returns-in_err-settle_at-clause-grows : goal.returns-in_err-settle_at-clause-grows
returns-in_err-settle_at-clause-grows c =
    grow_both c.args.book.now c.args.marks.now.facts c.loop-k.marks.facts c.settle_at.new.marks.facts
    c.args.facts.now.items c.loop-k.facts.items c.settle_at.new.facts.items c.loop-k.invariant.0.grows c.settle_at.ensures.grows

pub loop-k-init : goal.loop-k-init
loop-k-init c = (
  record {
    marks = c.requires.marks;
    grows = grow_none c.args.book.now c.args.marks.now.facts c.args.facts.now.items;
    room = c.requires.rows;
    stand = λ k lt. absurd (omega (arith, lt));
  },
  (λ k le lt. ready_first c.args.book.now c.args.marks.now.facts c.args.rows.now c.args.seen c.requires.seen k lt),
  c.requires.work,
  all_none c.args.work.now.leave.items c.args.rows.now,
)

pub loop-k-preserved : goal.loop-k-preserved
loop-k-preserved c = (
  settle_next c.same_floors.ensures c.same_dead.ensures c.args.book.now c.loop-k.k c.args.marks.now c.loop-k.marks c.settle_at.new.marks
      c.args.facts.now.items c.loop-k.facts.items c.settle_at.new.facts.items c.loop-k.rows c.settle_at.new.rows c.loop-k.invariant.0
      c.settle_at.ensures.marks c.settle_at.ensures.grows c.settle_at.ensures.acts c.settle_at.ensures.rows c.settle_at.ensures.others c.in_ok-settle_at.ensures.stands,
  ready_next c.args.book.now c.loop-k.k c.loop-k.marks.facts c.settle_at.new.marks.facts c.loop-k.facts.items c.settle_at.new.facts.items
      c.loop-k.rows c.settle_at.new.rows c.args.seen c.settle_at.ensures.grows c.settle_at.ensures.others c.loop-k.invariant.1,
  c.settle_at.ensures.work,
  all_both c.args.work.now.leave.items c.loop-k.work.leave.items c.settle_at.new.work.leave.items c.args.rows.now c.loop-k.rows c.settle_at.new.rows
      c.loop-k.invariant.3 c.settle_at.ensures.moves,
)

pub returns-in_err-settle_at-clause-moves : goal.returns-in_err-settle_at-clause-moves
returns-in_err-settle_at-clause-moves c =
    all_both c.args.work.now.leave.items c.loop-k.work.leave.items c.settle_at.new.work.leave.items c.args.rows.now c.loop-k.rows c.settle_at.new.rows
    c.loop-k.invariant.3 c.settle_at.ensures.moves
