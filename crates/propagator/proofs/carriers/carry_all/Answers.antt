use Rattle.propagator.proofs.MovedFloors.{all_none, all_both}
use Rattle.propagator.proofs.InTurn.{grow_both, grow_none}
use Rattle.propagator.proofs.carriers.carry_all.Goals as goal

pub loop-preserved : goal.loop-preserved
loop-preserved c = (
  record {
    marks = c.carry_each.ensures.marks;
    grows = grow_both c.args.book.now c.args.marks.now.facts c.loop.marks.facts c.carry_each.new.marks.facts
        c.args.facts.now.items c.loop.facts.items c.carry_each.new.facts.items c.loop.invariant.0.grows c.carry_each.ensures.grows;
    room = c.carry_each.ensures.rows;
    stand = c.in_ok-carry_each.ensures.stand;
  },
  c.carry_each.ensures.work,
  all_both c.args.work.now.leave.items c.loop.work.leave.items c.carry_each.new.work.leave.items c.args.rows.now c.loop.rows c.carry_each.new.rows
      c.loop.invariant.2 c.carry_each.ensures.moves,
)

pub returns-in_err-carry_each-clause-grows : goal.returns-in_err-carry_each-clause-grows
returns-in_err-carry_each-clause-grows c =
    grow_both c.args.book.now c.args.marks.now.facts c.loop.marks.facts c.carry_each.new.marks.facts
    c.args.facts.now.items c.loop.facts.items c.carry_each.new.facts.items c.loop.invariant.0.grows c.carry_each.ensures.grows

pub returns-clause-grows : goal.returns-clause-grows
returns-clause-grows c =
    grow_both c.args.book.now c.args.marks.now.facts c.loop.marks.facts c.carry_each.new.marks.facts
    c.args.facts.now.items c.loop.facts.items c.carry_each.new.facts.items c.loop.invariant.0.grows c.carry_each.ensures.grows

pub returns-in_err-carry_each-clause-moves : goal.returns-in_err-carry_each-clause-moves
returns-in_err-carry_each-clause-moves c =
    all_both c.args.work.now.leave.items c.loop.work.leave.items c.carry_each.new.work.leave.items c.args.rows.now c.loop.rows c.carry_each.new.rows
    c.loop.invariant.2 c.carry_each.ensures.moves

pub returns-clause-moves : goal.returns-clause-moves
returns-clause-moves c =
    all_both c.args.work.now.leave.items c.loop.work.leave.items c.carry_each.new.work.leave.items c.args.rows.now c.loop.rows c.carry_each.new.rows
    c.loop.invariant.2 c.carry_each.ensures.moves

pub loop-init : goal.loop-init
loop-init c = (
  record {
    marks = c.requires.marks;
    grows = grow_none c.args.book.now c.args.marks.now.facts c.args.facts.now.items;
    room = c.requires.rows;
    stand = c.requires.stand;
  },
  c.requires.work,
  all_none c.args.work.now.leave.items c.args.rows.now,
)
