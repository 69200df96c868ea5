use Rattle.std.proofs.Common.{◌<◌, ap, arith, length, refl, false}
use Rattle.tail_book.specs.Seen.{BookSeen}
use Rattle.tail_book.specs.Lookup.{activities}
use Rattle.std.proofs.lemmas.Bool.{both_ways}
use Rattle.propagator.proofs.InTurn.{grow_both, grow_none}
use Rattle.propagator.proofs.MovedFloors.{all_none, all_both}
use Rattle.propagator.proofs.OnlyCarriers.{carry_found, carry_none}
use Rattle.propagator.proofs.carriers.carry_each.Goals as goal
use Rattle.propagator.proofs.carriers.carry_each.Goals.{in-Some+in_ok-carry, in_default}

pub returns-in_err-carry-clause-grows : goal.returns-in_err-carry-clause-grows
returns-in_err-carry-clause-grows c =
    grow_both c.args.book.now c.args.marks.now.facts c.loop-a.marks.facts c.carry.new.marks.facts
    c.args.facts.now.items c.loop-a.facts.items c.carry.new.facts.items c.loop-a.invariant.0.settling.grows c.carry.ensures.grows

pub loop-a-init : goal.loop-a-init
loop-a-init c = (
  record {
    settling = record {
      marks = c.requires.marks;
      grows = grow_none c.args.book.now c.args.marks.now.facts c.args.facts.now.items;
      room = c.requires.rows;
      stand = c.requires.stand;
    };
    fewer = omega arith;
    some = λ on. absurd (both_ways false refl on);
    none = λ _ k a lt. absurd (omega (arith, lt));
  },
  c.requires.work,
  all_none c.args.work.now.leave.items c.args.rows.now,
)

pub loop-a-preserved : goal.loop-a-preserved
loop-a-preserved c = elim c.match-only_carrier.branch [
  | in-Some+in_ok-carry w ↦
      rw w.marks-is (rw w.facts-is (rw w.rows-is (rw w.work-is (
        carry_found c.args.book.now c.args.marks.now c.loop-a.marks w.carry.new.marks c.args.facts.now.items c.loop-a.facts.items w.carry.new.facts.items
            c.loop-a.rows w.carry.new.rows c.loop-a.some c.match-only_carrier.some c.loop-a.a c.loop-a.invariant.0
            w.carry.ensures.marks w.carry.ensures.grows w.carry.ensures.rows w.in_ok-carry.ensures.stand w.in_ok-carry.ensures.fewer w.some-is,
        w.carry.ensures.work,
        all_both c.args.work.now.leave.items c.loop-a.work.leave.items w.carry.new.work.leave.items c.args.rows.now c.loop-a.rows w.carry.new.rows
            c.loop-a.invariant.2 w.carry.ensures.moves,
      ))))
  | in_default w ↦
      rw w.marks-is (rw w.facts-is (rw w.rows-is (rw w.work-is (rw w.some-is (
        carry_none c.args.book.now c.args.marks.now c.loop-a.marks c.args.facts.now.items c.loop-a.facts.items
            c.loop-a.rows c.loop-a.some c.loop-a.a c.loop-a.invariant.0 w.in_default.ensures.none,
        c.loop-a.invariant.1,
        c.loop-a.invariant.2,
      )))))
]

pub returns-clause-none : goal.returns-clause-none
returns-clause-none c off k a carrier =
    let lt : a < activities c.args.book.now = carrier.of_book.1 in
    let within : a < c.loop-a.a = omega (arith, lt, ap (λ (b : BookSeen). length b.activities) c.book.view_is) in
    c.loop-a.invariant.0.none off k a within carrier

pub returns-in_err-carry-clause-moves : goal.returns-in_err-carry-clause-moves
returns-in_err-carry-clause-moves c =
    all_both c.args.work.now.leave.items c.loop-a.work.leave.items c.carry.new.work.leave.items c.args.rows.now c.loop-a.rows c.carry.new.rows
    c.loop-a.invariant.2 c.carry.ensures.moves
