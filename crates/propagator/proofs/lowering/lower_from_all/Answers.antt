use Rattle.std.specs.Prelude.{All}
use Rattle.std.proofs.Common.{◌<◌, ◌-◌, ◌≡◌, ℕ, take, subst, sym, refl, rules}
use Rattle.tail_book.specs.Seen.{BookSeen}
use Rattle.tail_book.specs.Lookup.{activities}
use Rattle.tail_book.specs.inside.Sound.{IsBook}
use Rattle.connection_net.specs.Seen.{NetSeen}
use Rattle.connection_net.specs.Net.{net_of, predecessors_in}
use Rattle.floor_rows.specs.inside.LeastOver.{floor_of}
use Rattle.floor_rows.specs.inside.Neighbours.{PredecessorsComeBefore}
use Rattle.propagator.proofs.LoweredFloors.{next_of, back_lowered, none_lowered}
use Rattle.propagator.proofs.lowering.lower_from_all.Goals as goal

-- predecessors have smaller numbers, also in a network that was handed in
before : PredecessorsComeBefore → (book : BookSeen) → IsBook book → (net : NetSeen) (b : ℕ) → b < activities book → net ≡ net_of book
    → All (λ x. x < b) (predecessors_in net b)
before come book sound net b lt is = subst (λ (n : NetSeen). All (λ x. x < b) (predecessors_in n b)) (sym is) (come book sound b lt)

-- one predecessor more is taken in
pub loop-i-preserved : goal.loop-i-preserved
loop-i-preserved c = (
  next_of c.args.book.now c.args.marks.now.facts c.args.k c.args.b c.args.row.now c.requires.below c.lesser_in_any_order.ensures c.loop-i.row c.lower_from-lowered.new.row
      c.predecessors-places.result.now (predecessors_in c.args.net.now c.args.b) c.loop-i.i c.predecessors-places.ensures
      (before c.predecessors_come_before.ensures c.args.book.now c.every_book_is_sound.ensures c.args.net.now c.args.b c.requires.activity c.requires.net)
      (search rules) (search rules) c.loop-i.invariant.0 c.lower_from-lowered.ensures.set,
  c.lower_from-lowered.ensures.copied,
)

-- the carry-in brings what the floor was
pub returns-then-is : goal.returns-then-is
returns-then-is c =
    let book = c.args.book.now in
    let facts = c.args.marks.now.facts in
    back_lowered book facts c.args.k c.args.b c.args.row.now c.requires.below c.args.row.now c.args.before.now (predecessors_in (net_of book) c.args.b)
    (none_lowered book facts c.args.k c.args.b c.args.row.now c.requires.below c.floors_are_least.ensures c.requires.activity c.requires.first (predecessors_in (net_of book) c.args.b)
    (c.predecessors_bring_all.ensures book c.every_book_is_sound.ensures facts c.args.k c.args.b c.requires.activity (floor_of book facts c.args.k)))
    (c.if-is.ensures.same refl) (c.requires.low c.if-had.true)

-- a predecessor brings it
pub returns-then-is-2 : goal.returns-then-is-2
returns-then-is-2 c =
    let items = c.predecessors-places.result.now in
    back_lowered c.args.book.now c.args.marks.now.facts c.args.k c.args.b c.args.row.now c.requires.below c.lower_from-lowered.new.row c.args.before.now
    (take (c.loop-i.i - 1) items)
    (next_of c.args.book.now c.args.marks.now.facts c.args.k c.args.b c.args.row.now c.requires.below c.lesser_in_any_order.ensures c.loop-i.row c.lower_from-lowered.new.row
    items (predecessors_in c.args.net.now c.args.b) c.loop-i.i c.predecessors-places.ensures
    (before c.predecessors_come_before.ensures c.args.book.now c.every_book_is_sound.ensures c.args.net.now c.args.b c.requires.activity c.requires.net)
    (search rules) (search rules) c.loop-i.invariant.0 c.lower_from-lowered.ensures.set)
    (c.if-is-2.ensures.same refl) (c.requires.low c.if-had-2.true)
