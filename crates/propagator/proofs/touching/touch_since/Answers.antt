use Rattle.std.proofs.Common.{ℕ, Option, subst}
use Rattle.propagator.specs.inside.Touching.{IsReadyFor}
use Rattle.propagator.proofs.LowRows.{front_low, losing_low}
use Rattle.propagator.proofs.touching.touch_since.Goals as goal

-- the floors of the facts that were seen are no higher, and some were taken away
pub returns-in-Some-clause-low : goal.returns-in-Some-clause-low
returns-in-Some-clause-low c =
    let book = c.args.book.now in
    let facts = c.args.marks.now.facts in
    let ready = subst (λ (seen : Option ℕ). IsReadyFor book facts c.args.k c.args.row.now.floors seen) c.in-Some.is c.requires.ready in
    losing_low book facts c.args.k c.args.row.now c.touch_each.new.row c.touch_each.ensures.loses
    (front_low book facts c.args.k c.floors_rise.ensures c.every_book_is_sound.ensures c.requires.aircraft c.args.row.now c.in-Some.from ready.2)
