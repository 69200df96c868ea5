use Rattle.tail_book.specs.declared.place.Place.TheVariants.{After as PlaceAfter}
use Rattle.propagator.proofs.lowering.lower_from.Goals as goal

-- a link that is usable leaves time, so that what it brings are counts
pub lower_to-requires-clause-range : goal.lower_to-requires-clause-range
lower_to-requires-clause-range c =
    let link = (c.usable.ensures.means.0 c.if-not-usable.false).link in
    c.steps_to.ensures.range (c.links_leave_time.ensures c.args.book.now c.every_book_is_sound.ensures c.args.k (PlaceAfter c.args.x) c.args.b link) c.if-not-steps_to.false
