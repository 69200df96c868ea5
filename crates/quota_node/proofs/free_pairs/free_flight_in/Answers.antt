use Rattle.std.proofs.Common.{◌<◌, rules, length}
use Rattle.tail_book.specs.declared.place.Place.TheVariants.{Carry}
use Rattle.quota_node.proofs.FreePairs.{alive_along}
use Rattle.quota_node.proofs.free_pairs.free_flight_in.Goals as goal

-- an activity of a route that fits is alive
pub returns-then-not-has : goal.returns-then-not-has
returns-then-not-has c =
    let within : c.loop-i.i < length c.args.route.now = search rules in
    (alive_along c.args.book.now c.args.marks.now.facts c.args.k Carry c.args.route.now c.loop-i.i c.requires.fits within, search rules)
