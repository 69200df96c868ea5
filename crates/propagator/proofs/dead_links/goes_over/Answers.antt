use Rattle.std.proofs.Common.{◌<◌, arith, length}
use Rattle.std.proofs.lemmas.Bool.{both_ways}
use Rattle.propagator.proofs.DeadLinks.{row_floor}
use Rattle.propagator.proofs.dead_links.goes_over.Goals as goal

-- it may not fly there
pub returns-else-alive-clause-cannot : goal.returns-else-alive-clause-cannot
returns-else-alive-clause-cannot c off link = absurd (both_ways c.alive.result c.if-alive.false (c.alive.ensures.means.1 link.after))

pub may_go_over-requires-clause-floor : goal.may_go_over-requires-clause-floor
may_go_over-requires-clause-floor c =
    let within : c.args.k < length c.args.rows.now = omega (arith, c.requires.aircraft, c.requires.rows.count) in
    row_floor c.args.book.now c.args.marks.now.facts c.args.rows.now c.args.k c.args.a c.index-rows-k.result c.requires.floors c.requires.aircraft within c.index-rows-k.is
