use Rattle.std.proofs.Common.{arith}
use Rattle.route_search.proofs.Successors.{head}
use Rattle.route_search.proofs.completion.relaxed.Goals as goal

-- what stands at a place of the heads is of the book
pub way_through-way-requires-clause-activity : goal.way_through-way-requires-clause-activity
way_through-way-requires-clause-activity c =
    head c.rows_are_their_places.ensures c.args.task.now.book.now c.args.task.now.net.now c.requires.task.net c.heads-first.result.now c.args.task.now.k c.heads-first.ensures
    c.rising_routes_are_below.ensures (c.rows_rise.ensures c.args.task.now.book.now) c.loop-i.i (omega arith)
