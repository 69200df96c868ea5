use Rattle.std.proofs.Common.{refl, arith}
use Rattle.tail_book.specs.declared.place.Place.TheVariants.{After}
use Rattle.route_search.proofs.Completions.{among_all}
use Rattle.route_search.proofs.completion.least_behind.Goals as goal

pub loop-i-preserved : goal.loop-i-preserved
loop-i-preserved c = c.with_way-least.ensures c.followers-next.result.now c.loop-i.i refl c.loop-i.invariant

-- whatever is usable is among them
pub returns : goal.returns
returns c =
    among_all c.args.task.now.table.now c.args.task.now.book.now c.args.task.now.marks.now.facts c.args.task.now.k c.args.task.now.duals.now.values (After c.args.x)
    c.followers-next.result.now c.loop-i.i c.loop-i.least
    (λ b usable. let (q, lt, is) = c.followers-next.ensures.all b usable in
    (q, omega (arith, lt), is))
    c.loop-i.invariant
