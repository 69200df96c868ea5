use Rattle.std.proofs.Common.{◌<◌, rules, arith}
use Rattle.tail_book.specs.Lookup.{aircraft}
use Rattle.dive_heuristic.specs.LeastRoutes.{IsLeastRoute}
use Rattle.dive_heuristic.proofs.KeptRoutes.{set_low, set_below}
use Rattle.dive_heuristic.proofs.least_routes.renew.Goals as goal

-- a route of least weight in the place of one that no longer fits
pub loop-k-preserved : goal.loop-k-preserved
loop-k-preserved c =
    let within : c.loop-k.k < aircraft c.args.book.now = search rules in
    let least : IsLeastRoute c.args.table.now c.args.book.now c.args.marks.now.facts c.loop-k.k c.args.duals.now.values c.in-Some.route = search rules in
    record {
      low = set_low c.args.table.now c.args.book.now c.args.marks.now.facts c.args.duals.now.values c.loop-k.routes.items c.loop-k.k c.in-Some.route within
          c.loop-k.invariant.low least;
      each = set_below c.args.table.now c.args.book.now c.args.marks.now.facts c.args.duals.now.values c.loop-k.routes.items c.loop-k.k c.in-Some.route
          (omega (arith, within, c.loop-k.invariant.low.one_each)) c.loop-k.invariant.each least;
      diver = c.least_route.ensures.diver;
    }
