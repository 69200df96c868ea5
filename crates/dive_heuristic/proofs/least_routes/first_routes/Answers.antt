use Rattle.std.proofs.Common.{◌≡◌, ◌+◌, ◌++◌, ◌∷◌, [], ℕ, List, rules, arith, subst, sym}
use Rattle.std.proofs.lemmas.List.{length_push}
use Rattle.dive_heuristic.specs.LeastRoutes.{IsLeastRoute}
use Rattle.dive_heuristic.proofs.KeptRoutes.{AreLeastBelow, pushed_below}
use Rattle.dive_heuristic.proofs.least_routes.first_routes.Goals as goal

-- a route of least weight more
pub loop-k-preserved : goal.loop-k-preserved
loop-k-preserved c =
    let least : IsLeastRoute c.args.table.now c.args.book.now c.args.marks.now.facts c.loop-k.k c.args.duals.now.values c.in-Some.route = search rules in
    let items : c.push.new.self.items ≡ c.loop-k.routes.items ++ c.in-Some.route ∷ [] = search rules in
    let more = length_push c.loop-k.routes.items c.in-Some.route in
    record {
      count = rw items (omega (arith, more, c.loop-k.invariant.count));
      each = subst (λ (routes : List (List ℕ)). AreLeastBelow c.args.table.now c.args.book.now c.args.marks.now.facts c.args.duals.now.values routes (c.loop-k.k + 1)) (sym items)
          (pushed_below c.args.table.now c.args.book.now c.args.marks.now.facts c.args.duals.now.values c.loop-k.routes.items c.loop-k.k c.in-Some.route
          c.loop-k.invariant.count c.loop-k.invariant.each least);
      diver = c.least_route.ensures.diver;
    }
