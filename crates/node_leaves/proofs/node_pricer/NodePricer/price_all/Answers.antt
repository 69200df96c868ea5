use Rattle.std.proofs.Common.{rules, ◌≡◌, ◌∙◌, ◌+◌, ℕ, ℤ, pos, List, [], ◌∷◌, ◌++◌, length, arith, ap, refl, subst, to_z, of_z}
use Rattle.std.specs.Int.{w64}
use Rattle.std.proofs.lemmas.Int.{to_z-of_z}
use Rattle.branch_marks.specs.Weights.{IsLeastWeight, IsRouteOfWeight}
use Rattle.pricing.specs.Price.{IsPriceOf}
use Rattle.pricing.specs.declared.priced.Priced.{Priced}
use Rattle.tail_book.specs.Seen.{BookSeen}
use Rattle.tail_book.specs.Lookup.{aircraft}
use Rattle.node_leaves.proofs.Values.{one_longer, one_more, two_more}
use Rattle.node_leaves.proofs.node_pricer.NodePricer.price_all.Goals as goal

-- the least weight of aircraft k, and its route, come behind those before it
pub loop-k-preserved : goal.loop-k-preserved
loop-k-preserved c =
    let inv = c.loop-k.invariant in
    let table = c.args.table.now in let book = c.args.book.now in let facts = c.args.marks.now.facts in let duals = c.args.duals.now.values in let k = c.loop-k.k in
    let found = subst (λ (p : Priced). IsPriceOf table book facts k duals p) c.in-Best.is c.in_ok-priced.ensures.price in
    let values = c.loop-k.values.items in let new_values = c.push_best.new.values.items in
    let routes = c.loop-k.routes.items in let new_routes = c.push_best.new.routes.items in
    let pushed = c.in_ok-push_best-in-Best.ensures in
    let value : to_z w64 (of_z w64 c.in-Best.value) ≡ c.in-Best.value = to_z-of_z w64 c.in-Best.value (search rules) in
    let new_are : new_values ≡ values ++ c.in-Best.value ∷ [] = pushed.values ∙ ap (λ (z : ℤ). values ++ z ∷ []) value in
    record {
      count = one_longer values new_values k c.in-Best.value inv.count new_are;
      least = one_more (pos 0) (λ (j : ℕ) (z : ℤ). IsLeastWeight table book facts j duals z) values new_values k c.in-Best.value inv.count new_are inv.least found.0;
      route_count = one_longer routes new_routes k c.in-Best.route inv.route_count pushed.routes;
      attained = two_more (pos 0) [] (λ (j : ℕ) (z : ℤ) (route : List ℕ). IsRouteOfWeight table book facts j duals z route)
          values new_values routes new_routes k c.in-Best.value c.in-Best.route inv.count inv.route_count new_are pushed.routes inv.attained found.1;
      ready = search rules;
    }

-- all aircraft are priced
pub returns-clause-prices : goal.returns-clause-prices
returns-clause-prices c =
    let inv = c.loop-k.invariant in
    let tails : length c.book.inside.tails.items ≡ aircraft c.args.book.now =
    subst (λ (b : BookSeen). length c.book.inside.tails.items ≡ aircraft b) c.book.view_is refl in
    let all : c.loop-k.k ≡ aircraft c.args.book.now = omega (arith, tails) in (
      record { one_each = omega (arith, inv.count, all); each = λ j less. inv.least j (omega (arith, less, all)) },
      record {
        one_each = omega (arith, inv.route_count, all);
        value_each = omega (arith, inv.count, all);
        each = λ j less. inv.attained j (omega (arith, less, all));
      },
    )
