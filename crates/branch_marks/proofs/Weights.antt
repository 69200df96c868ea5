-- The weight of a route, as a formula and added up along it. Each activity adds a thousand times its cost and that of
-- the connection to it, less its dual; so by induction along the route the sum is a thousand times the cost less the
-- duals. One activity more at the end adds the same. And an aircraft has one least weight: of two each is at most the
-- other, since each is attained by a route that the other bounds.
use Rattle.std.proofs.Common.{◌≡◌, ℕ, ℤ, pos, ◌+◌, ◌*◌, ◌+ℤ◌, ◌-ℤ◌, ◌≤ℤ◌, arith, List, [], ◌∷◌, ◌++◌, refl}
use Rattle.std.proofs.lemmas.Int.{ints}
use Rattle.tail_book.specs.Seen.{BookSeen}
use Rattle.tail_book.specs.TableSeen.{CostTableSeen}
use Rattle.tail_book.specs.declared.place.Place.{Place}
use Rattle.tail_book.specs.declared.place.Place.TheVariants.{After}
use Rattle.tail_book.specs.CostTable.{activity_cost_in, connection_cost_in, cost_from_in, route_cost_in}
use Rattle.tail_book.specs.inside.OneMore.{end_place, CostWithOneMoreIn}
use Rattle.branch_marks.specs.declared.fact.Fact.{Fact}
use Rattle.branch_marks.specs.Weights.{dual, duals_on, weight, arc_weight, weight_from, IsLeastWeight}

along_step : (a c r : ℕ) (d w t : ℤ) → w ≡ pos (1000 * r) -ℤ t → (pos (1000 * (a + c)) -ℤ d) +ℤ w ≡ pos (1000 * (a + c + r)) -ℤ (d +ℤ t)
along_step a c r d w t h = omega (arith, ints, h)

pub weights_along : (table : CostTableSeen) (book : BookSeen) (k : ℕ) (duals : List ℤ) (x : Place) (route : List ℕ)
    → weight_from table book k duals x route ≡ pos (1000 * cost_from_in table book k x route) -ℤ duals_on duals route
weights_along table book k duals x [] = refl
weights_along table book k duals x (b ∷ rest) =
    along_step (activity_cost_in table k b) (connection_cost_in table book k x b) (cost_from_in table book k (After b) rest) (dual duals b)
    (weight_from table book k duals (After b) rest) (duals_on duals rest) (weights_along table book k duals (After b) rest)

pub duals_with_one_more : (duals : List ℤ) (route : List ℕ) (b : ℕ) → duals_on duals (route ++ b ∷ []) ≡ duals_on duals route +ℤ dual duals b
duals_with_one_more duals [] b = omega (arith, ints)
duals_with_one_more duals (a ∷ route) b = let h = duals_with_one_more duals route b in omega (arith, ints, h)

more_step : (all r a : ℕ) (more t d : ℤ) → all ≡ r + a → more ≡ t +ℤ d → pos (1000 * all) -ℤ more ≡ (pos (1000 * r) -ℤ t) +ℤ (pos (1000 * a) -ℤ d)
more_step all r a more t d e f = omega (arith, ints, e, f)

pub weight_one_more : CostWithOneMoreIn → (table : CostTableSeen) (book : BookSeen) (k : ℕ) (duals : List ℤ) (route : List ℕ) (b : ℕ)
    → weight table book k duals (route ++ b ∷ []) ≡ weight table book k duals route +ℤ arc_weight table book k duals (end_place route) b
weight_one_more cost table book k duals route b =
    more_step (route_cost_in table book k (route ++ b ∷ [])) (route_cost_in table book k route)
    (activity_cost_in table k b + connection_cost_in table book k (end_place route) b) (duals_on duals (route ++ b ∷ [])) (duals_on duals route) (dual duals b)
    (cost table book k route b) (duals_with_one_more duals route b)

both_ways_least : (one other wone wother : ℤ) → one ≤ℤ wother → other ≤ℤ wone → wone ≡ one → wother ≡ other → one ≡ other
both_ways_least one other wone wother h k e f = omega (arith, ints, h, k, e, f)

pub least_is_one : (table : CostTableSeen) (book : BookSeen) (marks : List Fact) (k : ℕ) (duals : List ℤ) (one other : ℤ)
    → IsLeastWeight table book marks k duals one → IsLeastWeight table book marks k duals other → one ≡ other
least_is_one table book marks k duals one other h g =
    let (route, r) = h.attained in
    let (other_route, s) = g.attained in
    both_ways_least one other (weight table book k duals route) (weight table book k duals other_route)
    (h.least other_route s.legal s.fits) (g.least route r.legal r.fits) r.weighs s.weighs
