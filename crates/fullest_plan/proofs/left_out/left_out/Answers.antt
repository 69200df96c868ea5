use Rattle.std.proofs.Common.{◌≡◌, ◌∙◌, ◌+◌, ◌<◌, ℕ, arith, ap, sym, subst, length, true, List, [], rules}
use Rattle.std.proofs.lemmas.List.FromFn.{get_or-map-range_with_len, length-map-range_with_len}
use Rattle.tail_book.specs.Fliers.{plan_by, route_by}
use Rattle.tail_book.specs.Lookup.{activities, aircraft}
use Rattle.tail_book.specs.Plan.{route_of}
use Rattle.tail_book.specs.Route.{IsLegalRoute}
use Rattle.fullest_plan.specs.LeftOut.{IsLeftOut}
use Rattle.fullest_plan.proofs.LeavingOut.{few_of, is_left_out}
use Rattle.fullest_plan.proofs.left_out.left_out.Goals as goal

-- there is a route for each aircraft, and one more
pub is_legal_so_far-requires : goal.is_legal_so_far-requires
is_legal_so_far-requires c =
    let long = ap length c.in_ok-plan.ensures ∙ length-map-range_with_len (route_by c.args.fliers.now) 0 (c.len-nobody.result + 1) in
    let nobody : c.len-nobody.result ≡ aircraft c.args.book.now = search rules in
    omega (arith, long, nobody)

pub route_of-requires : goal.route_of-requires
route_of-requires c =
    let long = ap length c.in_ok-plan.ensures ∙ length-map-range_with_len (route_by c.args.fliers.now) 0 (c.len-nobody.result + 1) in
    omega (arith, long)

-- the last route is what nobody flies
pub returns : goal.returns
returns c =
    let fliers = c.args.fliers.now in
    let m = c.len-nobody.result in
    let nobody : m ≡ aircraft c.args.book.now = search rules in
    let all : length fliers ≡ activities c.args.book.now = search rules in
    let tested : c.are_at_most.result ≡ true = search rules in
    let few = few_of fliers m (sym c.are_at_most.ensures ∙ tested) in
    let legal : (k : ℕ) → k < aircraft c.args.book.now → IsLegalRoute c.args.book.now k (route_of c.in_ok-plan.plan k) = search rules in
    let listed : c.in_ok-list.list.items ≡ route_of c.in_ok-plan.plan m = search rules in
    let last : route_of (plan_by fliers (m + 1)) m ≡ route_by fliers m = get_or-map-range_with_len (route_by fliers) 0 (m + 1) m m [] (omega arith) (omega arith) in
    let is : c.in_ok-list.list.items ≡ route_by fliers m = listed ∙ ap (λ (plan : List (List ℕ)). route_of plan m) c.in_ok-plan.ensures ∙ last in
    subst (IsLeftOut c.args.book.now) (sym is)
    (is_left_out c.times_with_one_more_route.ensures c.plans_by_fliers_partition.ensures fliers m few c.args.book.now all nobody
    (λ k lt. subst (λ (plan : List (List ℕ)). IsLegalRoute c.args.book.now k (route_of plan k)) c.in_ok-plan.ensures (legal k (omega (arith, lt, nobody)))))
