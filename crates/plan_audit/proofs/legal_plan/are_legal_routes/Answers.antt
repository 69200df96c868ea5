use Rattle.std.proofs.Common.{◌≡◌, ◌∙◌, sym, ap, rules, true, false, arith, ◌<◌, ◌≤◌, length}
use Rattle.tail_book.specs.Lookup.{aircraft}
use Rattle.tail_book.specs.LegalTests.{is_legal_route}
use Rattle.plan_audit.proofs.Deciding.{routes-refused, routes-legal, route-more, read-route}
use Rattle.plan_audit.proofs.legal_plan.are_legal_routes.Goals as goal

-- the route of aircraft k is legal too
pub loop-k-preserved : goal.loop-k-preserved
loop-k-preserved c =
    let book = c.args.book.now in
    let routes = c.args.routes.now in
    let k = c.loop-k.k in
    let within : k < length routes = search rules in
    let here : c.deref.result.now ≡ c.index-routes-k.result = search rules in
    let legal : c.is_legal_route.result ≡ true = search rules in
    record {
      legal = route-more book routes k c.index-routes-k.result within c.index-routes-k.is (ap (is_legal_route book k) (sym here) ∙ sym c.is_legal_route.ensures.tests ∙ legal) c.loop-k.invariant.legal;
      width = c.is_legal_route.ensures.width;
    }

-- that route is not legal
pub returns-then-not-is_legal_route : goal.returns-then-not-is_legal_route
returns-then-not-is_legal_route c =
    let book = c.args.book.now in
    let routes = c.args.routes.now in
    let k = c.loop-k.k in
    let within : k < length routes = search rules in
    let here : c.deref.result.now ≡ c.index-routes-k.result = search rules in
    let refused : c.is_legal_route.result ≡ false = search rules in
    sym (routes-refused book routes (aircraft book) k (omega (arith, c.requires.one_each, within))
    (ap (is_legal_route book k) (sym (here ∙ read-route routes k c.index-routes-k.result within c.index-routes-k.is)) ∙ sym c.is_legal_route.ensures.tests ∙ refused))

-- all are
pub returns : goal.returns
returns c =
    let book = c.args.book.now in
    let routes = c.args.routes.now in
    let all : length routes ≤ c.loop-k.k = search rules in
    sym (routes-legal book routes (aircraft book) (λ j lt. c.loop-k.invariant.legal j (omega (arith, c.requires.one_each, all, lt))))
