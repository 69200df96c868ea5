use Rattle.std.proofs.Common.{◌≡◌, true, ◌∙◌, sym, rules, get_or}
use Rattle.std.proofs.lemmas.List.{get_or_default}
use Rattle.maint_counters.proofs.LegalRoutes.{route-refused, route-goes_on}
use Rattle.maint_counters.proofs.legal_route.walk.Goals as goal

-- the next activity may not come
pub returns-then-not-is_legal_next-clause-legal : goal.returns-then-not-is_legal_next-clause-legal
returns-then-not-is_legal_next-clause-legal c =
    let route = c.args.route.now in
    let i = c.loop-b.b-index in
    let b = get_or route i 0 in
    sym (c.loop-b.invariant.decides ∙ route-refused c.args.book.now c.args.k c.loop-b.from c.loop-b.values route i b c.loop-b-test.true (get_or_default route i 0 b c.loop-b-test.true)
    c.is_legal_next.result c.is_legal_next.ensures.legal (search rules))

-- it may
pub loop-b-preserved : goal.loop-b-preserved
loop-b-preserved c =
    let route = c.args.route.now in
    let i = c.loop-b.b-index in
    let b = get_or route i 0 in
    let may : c.is_legal_next.result ≡ true = search rules in
    record {
      decides = c.loop-b.invariant.decides ∙ route-goes_on c.args.book.now c.args.k c.loop-b.from c.loop-b.values route i b c.loop-b-test.true (get_or_default route i 0 b c.loop-b-test.true)
          c.is_legal_next.result c.is_legal_next.new.values c.is_legal_next.ensures.legal may (c.is_legal_next.ensures.steps may);
      place = search rules;
      range = c.is_legal_next.ensures.range may;
      width = search rules;
    }
