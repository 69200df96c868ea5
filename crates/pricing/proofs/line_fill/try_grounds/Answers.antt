use Rattle.std.proofs.Common.{◌≡◌, ◌<◌, ◌∙◌, ℕ, rules, arith, get_or, length, subst, sym}
use Rattle.std.proofs.lemmas.List.{get_or_default}
use Rattle.pricing.specs.inside.Filled.{IsReached}
use Rattle.pricing.proofs.Filling.{reached_here, reached_stays}
use Rattle.label_store.proofs.Growing.{grows_trans, wide_trans}
use Rattle.pricing.proofs.Waiters.{one_more}
use Rattle.pricing.proofs.line_fill.try_grounds.Goals as goal

-- the one at place q was tried too
pub loop-q-preserved : goal.loop-q-preserved
loop-q-preserved c =
    let inv = c.loop-q.invariant in
    let table = c.args.asked.now.table.now in
    let book = c.args.asked.now.book.now in
    let marks = c.args.asked.now.marks.now.facts in
    let k = c.args.asked.now.k in
    let duals = c.args.asked.now.duals.now.values in
    let b = c.args.b in
    let grounds = c.args.grounds.now in
    let q = c.loop-q.q in
    let x = get_or grounds q 0 in
    let first = c.args.store.now in
    let old = c.loop-q.store in
    let new = c.try_earlier.new.store in
    let grows = c.in_ok-try_earlier.ensures.grows in
    let within : q < length grounds = search rules in
    let place = c.requires.grounds q within in
    let node : x < length first.buckets = omega (arith, place, c.requires.state.nodes) in
    let long : length c.try_earlier.new.row ≡ length c.args.row.now = search rules in
    record {
      state = c.in_ok-try_earlier.ensures.state;
      grows = grows_trans first old new inv.grows grows;
      wide = wide_trans first old new inv.wide c.in_ok-try_earlier.ensures.wide;
      row = long;
      reached = one_more (λ r. get_or grounds r 0 < b → IsReached table book marks k duals first (get_or grounds r 0) b new) q
          (λ r less later. reached_stays table book marks k duals first old new (get_or grounds r 0) b b grows (inv.reached r less later))
          (λ later. reached_here table book marks k duals first old new x b c.every_store_is_sound.ensures node later inv.grows (c.in_ok-try_earlier.ensures.reached later));
    }

-- each of them stands at a place
pub returns-clause-reached : goal.returns-clause-reached
returns-clause-reached c = λ x has later.
    let grounds = c.args.grounds.now in
    let (q, lt, is) = has in
    let below : q < c.loop-q.q = omega (arith, lt) in
    let here : get_or grounds q 0 ≡ x = sym (get_or_default grounds q x 0 lt) ∙ is in
    subst (λ (y : ℕ). y < c.args.b → IsReached c.args.asked.now.table.now c.args.asked.now.book.now c.args.asked.now.marks.now.facts c.args.asked.now.k c.args.asked.now.duals.now.values c.args.store.now y c.args.b c.loop-q.store) here
    (c.loop-q.invariant.reached q below) later
