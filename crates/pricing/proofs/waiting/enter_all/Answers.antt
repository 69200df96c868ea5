use Rattle.std.proofs.Common.{◌≡◌, ◌<◌, ◌∙◌, ℕ, arith, get_or, subst, sym}
use Rattle.std.proofs.lemmas.List.{get_or_default}
use Rattle.label_store.specs.Store.{bucket_of}
use Rattle.pricing.specs.inside.Waiting.{IsHeld}
use Rattle.label_store.proofs.Growing.{wide_trans}
use Rattle.pricing.proofs.Waiters.{held_stays, joins_trans, one_more}
use Rattle.pricing.proofs.waiting.enter_all.Goals as goal

-- the label at place q is held too
pub loop-q-preserved : goal.loop-q-preserved
loop-q-preserved c =
    let inv = c.loop-q.invariant in
    let book = c.args.asked.now.book.now in
    let store = c.args.store.now in
    let windows = c.args.lines.now.windows.now in
    let old = c.loop-q.waiting in
    let new = c.enter.new.waiting in
    let bucket = bucket_of store c.args.x in
    let joins = c.in_ok-enter.ensures.joins in
    record {
      waiting = c.in_ok-enter.ensures.waiting;
      joins = joins_trans c.args.i c.args.waiting.now old new inv.joins joins;
      held = one_more (λ r. IsHeld book c.args.lines.now.stand windows store new c.args.i c.args.x (get_or bucket r 0)) c.loop-q.q
          (λ r lt. held_stays book c.args.lines.now.stand windows store c.args.i c.args.i c.args.x (get_or bucket r 0) old new joins (inv.held r lt))
          (subst (λ (j : ℕ). IsHeld book c.args.lines.now.stand windows store new c.args.i c.args.x j) c.at-j.ensures.number c.in_ok-enter.ensures.held);
      wide = wide_trans c.args.waiting.now.keys old.keys new.keys inv.wide c.in_ok-enter.ensures.wide;
    }

-- each label stands at a place of the bucket
pub returns-clause-held : goal.returns-clause-held
returns-clause-held c = λ j has.
    let bucket = bucket_of c.args.store.now c.args.x in
    let (q, lt, is) = has in
    let below : q < c.loop-q.q = omega (arith, lt) in
    let here : get_or bucket q 0 ≡ j = sym (get_or_default bucket q j 0 lt) ∙ is in
    subst (λ (m : ℕ). IsHeld c.args.asked.now.book.now c.args.lines.now.stand c.args.lines.now.windows.now c.args.store.now c.loop-q.waiting c.args.i c.args.x m) here
    (c.loop-q.invariant.held q below)
