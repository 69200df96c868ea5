use Rattle.std.proofs.Common.{◌≡◌, ◌≢◌, ◌<◌, ◌∙◌, ℕ, ℤ, List, w64, to_z, of_z, rules, arith, length, get_or, ap, sym, subst}
use Rattle.std.proofs.lemmas.Int.{to_z-of_z}
use Rattle.std.proofs.lemmas.List.{get_or_default}
use Rattle.tail_book.specs.declared.place.Place.TheVariants.{After}
use Rattle.label_store.specs.Buckets.{row_at}
use Rattle.label_store.specs.Store.{bucket_of}
use Rattle.pricing.specs.inside.Growth.{Tried}
use Rattle.label_store.proofs.Growing.{grows_trans, wide_trans}
use Rattle.fee_pricing.proofs.Growing.{tried_one_more}
use Rattle.fee_pricing.proofs.fill.try_bucket.Goals as goal

-- the row at place i was tried; it is the one that stood there at first
pub loop-i-preserved : goal.loop-i-preserved
loop-i-preserved c =
    let inv = c.loop-i.invariant in
    let first = c.args.store.now in
    let old = c.loop-i.store in
    let new = c.try_row.new.store in
    let x = c.args.x in
    let b = c.args.b in
    let i = c.loop-i.i in
    let bucket = bucket_of first x in
    let later : x < b = c.requires.later in
    let other : x ≢ b = omega (arith, later) in
    let same : bucket_of old x ≡ bucket = inv.grows.others x other in
    let node : x < length first.buckets = omega (arith, c.requires.state.nodes, c.requires.place) in
    let within : i < length bucket = omega arith in
    let read : c.copy_from_slice.new.self ≡ row_at old.rows c.at-j.result = search rules in
    let number : c.at-j.result ≡ get_or (bucket_of old x) i 0 = c.at-j.ensures.number in
    let is : c.copy_from_slice.new.self ≡ row_at first.rows (get_or bucket i 0) =
    read ∙ ap (row_at old.rows) (number ∙ ap (λ (there : List ℕ). get_or there i 0) same)
    ∙ inv.grows.rows.rows (get_or bucket i 0) (c.every_store_is_sound.ensures.numbers x node i 0 within).kept in
    let long : length c.try_row.new.row ≡ length c.args.row.now = search rules in
    record {
      state = c.in_ok-try_row.ensures.state;
      grows = grows_trans first old new inv.grows c.in_ok-try_row.ensures.grows;
      wide = wide_trans first old new inv.wide c.in_ok-try_row.ensures.wide;
      tried = tried_one_more c.args.asked.now.book.now c.args.asked.now.k first old new bucket (to_z w64 (of_z w64 c.args.arc)) (After x) b i c.copy_from_slice.new.self c.in_ok-try_row.ensures.grows
          inv.tried c.in_ok-try_row.ensures.tried is;
      row = long;
    }

-- each row of the bucket stands at one of its places
pub returns-clause-reached : goal.returns-clause-reached
returns-clause-reached c = λ usable j has.
    let bucket = bucket_of c.args.store.now c.args.x in
    let (q, lt, is) = has in
    let below : q < c.loop-i.i = omega (arith, lt) in
    let here : get_or bucket q 0 ≡ j = sym (get_or_default bucket q j 0 lt) ∙ is in
    subst (λ (arc : ℤ). Tried c.args.asked.now.book.now c.args.asked.now.k c.loop-i.store arc (After c.args.x) c.args.b (row_at c.args.store.now.rows j)) (to_z-of_z w64 c.args.arc c.ranges.arc ∙ c.requires.arc)
    (subst (λ (m : ℕ). Tried c.args.asked.now.book.now c.args.asked.now.k c.loop-i.store (to_z w64 (of_z w64 c.args.arc)) (After c.args.x) c.args.b (row_at c.args.store.now.rows m)) here
    (c.loop-i.invariant.tried q below))
