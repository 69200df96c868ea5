use Rattle.std.proofs.Common.{◌≡◌, ◌<◌, ◌∙◌, ℕ, ℤ, ◌-ℤ◌, suc, List, w64, to_z, of_z, FitsSigned, rules, arith, length, get_or, ap, sym, subst}
use Rattle.std.proofs.lemmas.Int.{to_z-of_z}
use Rattle.std.proofs.lemmas.List.{get_or_default}
use Rattle.tail_book.specs.declared.place.Place.TheVariants.{After}
use Rattle.label_store.specs.Buckets.{row_at}
use Rattle.label_store.specs.Store.{bucket_of, IsRowOf}
use Rattle.route_search.specs.inside.Reach.{IsTried}
use Rattle.label_store.proofs.Growing.{grows_trans, wide_trans}
use Rattle.route_search.proofs.Growing.{tried_one_more}
use Rattle.route_search.proofs.reach.try_bucket.Goals as goal

-- the row at place i is of the store, and has its node
pub try_kept-requires-clause-kept : goal.try_kept-requires-clause-kept
try_kept-requires-clause-kept c =
    let x = c.args.x in
    let old = c.loop-i.store in
    let first = c.args.store.now in
    let same : bucket_of old x ≡ bucket_of first x = c.loop-i.invariant.grows.others x (omega arith) in
    let node : x < length old.buckets = omega (arith, c.loop-i.invariant.wide.nodes, c.requires.nodes, c.requires.place) in
    let within : c.loop-i.i < length (bucket_of old x) = omega (arith, ap (λ (b : List ℕ). length b) same) in
    subst (IsRowOf old x) (sym c.at-j.ensures.number) (c.every_store_is_sound-in-loop-i.ensures.numbers x node c.loop-i.i 0 within)

-- the row at place i was tried; it is the one that stood there at first
pub loop-i-preserved : goal.loop-i-preserved
loop-i-preserved c =
    let inv = c.loop-i.invariant in
    let first = c.args.store.now in
    let old = c.loop-i.store in
    let new = c.try_kept.new.store in
    let x = c.args.x in
    let b = c.args.b in
    let i = c.loop-i.i in
    let bucket = bucket_of first x in
    let same : bucket_of old x ≡ bucket = inv.grows.others x (omega arith) in
    let node : x < length first.buckets = omega (arith, c.requires.nodes, c.requires.place) in
    let within : i < length bucket = omega arith in
    let number : c.at-j.result ≡ get_or bucket i 0 = c.at-j.ensures.number ∙ ap (λ (there : List ℕ). get_or there i 0) same in
    let is : row_at old.rows c.at-j.result ≡ row_at first.rows (get_or bucket i 0) =
    ap (row_at old.rows) number ∙ inv.grows.rows.rows (get_or bucket i 0) (c.every_store_is_sound.ensures.numbers x node i 0 within).kept in
    let limit = to_z w64 (of_z w64 c.args.limit) in
    let room_fits : FitsSigned w64 c.room-room.result = search rules in
    let least_fits : FitsSigned w64 c.args.way.least = search rules in
    let tried = c.in_ok-try_kept.ensures.tried limit (to_z-of_z w64 c.room-room.result room_fits ∙ c.room-room.ensures
    ∙ ap (λ (w : ℤ). limit -ℤ w) (to_z-of_z w64 c.args.way.least least_fits)) in
    record {
      truths = c.in_ok-try_kept.ensures.truths;
      grows = grows_trans first old new inv.grows c.in_ok-try_kept.ensures.grows;
      wide = wide_trans first old new inv.wide c.in_ok-try_kept.ensures.wide;
      tried = tried_one_more c.args.task.now.table.now c.args.task.now.book.now c.args.task.now.marks.now.facts c.args.task.now.k c.args.task.now.duals.now.values limit (suc x) first old new bucket (After x) b i c.in_ok-try_kept.ensures.grows inv.tried
          (subst (λ (r : List ℤ). IsTried c.args.task.now.table.now c.args.task.now.book.now c.args.task.now.marks.now.facts c.args.task.now.k c.args.task.now.duals.now.values limit new (After x) r b) is tried);
      row = c.in_ok-try_kept.ensures.length ∙ inv.row;
    }

-- each row of the bucket stands at one of its places
pub returns-clause-tried : goal.returns-clause-tried
returns-clause-tried c = λ usable j has.
    let bucket = bucket_of c.args.store.now c.args.x in
    let (q, lt, is) = has in
    let below : q < c.loop-i.i = omega (arith, lt) in
    let here : get_or bucket q 0 ≡ j = sym (get_or_default bucket q j 0 lt) ∙ is in
    subst (λ (limit : ℤ). IsTried c.args.task.now.table.now c.args.task.now.book.now c.args.task.now.marks.now.facts c.args.task.now.k c.args.task.now.duals.now.values limit c.loop-i.store (After c.args.x) (row_at c.args.store.now.rows j) c.args.b) (to_z-of_z w64 c.args.limit c.ranges.limit)
    (subst (λ (m : ℕ). IsTried c.args.task.now.table.now c.args.task.now.book.now c.args.task.now.marks.now.facts c.args.task.now.k c.args.task.now.duals.now.values (to_z w64 (of_z w64 c.args.limit)) c.loop-i.store (After c.args.x) (row_at c.args.store.now.rows m) c.args.b) here
    (c.loop-i.invariant.tried q below))
