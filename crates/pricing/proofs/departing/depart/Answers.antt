use Rattle.std.proofs.Common.{◌≡◌, ◌≤ℤ◌, ◌<◌, ◌∙◌, ℕ, ℤ, List, rules, arith, get_or, length, subst, sym}
use Rattle.std.specs.List.{Contains}
use Rattle.std.proofs.lemmas.Int.{ints}
use Rattle.std.proofs.lemmas.List.{get_or_default}
use Rattle.tail_book.specs.declared.place.Place.TheVariants.{After}
use Rattle.tail_book.specs.Link.{gap}
use Rattle.branch_marks.specs.Weights.{arc_weight}
use Rattle.label_store.specs.Buckets.{row_at}
use Rattle.label_store.specs.Store.{bucket_of, node_of}
use Rattle.pricing.specs.inside.Growth.{Tried}
use Rattle.pricing.specs.inside.Waiting.{IsTriedBelow, IsTriedIn, MayWait, label_at, place_at, window_at}
use Rattle.pricing.proofs.Families.{row_of_bucket}
use Rattle.label_store.proofs.Growing.{grows_trans, wide_trans}
use Rattle.pricing.proofs.Growing.{tried_stays}
use Rattle.pricing.proofs.Staying.{turn_at_most, waiting_stays}
use Rattle.pricing.proofs.Waiters.{one_more}
use Rattle.pricing.proofs.departing.depart.Goals as goal

pub try_waiting-requires-clause-may : goal.try_waiting-requires-clause-may
try_waiting-requires-clause-may c =
    subst (MayWait c.args.asked.now.book.now c.args.asked.now.marks.now.facts c.args.lines.now.stand) (sym c.place_at-x.ensures) (c.loop-q.invariant.waiting.entries c.at-e.result c.at-e.ensures.kept).may

pub try_waiting-requires-clause-label : goal.try_waiting-requires-clause-label
try_waiting-requires-clause-label c =
    let store = c.loop-q.store in
    let waiting = c.args.waiting.now in
    subst (λ (x : ℕ). Contains (bucket_of store x) c.label_at-j.result) (sym c.place_at-x.ensures)
    (subst (λ (j : ℕ). Contains (bucket_of store (place_at waiting c.at-e.result)) j) (sym c.label_at-j.ensures) (c.loop-q.invariant.waiting.entries c.at-e.result c.at-e.ensures.kept).label)

-- an entry has waited for the turn at least
pub try_waiting-requires-clause-waited : goal.try_waiting-requires-clause-waited
try_waiting-requires-clause-waited c =
    let waiting = c.args.waiting.now in
    let entry = c.loop-q.invariant.waiting.entries c.at-e.result c.at-e.ensures.kept in
    let ready = entry.ready in
    let moment = c.requires.leaves.moment in
    let most = turn_at_most (window_at c.args.lines.now.windows.now (node_of waiting.keys c.at-e.result)).lo c.args.lines.now.stand.turn in
    let waited : c.args.lines.now.stand.turn ≤ℤ gap c.args.asked.now.book.now c.args.asked.now.k (After (place_at waiting c.at-e.result)) c.args.b = omega (arith, ints, ready, moment, most) in
    subst (λ (x : ℕ). c.args.lines.now.stand.turn ≤ℤ gap c.args.asked.now.book.now c.args.asked.now.k (After x) c.args.b) (sym c.place_at-x.ensures) waited

-- the entry at place q was tried too
pub loop-q-preserved : goal.loop-q-preserved
loop-q-preserved c =
    let inv = c.loop-q.invariant in
    let book = c.args.asked.now.book.now in
    let table = c.args.asked.now.table.now in
    let duals = c.args.asked.now.duals.now.values in
    let k = c.args.asked.now.k in
    let b = c.args.b in
    let waiting = c.args.waiting.now in
    let first = c.args.store.now in
    let old = c.loop-q.store in
    let new = c.try_waiting.new.store in
    let bucket = bucket_of waiting.keys c.args.i in
    let hi = (window_at c.args.lines.now.windows.now c.args.i).hi in
    let e = c.at-e.result in
    let x = place_at waiting e in
    let j = label_at waiting e in
    let kept = c.at-e.ensures.kept in
    let grows = c.in_ok-try_waiting.ensures.grows in
    let entry = c.requires.waiting.entries e kept in
    let node : x < length first.buckets = omega (arith, entry.may.arrival.place, c.requires.state.nodes) in
    let there : row_at old.rows j ≡ row_at first.rows j = inv.grows.rows.rows j (row_of_bucket first c.every_store_is_sound.ensures x j node entry.label).kept in
    let long : length c.try_waiting.new.row ≡ length c.args.row.now = search rules in
    let tried : IsTriedBelow table book k duals old new hi b x j =
    subst (λ (a : ℕ). IsTriedBelow table book k duals old new hi b a j) c.place_at-x.ensures
    (subst (λ (m : ℕ). IsTriedBelow table book k duals old new hi b c.place_at-x.result m) c.label_at-j.ensures c.in_ok-try_waiting.ensures.tried) in
    let now : IsTriedIn table book k duals first new hi b waiting e = λ short.
    subst (λ (r : List ℤ). Tried book k new (arc_weight table book k duals (After x) b) (After x) b r) there (tried short) in
    record {
      state = c.in_ok-try_waiting.ensures.state;
      grows = grows_trans first old new inv.grows grows;
      wide = wide_trans first old new inv.wide c.in_ok-try_waiting.ensures.wide;
      row = long;
      waiting = waiting_stays book c.every_book_is_sound.ensures c.args.asked.now.marks.now.facts c.args.lines.now.stand c.requires.leaves.forward b c.requires.activity
          (let moment = c.requires.leaves.moment in omega (arith, ints, moment)) old new c.every_store_is_sound-in-loop-q.ensures inv.state.nodes grows c.args.lines.now.windows.now waiting inv.waiting;
      tried = one_more (λ r. IsTriedIn table book k duals first new hi b waiting (get_or bucket r 0)) c.loop-q.q
          (λ r lt short. tried_stays book k old new (arc_weight table book k duals (After (place_at waiting (get_or bucket r 0))) b) (After (place_at waiting (get_or bucket r 0))) b b
          (row_at first.rows (label_at waiting (get_or bucket r 0))) grows (inv.tried r lt short))
          (subst (λ (d : ℕ). IsTriedIn table book k duals first new hi b waiting d) c.at-e.ensures.number now);
    }

-- each entry that counts stands at a place of the line
pub returns-clause-tried : goal.returns-clause-tried
returns-clause-tried c = λ e counts.
    let waiting = c.args.waiting.now in
    let bucket = bucket_of waiting.keys c.args.i in
    let (q, lt, is) = counts in
    let below : q < c.loop-q.q = omega (arith, lt) in
    let here : get_or bucket q 0 ≡ e = sym (get_or_default bucket q e 0 lt) ∙ is in
    subst (λ (d : ℕ). IsTriedIn c.args.asked.now.table.now c.args.asked.now.book.now c.args.asked.now.k c.args.asked.now.duals.now.values c.args.store.now c.loop-q.store (window_at c.args.lines.now.windows.now c.args.i).hi c.args.b waiting d)
    here (c.loop-q.invariant.tried q below)
