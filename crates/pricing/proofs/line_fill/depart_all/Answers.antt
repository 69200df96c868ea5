use Rattle.std.proofs.Common.{◌≡◌, ◌<◌, ℤ, List, rules, arith, length, subst}
use Rattle.std.proofs.lemmas.Int.{ints}
use Rattle.tail_book.specs.declared.place.Place.TheVariants.{After}
use Rattle.branch_marks.specs.Weights.{arc_weight}
use Rattle.label_store.specs.Buckets.{row_at}
use Rattle.pricing.specs.inside.Growth.{Tried}
use Rattle.pricing.specs.inside.Waiting.{AreTriedIn, label_at, place_at}
use Rattle.pricing.proofs.Families.{row_of_bucket}
use Rattle.label_store.proofs.Growing.{grows_trans, wide_trans}
use Rattle.pricing.proofs.Growing.{tried_stays}
use Rattle.pricing.proofs.Staying.{waiting_stays}
use Rattle.pricing.proofs.Waiters.{one_more}
use Rattle.pricing.proofs.line_fill.depart_all.Goals as goal

-- the line of window i was tried too
pub loop-i-preserved : goal.loop-i-preserved
loop-i-preserved c =
    let inv = c.loop-i.invariant in
    let book = c.args.asked.now.book.now in
    let table = c.args.asked.now.table.now in
    let duals = c.args.asked.now.duals.now.values in
    let k = c.args.asked.now.k in
    let b = c.args.b in
    let i = c.loop-i.i in
    let windows = c.args.lines.now.windows.now in
    let waiting = c.args.waiting.now in
    let first = c.args.store.now in
    let old = c.loop-i.store in
    let new = c.depart.new.store in
    let grows = c.in_ok-depart.ensures.grows in
    let lt : i < length windows = omega arith in
    let nodes = c.requires.waiting.roomy.nodes in
    let long : length c.depart.new.row ≡ length c.args.row.now = search rules in
    let now : AreTriedIn table book k duals first new windows b waiting i = λ e counts short.
    let x = place_at waiting e in
    let j = label_at waiting e in
    let entry = c.requires.waiting.entries e (row_of_bucket waiting.keys c.every_store_is_sound-2.ensures i e (omega (arith, lt, nodes)) counts).kept in
    let node : x < length first.buckets = omega (arith, entry.may.arrival.place, c.requires.state.nodes) in
    subst (λ (r : List ℤ). Tried book k new (arc_weight table book k duals (After x) b) (After x) b r)
    (inv.grows.rows.rows j (row_of_bucket first c.every_store_is_sound.ensures x j node entry.label).kept) (c.in_ok-depart.ensures.tried e counts short) in
    record {
      state = c.in_ok-depart.ensures.state;
      grows = grows_trans first old new inv.grows grows;
      wide = wide_trans first old new inv.wide c.in_ok-depart.ensures.wide;
      row = long;
      waiting = waiting_stays book c.every_book_is_sound.ensures c.args.asked.now.marks.now.facts c.args.lines.now.stand c.requires.leaves.forward b c.requires.activity
          (let moment = c.requires.leaves.moment in omega (arith, ints, moment)) old new c.every_store_is_sound-in-loop-i.ensures inv.state.nodes grows windows waiting inv.waiting;
      tried = one_more (AreTriedIn table book k duals first new windows b waiting) i
          (λ v less e counts short. tried_stays book k old new (arc_weight table book k duals (After (place_at waiting e)) b) (After (place_at waiting e)) b b
          (row_at first.rows (label_at waiting e)) grows (inv.tried v less e counts short))
          now;
    }
