use Rattle.std.proofs.Common.{◌≡◌, ◌<◌, ℕ, rules, arith, length, get_or, subst}
use Rattle.fee_pricing.specs.inside.Filled.{IsReached}
use Rattle.label_store.proofs.Growing.{grows_trans, wide_trans}
use Rattle.fee_pricing.proofs.Predecessors.{predecessor, place_of_predecessor}
use Rattle.fee_pricing.proofs.Filling.{reached_here, reached_one_more}
use Rattle.fee_pricing.specs.inside.ForAsked.{arc_for}
use Rattle.fee_pricing.proofs.fill.try_links.Goals as goal

-- what stands at a place of the row is of the book
pub try_link-requires-clause-place : goal.try_link-requires-clause-place
try_link-requires-clause-place c =
    (predecessor c.rows_are_their_places.ensures c.predecessors_are_links.ensures c.args.asked.now.book.now c.args.asked.now.net.now c.requires.asked.net c.args.b c.predecessors-before.result.now c.predecessors-before.ensures
    c.rising_routes_are_below.ensures (c.rows_rise.ensures c.args.asked.now.book.now) c.links_rise.ensures c.every_book_is_sound.ensures c.requires.activity c.loop-i.i (omega arith)).0

-- and before the activity
pub try_link-requires-clause-later : goal.try_link-requires-clause-later
try_link-requires-clause-later c =
    (predecessor c.rows_are_their_places.ensures c.predecessors_are_links.ensures c.args.asked.now.book.now c.args.asked.now.net.now c.requires.asked.net c.args.b c.predecessors-before.result.now c.predecessors-before.ensures
    c.rising_routes_are_below.ensures (c.rows_rise.ensures c.args.asked.now.book.now) c.links_rise.ensures c.every_book_is_sound.ensures c.requires.activity c.loop-i.i (omega arith)).1

-- one more was tried, and its rows were those of the beginning
pub loop-i-preserved : goal.loop-i-preserved
loop-i-preserved c =
    let inv = c.loop-i.invariant in
    let first = c.args.store.now in
    let old = c.loop-i.store in
    let new = c.try_link.new.store in
    let there = c.predecessors-before.result.now in
    let i = c.loop-i.i in
    let x = get_or there i 0 in
    let bounds = predecessor c.rows_are_their_places.ensures c.predecessors_are_links.ensures c.args.asked.now.book.now c.args.asked.now.net.now c.requires.asked.net c.args.b there c.predecessors-before.ensures
    c.rising_routes_are_below.ensures (c.rows_rise.ensures c.args.asked.now.book.now) c.links_rise.ensures c.every_book_is_sound.ensures c.requires.activity i (omega arith) in
    let later : x < c.args.b = bounds.1 in
    let place : x < length first.buckets = omega (arith, later, c.requires.activity, c.requires.state.nodes) in
    let long : length c.try_link.new.row ≡ length c.args.row.now = search rules in
    record {
      state = c.in_ok-try_link.ensures.state;
      grows = grows_trans first old new inv.grows c.in_ok-try_link.ensures.grows;
      wide = wide_trans first old new inv.wide c.in_ok-try_link.ensures.wide;
      reached = reached_one_more (arc_for c.args.asked.now) c.args.asked.now.book.now c.args.asked.now.marks.now.facts c.args.asked.now.k first old new there c.args.b i
          c.in_ok-try_link.ensures.grows inv.reached
          (reached_here (arc_for c.args.asked.now) c.args.asked.now.book.now c.args.asked.now.marks.now.facts c.args.asked.now.k first old new x c.args.b
          c.every_store_is_sound.ensures place later inv.grows c.in_ok-try_link.ensures.reached);
      row = long;
    }

-- each activity from which the link is usable stands at a place
pub returns-clause-reached : goal.returns-clause-reached
returns-clause-reached c = λ x before usable.
    let (q, lt, here) = place_of_predecessor c.rows_are_their_places.ensures c.predecessors_are_links.ensures c.args.asked.now.book.now c.args.asked.now.net.now c.requires.asked.net c.args.b
    c.predecessors-before.result.now c.predecessors-before.ensures c.args.asked.now.k x c.requires.asked.aircraft usable.link in
    let below : q < c.loop-i.i = omega (arith, lt) in
    subst (λ (y : ℕ). IsReached (arc_for c.args.asked.now) c.args.asked.now.book.now c.args.asked.now.marks.now.facts c.args.asked.now.k c.args.store.now y c.args.b c.loop-i.store) here
    (c.loop-i.invariant.reached q below) usable
