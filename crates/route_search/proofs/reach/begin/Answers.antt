use Rattle.std.proofs.Common.{◌<◌, ◌∙◌, ℕ, ℤ, w64, to_z, of_z, arith, subst}
use Rattle.std.proofs.lemmas.Int.{to_z-of_z}
use Rattle.tail_book.specs.declared.place.Place.TheVariants.{Carry}
use Rattle.branch_marks.specs.Marks.{IsUsable}
use Rattle.pricing.specs.inside.Truth.{first_row}
use Rattle.route_search.specs.inside.Reach.{IsTried}
use Rattle.label_store.proofs.Growing.{grows_trans, wide_trans}
use Rattle.route_search.proofs.Growing.{first_one_more}
use Rattle.route_search.proofs.Successors.{head, place_of_head}
use Rattle.route_search.proofs.reach.begin.Goals as goal

-- what stands at a place of the row is of the book
pub try_first-requires-clause-activity : goal.try_first-requires-clause-activity
try_first-requires-clause-activity c =
    head c.rows_are_their_places.ensures c.args.task.now.book.now c.args.task.now.net.now c.requires.task.net c.heads-first.result.now c.args.task.now.k c.heads-first.ensures
    c.rising_routes_are_below.ensures (c.rows_rise.ensures c.args.task.now.book.now) c.loop-i.i (omega arith)

pub loop-i-preserved : goal.loop-i-preserved
loop-i-preserved c =
    let inv = c.loop-i.invariant in
    let first = c.args.store.now in
    let old = c.loop-i.store in
    let new = c.try_first.new.store in
    record {
      truths = c.in_ok-try_first.ensures.truths;
      grows = grows_trans first old new inv.grows c.in_ok-try_first.ensures.grows;
      wide = wide_trans first old new inv.wide c.in_ok-try_first.ensures.wide;
      tried = first_one_more c.args.task.now.table.now c.args.task.now.book.now c.args.task.now.marks.now.facts c.args.task.now.k c.args.task.now.duals.now.values (to_z w64 (of_z w64 c.args.limit)) 0 old new c.heads-first.result.now c.loop-i.i c.in_ok-try_first.ensures.grows inv.tried c.in_ok-try_first.ensures.tried;
      row = c.in_ok-try_first.ensures.length ∙ inv.row;
    }

-- each activity that may come first stands at a place
pub returns-clause-begun : goal.returns-clause-begun
returns-clause-begun c = λ b usable.
    let (q, lt, here) = place_of_head c.rows_are_their_places.ensures c.args.task.now.book.now c.args.task.now.net.now c.requires.task.net c.heads-first.result.now c.args.task.now.k
    c.heads-first.ensures c.heads_are_links.ensures b usable.link in
    let below : q < c.loop-i.i = omega (arith, lt) in
    subst (λ (limit : ℤ). IsTried c.args.task.now.table.now c.args.task.now.book.now c.args.task.now.marks.now.facts c.args.task.now.k c.args.task.now.duals.now.values limit c.loop-i.store Carry (first_row c.args.task.now.book.now c.args.task.now.k) b) (to_z-of_z w64 c.args.limit c.ranges.limit)
    (subst (λ (a : ℕ). IsUsable c.args.task.now.book.now c.args.task.now.marks.now.facts c.args.task.now.k Carry a
    → IsTried c.args.task.now.table.now c.args.task.now.book.now c.args.task.now.marks.now.facts c.args.task.now.k c.args.task.now.duals.now.values (to_z w64 (of_z w64 c.args.limit)) c.loop-i.store Carry (first_row c.args.task.now.book.now c.args.task.now.k) a) here
    (c.loop-i.invariant.tried q below) usable)
