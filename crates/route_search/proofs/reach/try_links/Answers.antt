use Rattle.std.proofs.Common.{◌<◌, ◌∙◌, ℕ, ℤ, suc, w64, to_z, of_z, arith, length, get_or, subst}
use Rattle.std.proofs.lemmas.Int.{to_z-of_z}
use Rattle.route_search.specs.inside.Reach.{AreTried, IsDone}
use Rattle.label_store.proofs.Growing.{grows_trans, wide_trans}
use Rattle.route_search.proofs.Growing.{reached_one_more, reached_here, done}
use Rattle.route_search.proofs.reach.try_links.Goals as goal

-- one more was tried, and its rows were those of the beginning
pub loop-i-preserved : goal.loop-i-preserved
loop-i-preserved c =
    let inv = c.loop-i.invariant in
    let first = c.args.store.now in
    let old = c.loop-i.store in
    let new = c.try_link.new.store in
    let limit = to_z w64 (of_z w64 c.args.limit) in
    let there = c.followers-next.result.now in
    let i = c.loop-i.i in
    let x = c.args.x in
    let place : x < length first.buckets = omega (arith, c.requires.place, c.requires.nodes) in
    record {
      truths = c.in_ok-try_link.ensures.truths;
      grows = grows_trans first old new inv.grows c.in_ok-try_link.ensures.grows;
      wide = wide_trans first old new inv.wide c.in_ok-try_link.ensures.wide;
      tried = reached_one_more c.args.task.now.table.now c.args.task.now.book.now c.args.task.now.marks.now.facts c.args.task.now.k c.args.task.now.duals.now.values limit (suc x) first old new there x i c.in_ok-try_link.ensures.grows inv.tried
          (reached_here c.args.task.now.table.now c.args.task.now.book.now c.args.task.now.marks.now.facts c.args.task.now.k c.args.task.now.duals.now.values limit first old new x (get_or there i 0) c.every_store_is_sound.ensures place inv.grows c.in_ok-try_link.ensures.tried);
      row = c.in_ok-try_link.ensures.length ∙ inv.row;
    }

-- whatever is usable is among them
pub returns-clause-done : goal.returns-clause-done
returns-clause-done c =
    let place : c.args.x < length c.args.store.now.buckets = omega (arith, c.requires.place, c.requires.nodes) in
    subst (λ (limit : ℤ). IsDone c.args.task.now.table.now c.args.task.now.book.now c.args.task.now.marks.now.facts c.args.task.now.k c.args.task.now.duals.now.values limit c.loop-i.store c.args.x) (to_z-of_z w64 c.args.limit c.ranges.limit)
    (done c.args.task.now.table.now c.args.task.now.book.now c.args.task.now.marks.now.facts c.args.task.now.k c.args.task.now.duals.now.values (to_z w64 (of_z w64 c.args.limit)) c.args.store.now c.loop-i.store c.args.x c.every_store_is_sound.ensures place c.loop-i.invariant.grows
    (λ b usable. let (q, lt, here) = c.followers-next.ensures.all b usable in
    let below : q < c.loop-i.i = omega (arith, lt) in
    subst (λ (a : ℕ). AreTried c.args.task.now.table.now c.args.task.now.book.now c.args.task.now.marks.now.facts c.args.task.now.k c.args.task.now.duals.now.values (to_z w64 (of_z w64 c.args.limit)) c.args.store.now c.args.x c.loop-i.store a) here (c.loop-i.invariant.tried q below) usable))
