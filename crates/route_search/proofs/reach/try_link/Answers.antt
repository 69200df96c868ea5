use Rattle.std.proofs.Common.{◌≡◌, ℤ, None, false, inr, w64, to_z, of_z, FitsSigned, rules, arith, subst}
use Rattle.std.specs.Prelude.{slice_index_or}
use Rattle.std.proofs.lemmas.Int.{to_z-of_z}
use Rattle.std.proofs.lemmas.Result.{IfOk-weaker}
use Rattle.route_search.specs.inside.Reach.{AreTried, HasNoRoom}
use Rattle.route_search.proofs.Growing.{tried_without_room}
use Rattle.route_search.proofs.reach.try_link.Goals as goal

pub returns-clause-tried : goal.returns-clause-tried
returns-clause-tried c =
    IfOk-weaker c.try_bucket.result _ _ (λ _ tried.
    subst (λ (limit : ℤ). AreTried c.args.task.now.table.now c.args.task.now.book.now c.args.task.now.marks.now.facts c.args.task.now.k c.args.task.now.duals.now.values limit c.args.store.now c.args.x c.try_bucket.new.store c.args.b) (to_z-of_z w64 c.args.limit c.ranges.limit) tried) c.try_bucket.ensures.tried

-- not even the lightest row has room
pub returns-then-not-may_have_room-clause-tried : goal.returns-then-not-may_have_room-clause-tried
returns-then-not-may_have_room-clause-tried c =
    let no : c.may_have_room.result ≡ false = search rules in
    let rest = slice_index_or c.args.behind.now c.args.b None in
    let fits : FitsSigned w64 c.added_by.result = search rules in
    let there = subst (λ (z : ℤ). HasNoRoom c.args.low c.added_by.result rest z) (to_z-of_z w64 c.args.limit c.ranges.limit)
    (subst (λ (z : ℤ). HasNoRoom c.args.low z rest (to_z w64 (of_z w64 c.args.limit))) (to_z-of_z w64 c.added_by.result fits)
    (subst (λ (z : ℤ). HasNoRoom z (to_z w64 (of_z w64 c.added_by.result)) rest (to_z w64 (of_z w64 c.args.limit))) (to_z-of_z w64 c.args.low c.ranges.low)
    (c.may_have_room.ensures no))) in
    tried_without_room c.args.task.now.table.now c.args.task.now.book.now c.args.task.now.marks.now.facts c.args.task.now.k c.args.task.now.duals.now.values
    c.args.limit c.args.low c.added_by.result rest c.args.store.now c.args.store.now c.args.x c.args.b
    c.added_by.ensures (c.requires.behind.each c.args.b (omega arith) c.requires.activity) c.requires.low there

-- nothing can come behind it, or the link is not usable
pub returns-in_default-clause-tried : goal.returns-in_default-clause-tried
returns-in_default-clause-tried c = λ usable j has within. inr (λ rest fits. absurd (c.in_default.ensures.way rest (usable, fits)))
