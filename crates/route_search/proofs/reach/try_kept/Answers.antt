use Rattle.std.proofs.Common.{◌∙◌, ◌<ℤ◌, ℤ, List, rules, subst}
use Rattle.std.proofs.lemmas.Result.{IfOk-weaker}
use Rattle.tail_book.specs.declared.place.Place.TheVariants.{After}
use Rattle.label_store.specs.Buckets.{row_at}
use Rattle.route_search.specs.inside.Reach.{IsTried}
use Rattle.route_search.proofs.Growing.{past_on_way}
use Rattle.route_search.proofs.reach.try_kept.Goals as goal

-- it has no room
pub returns-then-weight_of-room-clause-tried : goal.returns-then-weight_of-room-clause-tried
returns-then-weight_of-room-clause-tried c = λ limit is.
    let over : c.args.room <ℤ c.weight_of.result = search rules in
    past_on_way c.args.task.now.table.now c.args.task.now.book.now c.args.task.now.marks.now.facts c.args.task.now.k c.args.task.now.duals.now.values limit c.args.room c.args.store.now (After c.args.x) (row_at c.args.store.now.rows c.args.j) c.args.b c.args.way c.requires.way is
    (subst (λ (w : ℤ). c.args.room <ℤ w) c.weight_of.ensures over)

pub returns-clause-tried : goal.returns-clause-tried
returns-clause-tried c =
    IfOk-weaker c.try_row.result _ _ (λ _ tried limit is. subst (λ (r : List ℤ). IsTried c.args.task.now.table.now c.args.task.now.book.now c.args.task.now.marks.now.facts c.args.task.now.k c.args.task.now.duals.now.values limit c.try_row.new.store (After c.args.x) r c.args.b)
    (c.copy_from_slice.ensures.after ∙ c.row.ensures.values) (tried limit)) c.try_row.ensures.tried
