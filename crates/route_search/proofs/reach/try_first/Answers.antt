use Rattle.std.proofs.Common.{ℤ, List, rules, subst}
use Rattle.std.proofs.lemmas.Result.{IfOk-weaker}
use Rattle.tail_book.specs.declared.place.Place.TheVariants.{Carry}
use Rattle.route_search.specs.inside.Reach.{IsTried}
use Rattle.route_search.proofs.Growing.{past_at_first}
use Rattle.route_search.proofs.reach.try_first.Goals as goal

-- no completion of it is within the limit
pub returns-then-way-limit-clause-tried : goal.returns-then-way-limit-clause-tried
returns-then-way-limit-clause-tried c = λ usable.
    past_at_first c.args.task.now.table.now c.args.task.now.book.now c.args.task.now.marks.now.facts c.args.task.now.k c.args.task.now.duals.now.values c.args.limit c.args.store.now c.args.b c.in-Some.way c.in-Some.ensures.way (search rules)

pub returns-clause-tried : goal.returns-clause-tried
returns-clause-tried c =
    IfOk-weaker c.try_row.result _ _ (λ _ tried usable. subst (λ (r : List ℤ). IsTried c.args.task.now.table.now c.args.task.now.book.now c.args.task.now.marks.now.facts c.args.task.now.k c.args.task.now.duals.now.values c.args.limit c.try_row.new.store Carry r c.args.b)
    c.write_first.ensures.first (tried c.args.limit)) c.try_row.ensures.tried
