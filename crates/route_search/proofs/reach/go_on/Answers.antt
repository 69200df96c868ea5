use Rattle.std.proofs.Common.{ℤ, w64, subst}
use Rattle.std.proofs.lemmas.Int.{to_z-of_z}
use Rattle.std.proofs.lemmas.Result.{IfOk-weaker}
use Rattle.route_search.specs.inside.Reach.{IsDone}
use Rattle.route_search.proofs.reach.go_on.Goals as goal

pub returns-clause-done : goal.returns-clause-done
returns-clause-done c =
    IfOk-weaker c.try_links.result _ _ (λ _ done.
    subst (λ (limit : ℤ). IsDone c.args.task.now.table.now c.args.task.now.book.now c.args.task.now.marks.now.facts c.args.task.now.k c.args.task.now.duals.now.values limit c.try_links.new.store c.args.x) (to_z-of_z w64 c.args.limit c.ranges.limit) done) c.try_links.ensures.done
