use Rattle.std.proofs.Common.{◌∙◌, []}
use Rattle.plan_audit.proofs.Deciding.{once_by, times-none}
use Rattle.plan_audit.proofs.legal_plan.are_counted_once.Goals as goal

-- each is counted once
pub returns : goal.returns
returns c =
    c.are_ones.ensures
    ∙ once_by c.args.book.now c.args.routes.now c.count_routes.new.times (c.count_routes.ensures.long ∙ c.requires.long)
    (c.count_routes.ensures.counts [] (times-none c.args.times.now c.requires.none))
