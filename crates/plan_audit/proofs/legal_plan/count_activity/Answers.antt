use Rattle.std.proofs.Common.{◌+◌, ap}
use Rattle.plan_audit.proofs.Deciding.{times-more}
use Rattle.plan_audit.proofs.legal_plan.count_activity.Goals as goal

-- one activity more
pub returns-then-a-times-clause-counts : goal.returns-then-a-times-clause-counts
returns-then-a-times-clause-counts c = λ flown are. times-more c.args.times.now flown c.args.a (c.min.result + 1) c.if-a-times.true (ap (λ m. m + 1) c.min.ensures) are
