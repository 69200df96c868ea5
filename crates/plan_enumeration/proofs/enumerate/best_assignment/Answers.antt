use Rattle.std.proofs.Common.{sym}
use Rattle.plan_enumeration.proofs.Extended.{costs_nothing}
use Rattle.plan_enumeration.proofs.enumerate.best_assignment.Goals as goal

pub assign_from-requires-clause-cost : goal.assign_from-requires-clause-cost
assign_from-requires-clause-cost c = sym (costs_nothing c.args.book.now)
