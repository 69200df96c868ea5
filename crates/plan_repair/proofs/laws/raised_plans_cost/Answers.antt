use Rattle.plan_repair.proofs.RaisedCosts.{raised_plans}
use Rattle.plan_repair.proofs.laws.raised_plans_cost.Goals as goal

pub returns : goal.returns
returns c = raised_plans c.legal_plans_fly_the_book.ensures
