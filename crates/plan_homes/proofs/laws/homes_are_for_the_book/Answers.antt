use Rattle.plan_homes.proofs.HomeLemmas.{homes_for}
use Rattle.plan_homes.proofs.laws.homes_are_for_the_book.Goals as goal

pub returns : goal.returns
returns c = homes_for c.kept_plans_fly_once.ensures
