use Rattle.std.proofs.Common.{rules}
use Rattle.std.specs.Prelude.{◌<ℤ◌}
use Rattle.tail_book.specs.Sums.{total}
use Rattle.plan_shortage.specs.Shortage.{due}
use Rattle.plan_shortage.proofs.MostLemmas.{none_is_short}
use Rattle.plan_shortage.proofs.surplus_pricer.SurplusPricer.shortage.Goals as goal

-- the mosts that are found are not less than what is due, and no others can be
pub returns-else-is_short-clause-none : goal.returns-else-is_short-clause-none
returns-else-is_short-clause-none c =
    let enough : ¬ (total c.in_ok-mosts.mosts.items <ℤ due c.args.asked.now c.args.brought.now) = search rules in
    none_is_short c.mosts_come_to_one.ensures c.args.book.now c.args.asked.now c.args.brought.now c.in_ok-mosts.mosts.items c.in_ok-mosts.ensures.mosts enough
