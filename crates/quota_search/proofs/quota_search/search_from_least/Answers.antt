use Rattle.std.proofs.Common.{rules}
use Rattle.quota_rows.specs.KeptPlans.{KeepsQuotas}
use Rattle.quota_search.proofs.Outcomes.{kept_least}
use Rattle.quota_search.proofs.quota_search.search_from_least.Goals as goal

-- it keeps the quotas, and no plan costs less
pub returns-then-keeps : goal.returns-then-keeps
returns-then-keeps c =
    let keeps : KeepsQuotas c.args.book.now c.args.quotas.now c.args.plan = search rules in
    record {
      truth = kept_least c.own_costs_keep_least_kept.ensures c.least_plans_are_least_kept.ensures c.args.table.now c.args.book.now c.args.quotas.now
          c.args.cost c.args.plan c.requires.table c.requires.plan c.requires.least keeps;
    }
