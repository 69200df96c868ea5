use Rattle.std.proofs.Common.{sym, subst}
use Rattle.tail_book.specs.TableSeen.{CostTableSeen}
use Rattle.tail_book.specs.CostTable.{IsTableFor}
use Rattle.quota_search.proofs.Outcomes.{least_plan, no_plan}
use Rattle.quota_search.proofs.tree.outcome_of.Goals as goal

-- the best plan is a least one
pub returns-in-Some : goal.returns-in-Some
returns-in-Some c = record {
  truth = least_plan c.args.table.now c.args.book.now c.args.quotas.now c.args.best.target c.requires.closed c.own_costs_keep_least_kept.ensures c.roots_end.ensures
      c.requires.table c.args.best.plan c.in-Some.plan c.in-Some.is c.requires.best c.requires.kept;
}

-- without one, no plan is kept
pub returns-in-None : goal.returns-in-None
returns-in-None c = record {
  truth = no_plan c.args.table.now c.args.book.now c.args.quotas.now c.args.best.target c.requires.closed c.empty_roots_end.ensures
      c.every_book_is_sound.ensures c.every_cost_table_is_sound.ensures
      (subst (λ (t : CostTableSeen). IsTableFor c.args.book.now t) (sym c.requires.table) (c.own_costs_are_for_book.ensures c.args.book.now))
      c.args.best.plan c.in-None.is c.requires.best;
}
