use Rattle.std.proofs.Common.{◌∙◌, ap, sym}
use Rattle.tail_book.specs.TableSeen.{CostTableSeen}
use Rattle.route_search.proofs.step.connection_cost.Goals as goal

-- the bands are the table's, and none of them costs more than its maximum
pub returns : goal.returns
returns c = record {
  value = c.connection_cost.ensures.in_table c.args.table.now (sym (c.deref.ensures.value ∙ ap (λ (t : CostTableSeen). t.bands) c.table.view_is));
  most = c.connection_cost.ensures.most c.args.table.now.band_max (rw (c.deref.ensures.value, ← c.table.view_is) c.table.invariant.bands);
}
