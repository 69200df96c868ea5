use Rattle.std.proofs.Common.{subst}
use Rattle.tail_book.specs.TableSeen.{CostTableSeen}
use Rattle.pricing.specs.inside.Prepared.{IsPricerOf}
use Rattle.plan_shortage.proofs.surplus_pricer.SurplusPricer.new.Goals as goal

-- each part is of the book, and the pricer of the table by which nothing costs anything
pub returns : goal.returns
returns c = record {
  table = c.in_ok-table.ensures.table;
  net = c.in_ok-net.ensures;
  marks = c.in_ok-marks.ensures.marks;
  facts = c.in_ok-marks.ensures.none;
  pricer = subst (λ (t : CostTableSeen). IsPricerOf c.args.book.now t c.in_ok-pricer.pricer) c.in_ok-table.ensures.table c.in_ok-pricer.ensures;
  nodes = c.in_ok-store.ensures.nodes;
  width = c.in_ok-store.ensures.width;
}
