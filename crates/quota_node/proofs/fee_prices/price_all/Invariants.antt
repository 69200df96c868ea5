use Rattle.quota_node.specs.inside.FeePrices.{AreFirstPriced}
use Rattle.quota_node.specs.inside.Tools.{AreQuotaToolsFor}
use Rattle.quota_node.proofs.fee_prices.price_all.Given as goal

-- the aircraft before k are priced
abbrev pub invariant-loop-k : goal.invariant-loop-k
invariant-loop-k l = record {
  priced : AreFirstPriced l.table l.book l.quotas l.marks.facts l.duals.values l.fees.values l.k l.values.items l.routes.items;
  tools : AreQuotaToolsFor l.book l.tools;
}
