use Rattle.std.proofs.Common.{◌≡◌, Some, length}
use Rattle.cert_checker.specs.LeastWeight.{least_weights}
use Rattle.cert_checker.specs.inside.LeafPricer.{IsLeafPricerOf}
use Rattle.cert_checker.proofs.leaf_pricer.LeafPricer.weights.Given as goal

-- the weights of the aircraft before k are found
abbrev pub invariant-loop-k : goal.invariant-loop-k
invariant-loop-k l = record {
  weights : least_weights l.book l.marks.facts l.duals.values l.k ≡ Some l.values.items;
  count : length l.values.items ≡ l.k;
  pricer : IsLeafPricerOf l.book l.self;
}
