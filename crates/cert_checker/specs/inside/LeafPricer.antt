-- What prices the lean leaves of a book. For src/leaf_pricer.rt.
use Rattle.std.specs.Prelude.{◌≡◌, ◌+◌, length}
use Rattle.tail_book.specs.Seen.{BookSeen}
use Rattle.tail_book.specs.Lookup.{activities}
use Rattle.tail_book.specs.CostTable.{costs_of}
use Rattle.pricing.specs.inside.Prepared.{IsPricerOf}
use Rattle.cert_checker.specs.declared.leaf_pricer.LeafPricer.{LeafPricer}

-- it was made for the book and its own costs, and its store has room for the labels
pub record IsLeafPricerOf (book : BookSeen) (prices : LeafPricer) : Type 0 where
  pub pricer : IsPricerOf book (costs_of book) prices.pricer
  pub nodes : length prices.store.buckets ≡ activities book
  pub width : prices.store.width ≡ 1 + length book.rules.counters
