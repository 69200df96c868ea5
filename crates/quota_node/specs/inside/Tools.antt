-- What a search under quotas keeps from node to node. For src/tools.rt.
use Rattle.std.specs.Prelude.{◌≡◌, length}
use Rattle.tail_book.specs.Seen.{BookSeen}
use Rattle.tail_book.specs.Lookup.{activities}
use Rattle.propagator.specs.Keeping.{IsMadeFor}
use Rattle.dive_heuristic.specs.Divers.{IsStoreOf}
use Rattle.fee_pricing.specs.inside.Prepared.{IsFeePricerOf}
use Rattle.route_search.specs.Search.{IsSearchOf}
use Rattle.quota_node.specs.declared.tools.QuotaTools.{QuotaTools}

-- the tools were made for the book: a pricer with fees with room for labels, a propagator, a tally, and a search
pub record AreQuotaToolsFor (book : BookSeen) (tools : QuotaTools) : Type 0 where
  pub pricer : IsFeePricerOf book tools.pricer
  pub store : IsStoreOf book tools.store
  pub propagator : IsMadeFor book tools.propagator
  pub tally : length tools.tally.items ≡ activities book
  pub search : IsSearchOf book tools.search
