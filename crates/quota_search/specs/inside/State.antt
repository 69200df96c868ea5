-- What a search under quotas keeps between two nodes. For src/state.rt.
use Rattle.std.specs.Prelude.{◌≡◌, List, All}
use Rattle.tail_book.specs.Seen.{BookSeen}
use Rattle.tail_book.specs.TableSeen.{CostTableSeen}
use Rattle.connection_net.specs.Net.{net_of}
use Rattle.branch_marks.specs.Settled.{AreDuals}
use Rattle.open_branches.specs.Branches.{AreBranchesOf}
use Rattle.node_leaves.specs.Target.{IsBest}
use Rattle.node_leaves.specs.inside.SearchRoutes.{AreSearchRoutes}
use Rattle.quota_rows.specs.Fees.{AreFees}
use Rattle.quota_rows.specs.declared.quota.Quota.{Quota}
use Rattle.quota_node.specs.QuotaNode.{KeepsWherePlanned}
use Rattle.quota_node.specs.inside.Tools.{AreQuotaToolsFor}
use Rattle.quota_search.specs.declared.state.Prices.{Prices}
use Rattle.quota_search.specs.declared.state.QuotaState.{QuotaState}

-- duals and fees in their boxes
pub record ArePrices (table : CostTableSeen) (book : BookSeen) (quotas : List Quota) (prices : Prices) : Type 0 where
  pub duals : AreDuals table book prices.duals.values
  pub fees : AreFees table quotas prices.fees.values

-- what is kept is of the book, the table and the quotas: its network, open branches, legal routes, duals and fees in their boxes, also those
-- of the branches behind, the best plan so far, which keeps the quotas, and tools
pub record IsStateFor (table : CostTableSeen) (book : BookSeen) (quotas : List Quota) (state : QuotaState) : Type 0 where
  pub net : state.net ≡ net_of book
  pub branches : AreBranchesOf book state.branches
  pub routes : AreSearchRoutes table book state.routes
  pub duals : AreDuals table book state.duals.values
  pub fees : AreFees table quotas state.fees.values
  pub behind : All (ArePrices table book quotas) state.behind.items
  pub best : IsBest table book state.best.plan state.best.target
  pub kept : KeepsWherePlanned book quotas state.best.plan
  pub tools : AreQuotaToolsFor book state.tools
