-- Pools of legal routes, and the pool of a node. For src/suggestions.rt.
use Rattle.std.specs.Prelude.{List, All}
use Rattle.tail_book.specs.Seen.{BookSeen}
use Rattle.tail_book.specs.TableSeen.{CostTableSeen}
use Rattle.branch_marks.specs.declared.fact.Fact.{Fact}
use Rattle.tail_book.specs.Route.{IsLegalRoute}
use Rattle.branch_marks.specs.Pool.{IsFittingEntry, Pooled}
use Rattle.restricted_master.specs.Pool.{IsPoolFor}
use Rattle.restricted_master.specs.Seen.{PoolSeen}

-- a pool of the book, each route of which is legal for its aircraft
pub record IsLegalPool (table : CostTableSeen) (book : BookSeen) (pool : PoolSeen) : Type 0 where
  pub of_book : IsPoolFor table book pool
  pub legal : All (λ (entry : Pooled). IsLegalRoute book entry.aircraft entry.route) pool.entries

-- and fits the marks besides
pub record IsFittingPool (table : CostTableSeen) (book : BookSeen) (marks : List Fact) (pool : PoolSeen) : Type 0 where
  pub of_book : IsPoolFor table book pool
  pub fitting : All (IsFittingEntry book marks) pool.entries
