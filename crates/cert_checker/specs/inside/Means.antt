-- What judging reads of a book: the tables that its costs, its counters and its network give.
use Rattle.std.specs.Prelude.{◌≡◌}
use Rattle.tail_book.specs.Seen.{BookSeen}
use Rattle.tail_book.specs.CostTable.{costs_of}
use Rattle.maint_counters.specs.inside.StepTable.{IsStepTableOf}
use Rattle.connection_net.specs.Net.{net_of}
use Rattle.cert_checker.specs.declared.means.Means.{Means}

-- these are the book's own costs, the steps of its counters, and its network
pub record AreMeansOf (book : BookSeen) (means : Means) : Type 0 where
  pub costs : means.costs ≡ costs_of book
  pub steps : IsStepTableOf book means.steps
  pub net : means.net ≡ net_of book
