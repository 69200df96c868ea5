-- What plans are looked for in: a book, with a table of its costs and its network.
use Rattle.std.specs.Prelude.{◌≡◌}
use Rattle.tail_book.specs.CostTable.{IsTableFor}
use Rattle.connection_net.specs.Net.{net_of}
use Rattle.plan_finder.specs.declared.problem.Problem.{Problem}

-- the table and the network are of the book
pub record IsProblem (problem : Problem) : Type 0 where
  pub table : IsTableFor problem.book.now problem.table.now
  pub net : problem.net.now ≡ net_of problem.book.now
