-- What seeks routes is made for a book. For src/route_seeker.rt, src/filling.rt and src/exchanging.rt.
use Rattle.std.specs.Prelude.{◌≡◌}
use Rattle.tail_book.specs.Seen.{BookSeen}
use Rattle.tail_book.specs.CostTable.{IsTableFor}
use Rattle.connection_net.specs.Net.{net_of}
use Rattle.branch_marks.specs.inside.MarkTables.{AreMarksOf}
use Rattle.route_search.specs.Search.{IsSearchOf}
use Rattle.fullest_plan.specs.declared.route_seeker.RouteSeeker.{RouteSeeker}

-- it has a table for the book, and the book's network, marks and steps
pub record IsSeekerOf (book : BookSeen) (seeker : RouteSeeker) : Type 0 where
  pub table : IsTableFor book seeker.table
  pub net : seeker.net ≡ net_of book
  pub marks : AreMarksOf book seeker.marks
  pub search : IsSearchOf book seeker.search
