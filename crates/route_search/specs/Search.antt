-- What a search keeps between its calls.
use Rattle.std.specs.Prelude.{◌≡◌, ◌+◌, length}
use Rattle.tail_book.specs.Seen.{BookSeen}
use Rattle.tail_book.specs.Lookup.{activities}
use Rattle.maint_counters.specs.inside.StepTable.{IsStepTableOf}
use Rattle.route_search.specs.declared.search.RouteSearch.{RouteSearch}

-- the search is of the book: it has the book's steps, and room for each activity and for rows of its counters
pub record IsSearchOf (book : BookSeen) (search : RouteSearch) : Type 0 where
  pub steps : IsStepTableOf book search.steps
  pub added : length search.added.items ≡ activities book
  pub behind : length search.behind.items ≡ activities book
  pub row : length search.row.items ≡ 1 + length book.rules.counters
  pub nodes : length search.store.buckets ≡ activities book
  pub width : search.store.width ≡ 1 + length book.rules.counters
