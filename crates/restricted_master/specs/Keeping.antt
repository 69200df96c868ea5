-- What dropping the routes that do not fit leaves: the others, in their order, each with its cost.
-- For src/dropped_routes.rt.
use Rattle.std.specs.Prelude.{◌≡◌, Bool, List, filter}
use Rattle.tail_book.specs.Seen.{BookSeen}
use Rattle.tail_book.specs.TableSeen.{CostTableSeen}
use Rattle.branch_marks.specs.declared.fact.Fact.{Fact}
use Rattle.branch_marks.specs.MarkTests.{fits}
use Rattle.branch_marks.specs.Pool.{Pooled}
use Rattle.restricted_master.specs.Seen.{PoolSeen}
use Rattle.restricted_master.specs.Pool.{IsPoolFor}

-- whether an entry's route fits the marks
abbrev pub fits_entry : BookSeen → List Fact → Pooled → Bool
fits_entry book marks entry = fits book marks entry.aircraft entry.route

-- the routes that fit stay, in their order, and each keeps its cost
pub record KeepsFitting (book : BookSeen) (marks : List Fact) (old new : PoolSeen) : Type 0 where
  pub routes : new.entries ≡ filter (fits_entry book marks) old.entries
  pub costs : (table : CostTableSeen) → IsPoolFor table book old → IsPoolFor table book new
