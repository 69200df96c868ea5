-- What is told of marks while dead connections are cut. For src/dead_links.rt and src/fixpoint.rt.
use Rattle.std.specs.Prelude.{ℕ, ◌≡◌, ◌<◌, List}
use Rattle.tail_book.specs.Seen.{BookSeen}
use Rattle.tail_book.specs.Lookup.{aircraft}
use Rattle.branch_marks.specs.declared.fact.Fact.{Fact}
use Rattle.branch_marks.specs.Floors.{floors}
use Rattle.branch_marks.specs.Following.{Follows}
use Rattle.floor_rows.specs.inside.FloorRow.{FloorRowSeen}
use Rattle.propagator.specs.inside.Rows.{floors_in}

-- the rows have the floors of all aircraft
abbrev pub AreFloorsOf : BookSeen → List Fact → List FloorRowSeen → Type 0
AreFloorsOf book marks rows = (k : ℕ) → k < aircraft book → floors_in rows k ≡ floors book marks k

-- what follows from the new marks followed from the old ones
abbrev pub NothingNewFollows : BookSeen → List Fact → List Fact → Type 0
NothingNewFollows book old new = (fact : Fact) → Follows book new fact → Follows book old fact
