-- What is told of shut marks: whether each activity has somebody who may fly it. For src/hole.rt and src/kept_rows.rt.
use Rattle.std.specs.Prelude.{ℕ, ◌<◌, List}
use Rattle.tail_book.specs.Seen.{BookSeen}
use Rattle.tail_book.specs.Lookup.{activities, aircraft}
use Rattle.branch_marks.specs.declared.fact.Fact.{Fact}
use Rattle.branch_marks.specs.Marks.{IsAlive}
use Rattle.propagator.specs.declared.hole.Closed.{Closed}
use Rattle.propagator.specs.declared.hole.Closed.TheVariants.{Fixed, Hole}

-- activity a is alive for some aircraft of the book
abbrev pub SomebodyFlies : BookSeen → List Fact → ℕ → Type 0
SomebodyFlies book marks a = (k : ℕ) × (k < aircraft book) × IsAlive book marks k a

-- fixed: each activity is alive for somebody; a hole: a is the least activity that is alive for nobody
abbrev pub IsClosedAt : BookSeen → List Fact → Closed → Type 0
IsClosedAt book marks Fixed = (a : ℕ) → a < activities book → SomebodyFlies book marks a
IsClosedAt book marks (Hole a) =
    (a < activities book) × (¬ SomebodyFlies book marks a) × ((b : ℕ) → b < a → SomebodyFlies book marks b)
