-- Marks of which closing names no hole have none, since it names somebody for each activity.
use Rattle.std.proofs.Common.{◌≡◌, ℕ, List, refl}
use Rattle.tail_book.specs.Seen.{BookSeen}
use Rattle.branch_marks.specs.declared.fact.Fact.{Fact}
use Rattle.propagator.specs.declared.hole.Closed.{Closed}
use Rattle.propagator.specs.declared.hole.Closed.TheVariants.{Fixed, Hole}
use Rattle.propagator.specs.Closed.{IsClosedAt}
use Rattle.dive_heuristic.specs.Dive.{HasNoHole}

module _ (book : BookSeen) (marks : List Fact) where
  pub untold_hole : (closed : Closed) → ((a : ℕ) → ¬ (closed ≡ Hole a)) → IsClosedAt book marks closed → HasNoHole book marks
  untold_hole Fixed other answer = λ a hole. let (k, lt, alive) = answer a hole.of_book in hole.nobody k lt alive
  untold_hole (Hole a) other answer = absurd (other a refl)
