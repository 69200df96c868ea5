-- Marks that closing left without a hole have none, since closing then names somebody for each activity; and marks of which
-- it told a hole have it.
use Rattle.std.proofs.Common.{◌≡◌, ℕ, List, refl}
use Rattle.tail_book.specs.Seen.{BookSeen}
use Rattle.branch_marks.specs.declared.fact.Fact.{Fact}
use Rattle.branch_marks.specs.DeadEnds.{IsHole}
use Rattle.propagator.specs.declared.hole.Closed.{Closed}
use Rattle.propagator.specs.declared.hole.Closed.TheVariants.{Fixed, Hole}
use Rattle.propagator.specs.Closed.{IsClosedAt}
use Rattle.dive_heuristic.specs.Dive.{HasNoHole}

-- marks that are told to be fixed have no hole
pub fixed_has_no_hole : (book : BookSeen) (marks : List Fact) → IsClosedAt book marks Fixed → HasNoHole book marks
fixed_has_no_hole book marks answer = λ a hole. let (k, hk, alive) = answer a hole.of_book in hole.nobody k hk alive

-- so have marks that are not told to have one
pub no_hole_unless : (book : BookSeen) (marks : List Fact) (closed : Closed) → ((a : ℕ) → ¬ (closed ≡ Hole a)) → IsClosedAt book marks closed → HasNoHole book marks
no_hole_unless book marks Fixed other answer = fixed_has_no_hole book marks answer
no_hole_unless book marks (Hole a) other answer = absurd (other a refl)

-- marks that are told to have a hole have it
pub hole_is : (book : BookSeen) (marks : List Fact) (a : ℕ) → IsClosedAt book marks (Hole a) → IsHole book marks a
hole_is book marks a answer = record { of_book = answer.0; nobody = λ k lt alive. answer.1 (k, lt, alive) }
