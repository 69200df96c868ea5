-- Who may fly: where there is no hole the least number at which an activity is alive is an aircraft of the book. If no
-- aircraft had been found, the activity would be alive for nobody, and that is a hole. Marks that closing left without
-- a hole have none, since closing then names somebody for each activity.
use Rattle.std.proofs.Common.{◌≡◌, ℕ, ◌<◌, ◌≤◌, inl, inr, true, false, arith, List, subst}
use Rattle.std.proofs.lemmas.Bool.{both_ways, cases_lt}
use Rattle.tail_book.specs.Seen.{BookSeen}
use Rattle.tail_book.specs.Lookup.{activities, aircraft}
use Rattle.branch_marks.specs.declared.fact.Fact.{Fact}
use Rattle.branch_marks.specs.Marks.{IsAlive}
use Rattle.branch_marks.specs.MarkTests.{is_alive}
use Rattle.branch_marks.specs.inside.MarkTests.{AliveDecides}
use Rattle.propagator.specs.declared.hole.Closed.{Closed}
use Rattle.propagator.specs.declared.hole.Closed.TheVariants.{Fixed}
use Rattle.propagator.specs.Closed.{IsClosedAt}
use Rattle.dive_heuristic.specs.Choice.{IsLeastAircraft}
use Rattle.dive_heuristic.specs.Dive.{HasNoHole}

pub least_alive : AliveDecides → (book : BookSeen) (marks : List Fact) (a k : ℕ) → a < activities book → HasNoHole book marks
    → ((j : ℕ) → 0 ≤ j → j < k → is_alive book marks j a ≡ false) → (k < aircraft book → is_alive book marks k a ≡ true)
    → IsLeastAircraft book (λ j. IsAlive book marks j a) k
least_alive tested book marks a k ha somebody none found =
    let dead = λ (j : ℕ) (lt : j < k) (alive : IsAlive book marks j a).
    both_ways (is_alive book marks j a) (none j (omega arith) lt) ((tested book marks j a).1 alive) in
    elim (cases_lt k (aircraft book)) [
      | inl lt ↦ record { of_book = lt; here = (tested book marks k a).0 (found lt); before = dead }
      | inr le ↦ absurd (somebody a (record { of_book = ha; nobody = λ j hj. dead j (omega (arith, hj, le)) }))
    ]

-- marks that are told to be fixed have no hole
pub fixed_has_no_hole : (book : BookSeen) (marks : List Fact) (closed : Closed) → closed ≡ Fixed → IsClosedAt book marks closed → HasNoHole book marks
fixed_has_no_hole book marks closed is answer = λ a hole.
    let (k, hk, alive) = (subst (λ (c : Closed). IsClosedAt book marks c) is answer) a hole.of_book in
    hole.nobody k hk alive
