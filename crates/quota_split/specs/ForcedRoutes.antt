-- Marks that leave each aircraft its route of a plan alone. For src/laws.rt.
use Rattle.std.specs.Prelude.{◌≡◌, ℕ, ◌<◌, List, true, Contains}
use Rattle.tail_book.specs.Seen.{BookSeen}
use Rattle.tail_book.specs.Lookup.{aircraft}
use Rattle.tail_book.specs.Numbers.{contains}
use Rattle.tail_book.specs.Plan.{IsLegalPlan, route_of}
use Rattle.tail_book.specs.Route.{IsLegalRoute}
use Rattle.tail_book.specs.inside.Sound.{IsBook}
use Rattle.branch_marks.specs.declared.fact.Fact.{Fact}
use Rattle.branch_marks.specs.declared.fact.Fact.TheVariants.{Must}
use Rattle.branch_marks.specs.Marks.{Fits}

-- each aircraft has a Must for each activity of its route
abbrev pub AreForced : BookSeen → List Fact → List (List ℕ) → Type 0
AreForced book marks routes = (k a : ℕ) → k < aircraft book → contains (route_of routes k) a ≡ true → Contains marks (Must k a)

-- where that is so of a legal plan, no other legal routes fit
abbrev pub ForcedRoutesAreAll : Type 0
ForcedRoutesAreAll = (book : BookSeen) → IsBook book → (marks : List Fact) (plan : List (List ℕ)) → IsLegalPlan book plan → AreForced book marks plan
    → (k : ℕ) → k < aircraft book → (route : List ℕ) → IsLegalRoute book k route → Fits book marks k route → route ≡ route_of plan k
