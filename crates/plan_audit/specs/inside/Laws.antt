-- Laws of the audit: what a kept plan is, and that no rule is broken exactly where it is legal and every name was good.
use Rattle.std.specs.Prelude.{ℕ, ◌≡◌, ◌<◌, ◌≤◌, ◌+◌, List, [], ◌∷◌, map, length, All}
use Rattle.tail_book.specs.Seen.{BookSeen, RawLineSeen, RawPlanSeen}
use Rattle.tail_book.specs.Lookup.{activities, aircraft, activity_of, tail_of}
use Rattle.tail_book.specs.Plan.{IsLegalPlan, times_flown}
use Rattle.tail_book.specs.inside.Sound.{IsBook}
use Rattle.tail_book.specs.Truth.{IsPlanOf}
use Rattle.plan_audit.specs.Met.{names_met}
use Rattle.plan_audit.specs.Kept.{kept, legs_met}
use Rattle.plan_audit.specs.inside.Kept.{IsLegOf}
use Rattle.plan_audit.specs.inside.LegCost.{legs_cost}
use Rattle.plan_audit.specs.Rules.{unknown, twice}
use Rattle.plan_audit.specs.Broken.{broken}

-- the legs of a kept plan are of the book
abbrev pub LegsAreOfBook : Type 0
LegsAreOfBook = (book : BookSeen) (raw : RawPlanSeen) → All (IsLegOf book) (legs_met (names_met book raw))

-- where no rule is broken, the kept plan is legal, and costs what its legs cost
abbrev pub UnbrokenPlansAreLegal : Type 0
UnbrokenPlansAreLegal = (book : BookSeen) → IsBook book → (raw : RawPlanSeen) → broken book raw ≡ []
    → IsPlanOf book (legs_cost book (legs_met (names_met book raw))) (kept book raw)

-- where the kept plan is legal, and no name was unknown or met twice, no rule is broken
abbrev pub LegalPlansAreUnbroken : Type 0
LegalPlansAreUnbroken = (book : BookSeen) (raw : RawPlanSeen) → IsLegalPlan book (kept book raw)
    → unknown (names_met book raw) ≡ [] → twice (names_met book raw) ≡ [] → broken book raw ≡ []

-- a route for each aircraft, all of the book's activities, and none of them flown twice
pub record FliesOnce (book : BookSeen) (plan : List (List ℕ)) : Type 0 where
  pub one_each : length plan ≡ aircraft book
  pub of_book : All (All (λ a. a < activities book)) plan
  pub once : (a : ℕ) → times_flown plan a ≤ 1

-- so it is with every kept plan, legal or not
abbrev pub KeptPlansFlyOnce : Type 0
KeptPlansFlyOnce = (book : BookSeen) (raw : RawPlanSeen) → FliesOnce book (kept book raw)

-- the lines of routes from aircraft k on, with each aircraft by its name and each activity by its id
abbrev pub lines_named : BookSeen → ℕ → List (List ℕ) → List RawLineSeen
lines_named book k [] = []
lines_named book k (route ∷ routes) =
    record { tail = (tail_of book k).name; ids = map (λ a. (activity_of book a).id) route } ∷ lines_named book (k + 1) routes

-- the plan spelled by these names
abbrev pub named : BookSeen → List (List ℕ) → RawPlanSeen
named book plan = record { lines = lines_named book 0 plan }

-- a plan with a route for each aircraft that flies nothing twice is kept as it is when it is spelled by names
abbrev pub NamedPlansAreKept : Type 0
NamedPlansAreKept = (book : BookSeen) → IsBook book → (plan : List (List ℕ)) → FliesOnce book plan → kept book (named book plan) ≡ plan
