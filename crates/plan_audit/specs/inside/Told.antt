-- What an audit tells of the kept plan: each line exactly where a route of it breaks that rule. For src/laws.rt.
use Rattle.std.specs.Prelude.{ℕ, ℤ, pos, ◌≡◌, ◌<◌, ◌<ℤ◌, ◌↔◌, true, false, List, [], ◌∷◌, ◌++◌, Contains, length, slice_index_or}
use Rattle.tail_book.specs.Seen.{BookSeen, RawPlanSeen}
use Rattle.tail_book.specs.Numbers.{contains}
use Rattle.tail_book.specs.Lookup.{activities}
use Rattle.tail_book.specs.declared.place.Place.TheVariants.{Carry}
use Rattle.tail_book.specs.Curfew.{is_curfewed}
use Rattle.tail_book.specs.Plan.{route_of}
use Rattle.tail_book.specs.inside.Route.{counters_after, place_after}
use Rattle.tail_book.specs.inside.Sound.{IsBook}
use Rattle.tail_book.specs.Allowed.{is_permitted}
use Rattle.tail_book.specs.Link.{is_connected}
use Rattle.maint_counters.specs.inside.StepTable.{counter_of}
use Rattle.plan_audit.specs.declared.broken.Broken.{Broken}
use Rattle.plan_audit.specs.declared.broken.Broken.TheVariants as rule
use Rattle.plan_audit.specs.Kept.{kept}
use Rattle.plan_audit.specs.Broken.{broken}

-- the audit of a plan has this line
abbrev pub IsTold : BookSeen → RawPlanSeen → Broken → Type 0
IsTold book raw line = Contains (broken book raw) line

-- no route of the plan has the activity
abbrev pub IsInNoRoute : List (List ℕ) → ℕ → Type 0
IsInNoRoute plan a = (k : ℕ) → contains (route_of plan k) a ≡ false

-- in the route of aircraft k the activity comes directly behind this front
abbrev pub ComesBehind : List (List ℕ) → ℕ → List ℕ → ℕ → Type 0
ComesBehind plan k front b = (rest : List ℕ) × (route_of plan k ≡ front ++ b ∷ rest)

-- in the route of aircraft k the activity stands
abbrev pub IsFlownBy : List (List ℕ) → ℕ → ℕ → Type 0
IsFlownBy plan k b = (front : List ℕ) × ComesBehind plan k front b

-- the book has a counter of number c, and its value is more than its limit
pub record IsPastLimit (book : BookSeen) (c : ℕ) (values : List ℤ) : Type 0 where
  pub of_book : c < length book.rules.counters
  pub past : (counter_of book c).limit <ℤ slice_index_or values c (pos 0)

-- an activity of the book is told as uncovered exactly where no kept route has it
abbrev pub UncoveredAreInNoRoute : Type 0
UncoveredAreInNoRoute = (book : BookSeen) (raw : RawPlanSeen) (a : ℕ)
    → IsTold book raw (rule.Uncovered a) ↔ ((a < activities book) × IsInNoRoute (kept book raw) a)

-- a leg is told as not allowed exactly where a kept route has an activity that its aircraft may not fly, curfews aside
abbrev pub NotAllowedAreNotPermitted : Type 0
NotAllowedAreNotPermitted = (book : BookSeen) (raw : RawPlanSeen) (k b : ℕ)
    → IsTold book raw (rule.NotAllowed k b) ↔ (IsFlownBy (kept book raw) k b × (is_permitted book k b ≡ false))

-- a curfew is told exactly where a kept route has an activity from which a curfew keeps its aircraft
abbrev pub CurfewsAreInTheWay : Type 0
CurfewsAreInTheWay = (book : BookSeen) (raw : RawPlanSeen) (k b : ℕ)
    → IsTold book raw (rule.Curfew k b) ↔ (IsFlownBy (kept book raw) k b × (is_curfewed book k b ≡ true))

-- a missing link is told exactly where a kept route, which begins at the carry-in, has an activity that does not connect to
-- the place at the end of the front before it
abbrev pub NoLinksAreNotConnected : Type 0
NoLinksAreNotConnected = (book : BookSeen) (raw : RawPlanSeen) (k b : ℕ)
    → IsTold book raw (rule.NoLink k b)
    ↔ ((front : List ℕ) × ComesBehind (kept book raw) k front b × (is_connected book k (place_after Carry front) b ≡ false))

-- a counter is told exactly where it is past its limit after a front of a kept route, counted along all of that front
-- whatever rules it breaks before
abbrev pub CountersArePastLimits : Type 0
CountersArePastLimits = (book : BookSeen) → IsBook book → (raw : RawPlanSeen) (k b c : ℕ)
    → IsTold book raw (rule.Counter k b c)
    ↔ ((front : List ℕ) × ComesBehind (kept book raw) k front b × IsPastLimit book c (counters_after book k (front ++ b ∷ [])))
