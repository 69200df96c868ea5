-- How often routes fly an activity, where they need be no plan: not at all, once, or more often.
use Rattle.std.specs.Prelude.{ℕ, zero, suc, ◌+◌, ◌<◌, ◌≡◌, ◌≢◌, ◌↔◌, ◌==◌, Bool, true, false, not, List, [], ◌∷◌, ◌++◌, All, length, Option, None, Some, find, count_by, nat_eq}
use Rattle.std.specs.List.{range_with_len}
use Rattle.std.specs.Bool.{Decides}
use Rattle.tail_book.specs.declared.flown.Flown.{Flown}
use Rattle.tail_book.specs.declared.flown.Flown.TheVariants.{Never, Once, More}
use Rattle.tail_book.specs.declared.place.Place.TheVariants.{Carry}
use Rattle.tail_book.specs.Numbers.{contains}
use Rattle.tail_book.specs.Plan.{times_flown, route_of}
use Rattle.tail_book.specs.inside.Rising.{IsRisingFrom}

-- a count as none, one or more
abbrev pub flown_of_count : ℕ → Flown
flown_of_count zero = Never
flown_of_count (suc zero) = Once
flown_of_count (suc (suc n)) = More

-- how often the routes fly the activity, all together
abbrev pub flown_by : List (List ℕ) → ℕ → Flown
flown_by routes a = flown_of_count (times_flown routes a)

-- the counts that are called so
abbrev pub IsCount : Flown → ℕ → Type 0
IsCount Never n = n ≡ 0
IsCount Once n = n ≡ 1
IsCount More n = 1 < n

-- a count is called so exactly where it is one of these
abbrev pub FlownIsCount : Type 0
FlownIsCount = (n : ℕ) (flown : Flown) → (flown_of_count n ≡ flown) ↔ IsCount flown n

-- one time more
abbrev pub flown_one_more : Flown → Flown
flown_one_more Never = Once
flown_one_more Once = More
flown_one_more More = More

-- that is what a count becomes
abbrev pub FlownWithOneMore : Type 0
FlownWithOneMore = (n : ℕ) → flown_of_count (n + 1) ≡ flown_one_more (flown_of_count n)

-- a route more adds how often it has the activity
abbrev pub TimesWithOneMoreRoute : Type 0
TimesWithOneMoreRoute = (routes : List (List ℕ)) (route : List ℕ) (a : ℕ)
    → times_flown (routes ++ route ∷ []) a ≡ times_flown routes a + count_by (nat_eq a) route

-- the activity is flown exactly once
abbrev pub is_flown_once : List (List ℕ) → ℕ → Bool
is_flown_once routes a = times_flown routes a == 1

-- the test is true exactly where it is
abbrev pub FlownOnceDecides : Type 0
FlownOnceDecides = (routes : List (List ℕ)) (a : ℕ) → Decides (is_flown_once routes a) (flown_by routes a ≡ Once)

-- what is never flown stands in no route
abbrev pub NeverFlownIsNowhere : Type 0
NeverFlownIsNowhere = (routes : List (List ℕ)) (a : ℕ) → (flown_by routes a ≡ Never) ↔ ((k : ℕ) → contains (route_of routes k) a ≡ false)

-- the activity stands in exactly one of the routes
abbrev pub IsInOneRoute : List (List ℕ) → ℕ → Type 0
IsInOneRoute routes a =
    (k : ℕ) × (k < length routes) × (contains (route_of routes k) a ≡ true) × ((j : ℕ) → contains (route_of routes j) a ≡ true → j ≡ k)

-- where routes rise, what is flown once is what stands in exactly one of them
abbrev pub FlownOnceIsInOneRoute : Type 0
FlownOnceIsInOneRoute = (n : ℕ) (routes : List (List ℕ)) → All (IsRisingFrom n Carry) routes → (a : ℕ) → (flown_by routes a ≡ Once) ↔ IsInOneRoute routes a

-- the least activity below n that is not flown exactly once
abbrev pub least_not_once : List (List ℕ) → ℕ → Option ℕ
least_not_once routes n = find (λ a. not (is_flown_once routes a)) (range_with_len 0 n)

-- each activity below n is flown once; or this one is not, and each before it is
abbrev pub IsLeastNotOnce : List (List ℕ) → ℕ → Option ℕ → Type 0
IsLeastNotOnce routes n None = (a : ℕ) → a < n → times_flown routes a ≡ 1
IsLeastNotOnce routes n (Some a) = (a < n) × (times_flown routes a ≢ 1) × ((b : ℕ) → b < a → times_flown routes b ≡ 1)

-- it is that one
abbrev pub LeastNotOnceIsLeast : Type 0
LeastNotOnceIsLeast = (routes : List (List ℕ)) (n : ℕ) → IsLeastNotOnce routes n (least_not_once routes n)
