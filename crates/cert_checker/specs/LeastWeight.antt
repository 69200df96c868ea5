-- The least weights of aircraft, found among all lists of activities whose numbers rise; legal routes are some of these. So what
-- a lean leaf bounds by is a function of its marks and duals. For src/leaf_pricer.rt and src/laws.rt.
use Rattle.std.specs.Prelude.{ℕ, zero, suc, ℤ, ◌+◌, List, [], ◌∷◌, ◌++◌, Bool, ◌&&◌, Option, Some, None, option_map, option_and_then, if◌then◌else◌}
use Rattle.tail_book.specs.Seen.{BookSeen}
use Rattle.tail_book.specs.Lookup.{activities, aircraft}
use Rattle.tail_book.specs.Numbers.{int_le}
use Rattle.tail_book.specs.CostTable.{costs_of}
use Rattle.tail_book.specs.LegalTests.{is_legal_route}
use Rattle.tail_book.specs.inside.Sound.{IsBook}
use Rattle.branch_marks.specs.Bound.{lagrangian, rounded_up}
use Rattle.branch_marks.specs.DeadEnds.{IsStuck}
use Rattle.branch_marks.specs.MarkTests.{fits}
use Rattle.branch_marks.specs.Weights.{weight, IsLeastWeight}
use Rattle.branch_marks.specs.declared.fact.Fact.{Fact}

-- the lesser of two values, of which either may be absent
abbrev pub lesser : Option ℤ → Option ℤ → Option ℤ
lesser None other = other
lesser (Some one) None = Some one
lesser (Some one) (Some other) = Some (if int_le one other then one else other)

-- the least weight of the lists that pass a test, among all that have some of so many numbers from the first on, in rising order:
-- those without the first number, and those that begin with it
unfoldable pub lightest : ℕ → ℕ → (List ℕ → Bool) → (List ℕ → ℤ) → Option ℤ
lightest zero first test weigh = if test [] then Some (weigh []) else None
lightest (suc count) first test weigh =
    lesser (lightest count (first + 1) test weigh) (lightest count (first + 1) (λ rest. test (first ∷ rest)) (λ rest. weigh (first ∷ rest)))

-- the list is a legal route of aircraft k that fits the marks
abbrev pub is_fitting_route : BookSeen → List Fact → ℕ → List ℕ → Bool
is_fitting_route book marks k route = is_legal_route book k route && fits book marks k route

-- the least weight of aircraft k, and none where it is stuck
abbrev pub least_weight : BookSeen → List Fact → ℕ → List ℤ → Option ℤ
least_weight book marks k duals = lightest (activities book) 0 (is_fitting_route book marks k) (weight (costs_of book) book k duals)

-- the least weight of each aircraft below k, unless one of them is stuck
unfoldable pub least_weights : BookSeen → List Fact → List ℤ → ℕ → Option (List ℤ)
least_weights book marks duals zero = Some []
least_weights book marks duals (suc k) =
    option_and_then (λ values. option_map (λ value. values ++ value ∷ []) (least_weight book marks k duals)) (least_weights book marks duals k)

-- what a lean leaf bounds by: its duals and the least weights of all aircraft; nothing where one is stuck, since then no plan is left
abbrev pub lean_bound : BookSeen → List Fact → List ℤ → Option ℕ
lean_bound book marks duals = option_map (λ values. rounded_up (lagrangian duals values)) (least_weights book marks duals (aircraft book))

-- a value that was found is the least weight of aircraft k, and where none was found it is stuck
abbrev pub IsFoundWeight : BookSeen → List Fact → ℕ → List ℤ → Option ℤ → Type 0
IsFoundWeight book marks k duals None = IsStuck book marks k
IsFoundWeight book marks k duals (Some value) = IsLeastWeight (costs_of book) book marks k duals value

-- so least weights are found
abbrev pub LeastWeightsAreFound : Type 0
LeastWeightsAreFound = (book : BookSeen) → IsBook book → (marks : List Fact) (k : ℕ) (duals : List ℤ)
    → IsFoundWeight book marks k duals (least_weight book marks k duals)
