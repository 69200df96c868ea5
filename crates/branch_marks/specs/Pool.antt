-- A pool of routes: the least weight in it, and the Lagrangian sum over it. For src/laws/settled_duals.rt.
use Rattle.std.specs.Prelude.{◌≡◌, ◌≢◌, ℕ, ℤ, pos, ◌≤ℤ◌, if◌then◌else◌, nat_eq, List, [], ◌∷◌, All, Any, map, Option, Some, None}
use Rattle.std.specs.Int.{int_min}
use Rattle.std.specs.List.{range_with_len}
use Rattle.std.specs.Option.{unwrap_or}
use Rattle.tail_book.specs.Seen.{BookSeen}
use Rattle.tail_book.specs.TableSeen.{CostTableSeen}
use Rattle.tail_book.specs.Lookup.{aircraft}
use Rattle.tail_book.specs.Route.{IsLegalRoute}
use Rattle.branch_marks.specs.declared.fact.Fact.{Fact}
use Rattle.branch_marks.specs.Marks.{Fits}
use Rattle.branch_marks.specs.Weights.{weight}
use Rattle.branch_marks.specs.Bound.{lagrangian}

-- a route in the pool, and the aircraft that it is kept for
pub record Pooled : Type 0 where
  pub aircraft : ℕ
  pub route : List ℕ

-- the weight, or a lesser one where there is another
abbrev pub least_with : ℤ → Option ℤ → ℤ
least_with value None = value
least_with value (Some other) = int_min value other

-- the least weight of the pool's routes of aircraft k, and none where the pool has no route of it
abbrev pub least_in : CostTableSeen → BookSeen → List ℤ → ℕ → List Pooled → Option ℤ
least_in table book duals k [] = None
least_in table book duals k (entry ∷ pool) =
    if nat_eq k entry.aircraft then Some (least_with (weight table book k duals entry.route) (least_in table book duals k pool))
    else least_in table book duals k pool

-- the least weights of all aircraft in the pool, 0 where it has no route of one
abbrev pub values_in : CostTableSeen → BookSeen → List ℤ → List Pooled → List ℤ
values_in table book duals pool = map (λ k. unwrap_or (least_in table book duals k pool) (pos 0)) (range_with_len 0 (aircraft book))

-- the sum of all duals and of all least weights in the pool
abbrev pub sum_in : CostTableSeen → BookSeen → List ℤ → List Pooled → ℤ
sum_in table book duals pool = lagrangian duals (values_in table book duals pool)

-- what a least weight in the pool is: none where no route is of aircraft k, and otherwise one that a route of k has and none undercuts
abbrev pub IsLeastIn : CostTableSeen → BookSeen → List ℤ → ℕ → List Pooled → Option ℤ → Type 0
IsLeastIn table book duals k pool None = All (λ (entry : Pooled). entry.aircraft ≢ k) pool
IsLeastIn table book duals k pool (Some value) =
    All (λ (entry : Pooled). entry.aircraft ≡ k → value ≤ℤ weight table book k duals entry.route) pool
    × Any (λ (entry : Pooled). (entry.aircraft ≡ k) × (weight table book k duals entry.route ≡ value)) pool

-- it is that one
abbrev pub LeastInIsLeast : Type 0
LeastInIsLeast = (table : CostTableSeen) (book : BookSeen) (duals : List ℤ) (k : ℕ) (pool : List Pooled)
    → IsLeastIn table book duals k pool (least_in table book duals k pool)

-- the route is legal for its aircraft and fits the marks
pub record IsFittingEntry (book : BookSeen) (marks : List Fact) (entry : Pooled) : Type 0 where
  pub legal : IsLegalRoute book entry.aircraft entry.route
  pub fits : Fits book marks entry.aircraft entry.route
