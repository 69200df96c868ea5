-- The least weight in a pool is the least of its routes' weights, and there is one where there was one under other duals.
use Rattle.std.proofs.Common.{◌≡◌, ◌≢◌, ℕ, suc, ℤ, ◌≤ℤ◌, inl, inr, Bool, true, false, arith, List, [], ◌∷◌, refl, sym, subst, Option, Some, None, if◌then◌else◌}
use Rattle.std.proofs.lemmas.Int.{ints, clamps}
use Rattle.std.proofs.lemmas.Bool.{eqb-true, eq-eqb, both_ways}
use Rattle.std.proofs.lemmas.List.Elements.{All-nil, All-cons, All-weaker}
use Rattle.std.specs.Prelude.{Any, nat_eq, int_lt}
use Rattle.std.specs.Int.{int_min}
use Rattle.tail_book.specs.Seen.{BookSeen}
use Rattle.tail_book.specs.TableSeen.{CostTableSeen}
use Rattle.tail_book.proofs.Picked.{picked}
use Rattle.branch_marks.specs.Weights.{weight}
use Rattle.branch_marks.specs.Pool.{Pooled, least_with, least_in, IsLeastIn}

any_first : {X : Type 0} (P : X → Type 0) (x : X) (xs : List X) → P x → Any P (x ∷ xs)
any_first P x xs h = (0, x, omega arith, refl, h)

any_later : {X : Type 0} (P : X → Type 0) (x : X) (xs : List X) → Any P xs → Any P (x ∷ xs)
any_later P x xs a = let (i, y, lt, at, h) = a in (suc i, y, omega (arith, lt), at, h)

min_below_first : (x y : ℤ) → int_min x y ≤ℤ x
min_below_first x y = omega (arith, ints, clamps)

min_below_second : (x y z : ℤ) → y ≤ℤ z → int_min x y ≤ℤ z
min_below_second x y z h = omega (arith, ints, clamps, h)

module _ (table : CostTableSeen) (book : BookSeen) (duals : List ℤ) (k : ℕ) where
  -- an entry of aircraft k at least as heavy as this; an entry of it of this weight
  abbrev IsAbove : ℤ → Pooled → Type 0
  IsAbove value entry = entry.aircraft ≡ k → value ≤ℤ weight table book k duals entry.route

  abbrev HasWeight : ℤ → Pooled → Type 0
  HasWeight value entry = (entry.aircraft ≡ k) × (weight table book k duals entry.route ≡ value)

  module _ (entry : Pooled) (pool : List Pooled) where
    -- the least with an entry of aircraft k more
    of_aircraft : (least : Option ℤ) → entry.aircraft ≡ k → IsLeastIn table book duals k pool least
        → IsLeastIn table book duals k (entry ∷ pool) (Some (least_with (weight table book k duals entry.route) least))
    of_aircraft None same h = (
      All-cons (IsAbove (weight table book k duals entry.route)) entry pool (λ e. omega (arith, ints))
          (All-weaker (λ (other : Pooled). other.aircraft ≢ k) (IsAbove (weight table book k duals entry.route)) (λ other ne e. absurd (ne e)) pool h),
      any_first (HasWeight (weight table book k duals entry.route)) entry pool (same, refl),
    )
    of_aircraft (Some value) same h = (
      All-cons (IsAbove least) entry pool (λ e. min_below_first here value)
          (All-weaker (IsAbove value) (IsAbove least) (λ other above e. min_below_second here value (weight table book k duals other.route) (above e)) pool h.0),
      elim (picked (int_lt value here) here value) [
        | inl e ↦ any_first (HasWeight least) entry pool (same, sym e)
        | inr e ↦ any_later (HasWeight least) entry pool (subst (λ (v : ℤ). Any (HasWeight v) pool) (sym e) h.1)
      ],
    )
      where
        here : ℤ
        here = weight table book k duals entry.route

        least : ℤ
        least = int_min (weight table book k duals entry.route) value

    -- the least with an entry of another aircraft
    of_another : (least : Option ℤ) → entry.aircraft ≢ k → IsLeastIn table book duals k pool least → IsLeastIn table book duals k (entry ∷ pool) least
    of_another None ne h = All-cons (λ (other : Pooled). other.aircraft ≢ k) entry pool ne h
    of_another (Some value) ne h = (All-cons (IsAbove value) entry pool (λ e. absurd (ne e)) h.0, any_later (HasWeight value) entry pool h.1)

    of_either : (b : Bool) (least : Option ℤ) → (b ≡ true → entry.aircraft ≡ k) → (b ≡ false → entry.aircraft ≢ k) → IsLeastIn table book duals k pool least
        → IsLeastIn table book duals k (entry ∷ pool) (if b then Some (least_with (weight table book k duals entry.route) least) else least)
    of_either true least same other h = of_aircraft least (same refl) h
    of_either false least same other h = of_another least (other refl) h

  pub least_in_is_least : (pool : List Pooled) → IsLeastIn table book duals k pool (least_in table book duals k pool)
  least_in_is_least [] = All-nil (λ (entry : Pooled). entry.aircraft ≢ k)
  least_in_is_least (entry ∷ pool) =
      of_either entry pool (nat_eq k entry.aircraft) (least_in table book duals k pool)
      (λ t. sym (eqb-true k entry.aircraft t)) (λ f e. both_ways (nat_eq k entry.aircraft) f (eq-eqb k entry.aircraft (sym e))) (least_in_is_least pool)
