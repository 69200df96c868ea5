-- Lists of routes of which those of the first aircraft are of least weight: a route more, and a route in another's
-- place. Either leaves the routes of all other aircraft as they are, so what holds of those before goes on to hold, and
-- only the new route is looked at. And since legal routes rise and stay below the number of activities, all their
-- numbers are of the book.
use Rattle.std.proofs.Common.{◌≡◌, ◌∙◌, ℕ, ℤ, ◌<◌, ◌+◌, inl, inr, arith, List, [], ◌∷◌, ◌++◌, length, sym, subst, set, length-set}
use Rattle.std.proofs.lemmas.Bool.{cases_order}
use Rattle.std.proofs.lemmas.List.{get_or_append_left, get_or_push, get_or-set_same, get_or-set_other, get_or_default}
use Rattle.std.specs.Prelude.{All}
use Rattle.tail_book.specs.Seen.{BookSeen}
use Rattle.tail_book.specs.TableSeen.{CostTableSeen}
use Rattle.tail_book.specs.declared.place.Place.TheVariants.{Carry}
use Rattle.tail_book.specs.Lookup.{activities, aircraft}
use Rattle.tail_book.specs.Plan.{route_of}
use Rattle.tail_book.specs.Route.{IsLegalRoute}
use Rattle.tail_book.specs.inside.Rising.{LegalRoutesRise}
use Rattle.tail_book.specs.inside.RouteBounds.{RisingRoutesAreBelow}
use Rattle.tail_book.specs.inside.Sound.{IsBook}
use Rattle.branch_marks.specs.declared.fact.Fact.{Fact}
use Rattle.dive_heuristic.specs.LeastRoutes.{IsLeastRoute}
use Rattle.dive_heuristic.specs.inside.Kept.{IsLowRoute, AreLowRoutes}

-- a number below k + 1 is k or below k
pub at_or_below : (P : ℕ → Type 0) (k : ℕ) → P k → ((j : ℕ) → j < k → P j) → (j : ℕ) → j < k + 1 → P j
at_or_below P k here below j lt = elim (cases_order j k) [
  | inl same ↦ subst P (sym same) here
  | inr o ↦ elim o [
    | inl less ↦ below j less
    | inr more ↦ absurd (omega (arith, lt, more))
  ]
]

module _ (table : CostTableSeen) (book : BookSeen) (marks : List Fact) (duals : List ℤ) where
  -- the routes of the aircraft below k are of least weight
  abbrev pub AreLeastBelow : List (List ℕ) → ℕ → Type 0
  AreLeastBelow routes k = (j : ℕ) → j < k → IsLeastRoute table book marks j duals (route_of routes j)

  pub none_below : (routes : List (List ℕ)) → AreLeastBelow routes 0
  none_below routes j lt = absurd (omega (arith, lt))

  pub pushed_below : (routes : List (List ℕ)) (k : ℕ) (route : List ℕ) → length routes ≡ k → AreLeastBelow routes k
      → IsLeastRoute table book marks k duals route → AreLeastBelow (routes ++ route ∷ []) (k + 1)
  pushed_below routes k route count below here =
      at_or_below (λ j. IsLeastRoute table book marks j duals (route_of (routes ++ route ∷ []) j)) k
      (subst (λ (r : List ℕ). IsLeastRoute table book marks k duals r) (sym (get_or_push routes route [] k count)) here)
      (λ j lt. subst (λ (r : List ℕ). IsLeastRoute table book marks j duals r)
      (sym (get_or_append_left routes (route ∷ []) [] j (omega (arith, lt, count)))) (below j lt))

  pub set_below : (routes : List (List ℕ)) (k : ℕ) (route : List ℕ) → k < length routes → AreLeastBelow routes k
      → IsLeastRoute table book marks k duals route → AreLeastBelow (set routes k route) (k + 1)
  set_below routes k route lt below here =
      at_or_below (λ j. IsLeastRoute table book marks j duals (route_of (set routes k route) j)) k
      (subst (λ (r : List ℕ). IsLeastRoute table book marks k duals r) (sym (get_or-set_same routes k route [] lt)) here)
      (λ j less. subst (λ (r : List ℕ). IsLeastRoute table book marks j duals r)
      (sym (get_or-set_other routes k j route [] (λ e. absurd (omega (arith, e, less))))) (below j less))

  pub low_of_least : (k : ℕ) (route : List ℕ) → IsLeastRoute table book marks k duals route → IsLowRoute table book marks k duals route
  low_of_least k route least = record { legal = least.legal; least = least.least }

  pub set_low : (routes : List (List ℕ)) (k : ℕ) (route : List ℕ) → k < aircraft book → AreLowRoutes table book marks duals routes
      → IsLeastRoute table book marks k duals route → AreLowRoutes table book marks duals (set routes k route)
  set_low routes k route lt low here = record {
    one_each = length-set routes k route ∙ low.one_each;
    each = λ j hj. elim (cases_order j k) [
      | inl same ↦ subst (λ (i : ℕ). IsLowRoute table book marks i duals (route_of (set routes k route) i)) (sym same)
          (subst (λ (r : List ℕ). IsLowRoute table book marks k duals r) (sym (get_or-set_same routes k route [] (omega (arith, lt, low.one_each))))
          (low_of_least k route here))
      | inr o ↦ (let other : route_of (set routes k route) j ≡ route_of routes j = get_or-set_other routes k j route [] (elim o [
        | inl less ↦ (λ e. absurd (omega (arith, e, less)))
        | inr more ↦ (λ e. absurd (omega (arith, e, more)))
      ]) in
          subst (λ (r : List ℕ). IsLowRoute table book marks j duals r) (sym other) (low.each j hj))
    ];
  }

-- the numbers in legal routes are of the book
pub legal_of_book : LegalRoutesRise → RisingRoutesAreBelow → (book : BookSeen) → IsBook book → (routes : List (List ℕ)) → length routes ≡ aircraft book
    → ((k : ℕ) → k < aircraft book → IsLegalRoute book k (route_of routes k)) → All (All (λ a. a < activities book)) routes
legal_of_book rise below book sound routes count legal k d lt =
    let hk : k < aircraft book = omega (arith, lt, count) in
    subst (λ (r : List ℕ). All (λ a. a < activities book) r) (get_or_default routes k [] d lt)
    (below (activities book) Carry (route_of routes k) (rise book sound k (route_of routes k) (legal k hk)))
