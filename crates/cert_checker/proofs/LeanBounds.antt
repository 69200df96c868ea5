-- What a lean leaf bounds by. The least weights of all aircraft, where none is stuck, are low weights, so covers with these values
-- show the bound; where one is stuck, some family shows that. And no cover that is shown has a value above the least weight, so no
-- covers bound by more.
use Rattle.std.specs.Prelude.{IfSome, option_map, option_and_then}
use Rattle.std.proofs.Common.{◌≡◌, ◌∙◌, ◌<◌, ◌≤◌, ◌≤ℤ◌, ℕ, zero, suc, ℤ, pos, inl, inr, arith, List, [], ◌∷◌, ◌++◌, Option, Some, None, length, get_or, map, refl, sym, ap, subst}
use Rattle.std.proofs.Math.Seq.{get_or-append_seam}
use Rattle.std.proofs.lemmas.Bool.{cases_order}
use Rattle.std.proofs.lemmas.Int.{ints}
use Rattle.std.proofs.lemmas.List.{get_or_append_left, length-map, length_push}
use Rattle.tail_book.specs.Lookup.{aircraft}
use Rattle.tail_book.specs.Seen.{BookSeen}
use Rattle.tail_book.specs.CostTable.{costs_of}
use Rattle.tail_book.specs.Sums.{total}
use Rattle.tail_book.specs.inside.Sound.{IsBook}
use Rattle.branch_marks.specs.Bound.{RoundedUpIsLeast, lagrangian, rounded_up, value_of}
use Rattle.branch_marks.specs.Branches.{first_branch, second_branch}
use Rattle.branch_marks.specs.DeadEnds.{IsStuck}
use Rattle.branch_marks.specs.Families.{ClosedFamiliesBound}
use Rattle.branch_marks.specs.ProofTree.{BoundsAtLeast, Cover, IsShown, IsShownBound, Tree, cover_of, leaf_bound}
use Rattle.branch_marks.specs.ProofTree as whole
use Rattle.branch_marks.specs.Settled.{AreDuals}
use Rattle.branch_marks.specs.Weights.{IsLeastWeight}
use Rattle.branch_marks.specs.declared.fact.Fact.{Fact}
use Rattle.branch_marks.specs.inside.WholeFamilies.{LowBoundsAreShown, StuckIsShown}
use Rattle.cert_checker.specs.LeanTree.{BoundsIn, IsShownIn, LeanTree, Lean, Split, Step, Told, lean_of}
use Rattle.cert_checker.specs.LeastWeight.{IsFoundWeight, LeastWeightsAreFound, least_weight, least_weights}

-- the weights so far, with one more or none
module _ (book : BookSeen) (marks : List Fact) (duals : List ℤ) where
  abbrev with_weight : Option (List ℤ) → Option ℤ → Option (List ℤ)
  with_weight before at = option_and_then (λ (values : List ℤ). option_map (λ value. values ++ value ∷ []) at) before

  pub no_weights : least_weights book marks duals 0 ≡ Some []
  unfolding least_weights
  no_weights = refl

  pub weights_on : (k : ℕ) → least_weights book marks duals (suc k) ≡ with_weight (least_weights book marks duals k) (least_weight book marks k duals)
  unfolding least_weights
  weights_on k = refl

  pub one_weight_more : (k next : ℕ) (values : List ℤ) (value : ℤ) → next ≡ suc k → least_weights book marks duals k ≡ Some values → least_weight book marks k duals ≡ Some value
      → least_weights book marks duals next ≡ Some (values ++ value ∷ [])
  one_weight_more k next values value is before here =
      ap (least_weights book marks duals) is ∙ weights_on k ∙ ap (λ (before : Option (List ℤ)). with_weight before (least_weight book marks k duals)) before
      ∙ ap (λ (at : Option ℤ). with_weight (Some values) at) here

  none_here : (k : ℕ) → least_weight book marks k duals ≡ None → least_weights book marks duals (suc k) ≡ None
  none_here k e = weights_on k ∙ ap (λ (at : Option ℤ). with_weight (least_weights book marks duals k) at) e ∙ by_before (least_weights book marks duals k)
    where
      by_before : (before : Option (List ℤ)) → with_weight before None ≡ None
      by_before None = refl
      by_before (Some values) = refl

  none_stays : (k n : ℕ) → k ≤ n → least_weights book marks duals k ≡ None → least_weights book marks duals n ≡ None
  none_stays k zero le e = let first : k ≡ 0 = omega (arith, le) in subst (λ (n : ℕ). least_weights book marks duals n ≡ None) first e
  none_stays k (suc n) le e = elim (cases_order k (suc n)) [
    | inl same ↦ subst (λ (n : ℕ). least_weights book marks duals n ≡ None) same e
    | inr o ↦ elim o [
      | inl less ↦ weights_on n ∙ ap (λ (before : Option (List ℤ)). with_weight before (least_weight book marks n duals)) (none_stays k n (omega (arith, less)) e)
      | inr more ↦ absurd (omega (arith, le, more))
    ]
  ]

  -- one aircraft without a weight leaves none
  pub stuck_at : (k n : ℕ) → k < n → least_weight book marks k duals ≡ None → least_weights book marks duals n ≡ None
  stuck_at k n lt e = none_stays (suc k) n (omega (arith, lt)) (none_here k e)

-- they are the least weights of all, or some aircraft is stuck
record AreWeightsOf (book : BookSeen) (marks : List Fact) (duals : List ℤ) (n : ℕ) (values : List ℤ) : Type 0 where
  many : length values ≡ n
  each : (k : ℕ) → k < n → IsLeastWeight (costs_of book) book marks k duals (value_of values k)

abbrev AreFound : BookSeen → List Fact → List ℤ → ℕ → Option (List ℤ) → Type 0
AreFound book marks duals n None = (k : ℕ) × (k < n) × IsStuck book marks k
AreFound book marks duals n (Some values) = AreWeightsOf book marks duals n values

module _ (found : LeastWeightsAreFound) (book : BookSeen) (sound : IsBook book) (marks : List Fact) (duals : List ℤ) where
  more_found : (n : ℕ) (before : Option (List ℤ)) (at : Option ℤ) → AreFound book marks duals n before → IsFoundWeight book marks n duals at
      → AreFound book marks duals (suc n) (option_and_then (λ (values : List ℤ). option_map (λ value. values ++ value ∷ []) at) before)
  more_found n None at (k, lt, stuck) here = (k, omega (arith, lt), stuck)
  more_found n (Some values) None are here = (n, omega arith, here)
  more_found n (Some values) (Some value) are here = record {
    many = (let many = are.many in let long = length_push values value in omega (arith, many, long));
    each = λ k lt. elim (cases_order k n) [
      | inl same ↦ at_end k same
      | inr o ↦ elim o [
        | inl less ↦ (let early = get_or_append_left values (value ∷ []) (pos 0) k (let many = are.many in omega (arith, less, many)) in
            subst (λ (v : ℤ). IsLeastWeight (costs_of book) book marks k duals v) (sym early) (are.each k less))
        | inr more ↦ absurd (omega (arith, lt, more))
      ]
    ];
  }
    where
      at_end : (k : ℕ) → k ≡ n → IsLeastWeight (costs_of book) book marks k duals (value_of (values ++ value ∷ []) k)
      at_end k same =
          let place : k ≡ length values = same ∙ sym are.many in
          rw place (rw (get_or-append_seam values value [] (pos 0))
          (subst (λ (j : ℕ). IsLeastWeight (costs_of book) book marks j duals value) (sym are.many) here))

  weights_found : (n : ℕ) → AreFound book marks duals n (least_weights book marks duals n)
  weights_found zero = rw (no_weights book marks duals) (record { many = refl; each = λ k lt. absurd (omega (arith, lt)) })
  weights_found (suc n) =
      rw (weights_on book marks duals n)
      (more_found n (least_weights book marks duals n) (least_weight book marks n duals) (weights_found n) (found book sound marks n duals))

-- sums and bounds never fall where no value does
sums_rise : (xs ys : List ℤ) → length xs ≡ length ys → ((i : ℕ) → i < length xs → get_or xs i (pos 0) ≤ℤ get_or ys i (pos 0)) → total xs ≤ℤ total ys
sums_rise [] [] e each = omega (arith, ints)
sums_rise [] (y ∷ ys) e each = absurd (omega (arith, e))
sums_rise (x ∷ xs) [] e each = absurd (omega (arith, e))
sums_rise (x ∷ xs) (y ∷ ys) e each =
    let first : x ≤ℤ y = each 0 (omega arith) in
    let rest = sums_rise xs ys (omega (arith, e)) (λ i lt. each (suc i) (omega (arith, lt))) in
    omega (arith, ints, first, rest)

rounds_rise : RoundedUpIsLeast → (one other : ℤ) → one ≤ℤ other → rounded_up one ≤ rounded_up other
rounds_rise least one other le = (least one (rounded_up other)).1 (let most = (least other (rounded_up other)).0 (omega arith) in omega (arith, ints, le, most))

value_of_cover : (covers : List Cover) (k : ℕ) → get_or (map (λ cover. cover.value) covers) k (pos 0) ≡ (cover_of covers k).value
value_of_cover [] k = refl
value_of_cover (cover ∷ covers) zero = refl
value_of_cover (cover ∷ covers) (suc k) = value_of_cover covers k

module _ (found : LeastWeightsAreFound) (book : BookSeen) (sound : IsBook book) (low : ℕ) where
  module _ (stuck_shown : StuckIsShown) (bounds_shown : LowBoundsAreShown) where
    abbrev HasWhole : List Fact → Type 0
    HasWhole marks = (tree : Tree) × IsShown (costs_of book) book marks tree × BoundsAtLeast low tree

    leaf_whole : (marks : List Fact) (duals : List ℤ) (weights : Option (List ℤ)) → AreDuals (costs_of book) book duals → AreFound book marks duals (aircraft book) weights
        → IfSome (option_map (λ (values : List ℤ). rounded_up (lagrangian duals values)) weights) (λ bound. low ≤ bound) → HasWhole marks
    leaf_whole marks duals None in_box (k, lt, stuck) bounds =
        let (family, shown) = stuck_shown (costs_of book) book sound marks k lt stuck in
        (whole.Stuck k family, shown, tt)
    leaf_whole marks duals (Some values) in_box are bounds =
        let (covers, shown, same) = bounds_shown (costs_of book) book sound marks duals values in_box (record { one_each = are.many; each = λ k lt. (are.each k lt).least }) in
        (whole.Bounded duals covers, shown, rw same bounds)

    pub lean_whole : (version : ℕ) (tree : LeanTree) (marks : List Fact) → IsShownIn version book marks tree → BoundsIn book low marks tree → HasWhole marks
    lean_whole version (Told tree) marks shown bounds = (tree, shown, bounds)
    lean_whole version (Step fact tree) marks shown bounds =
        let (rest, is, low) = lean_whole version tree (marks ++ fact ∷ []) shown.2 bounds in
        (whole.Step fact rest, (shown.0, shown.1, is), low)
    lean_whole version (Split pair one other) marks shown bounds =
        let (first, is, low) = lean_whole version one (marks ++ first_branch pair ∷ []) shown.1 bounds.0 in
        let (second, is_too, low_too) = lean_whole version other (marks ++ second_branch pair ∷ []) shown.2 bounds.1 in
        (whole.Split pair first second, (shown.0, is, is_too), (low, low_too))
    lean_whole version (Lean duals) marks shown bounds =
        leaf_whole marks duals (least_weights book marks duals (aircraft book)) shown.1 (weights_found found book sound marks duals (aircraft book)) bounds

  module _ (closed : ClosedFamiliesBound) (least : RoundedUpIsLeast) where
    leaf_lean : (marks : List Fact) (duals : List ℤ) (covers : List Cover) (weights : Option (List ℤ)) → IsShownBound (costs_of book) book marks duals covers
        → AreFound book marks duals (aircraft book) weights → low ≤ leaf_bound duals covers
        → IfSome (option_map (λ (values : List ℤ). rounded_up (lagrangian duals values)) weights) (λ bound. low ≤ bound)
    leaf_lean marks duals covers None shown are bounds = tt
    leaf_lean marks duals covers (Some values) shown are bounds =
        let told : List ℤ = map (λ (cover : Cover). cover.value) covers in
        let long = length-map covers (λ (cover : Cover). cover.value) in
        let many = are.many in
        let one_each = shown.one_each in
        let sums : total told ≤ℤ total values = sums_rise told values (omega (arith, long, many, one_each)) (λ k lt.
        let within : k < aircraft book = omega (arith, lt, long, one_each) in
        let (route, attains) = (are.each k within).attained in
        let cover = shown.each k within in
        let under = closed (costs_of book) book marks k duals (cover_of covers k).family (cover_of covers k).value cover.family.closed cover.ends route attains.legal attains.fits in
        rw (value_of_cover covers k) (subst (λ (v : ℤ). (cover_of covers k).value ≤ℤ v) attains.weighs under)) in
        let rises = rounds_rise least (lagrangian duals told) (lagrangian duals values) (omega (arith, ints, sums)) in
        omega (arith, bounds, rises)

    pub whole_lean : (tree : Tree) (marks : List Fact) → IsShown (costs_of book) book marks tree → BoundsAtLeast low tree → IsShownIn 2 book marks (lean_of tree) × BoundsIn book low marks (lean_of tree)
    whole_lean (whole.Step fact tree) marks shown bounds =
        let (is, low) = whole_lean tree (marks ++ fact ∷ []) shown.2 bounds in
        ((shown.0, shown.1, is), low)
    whole_lean (whole.Split pair one other) marks shown bounds =
        let (is, low) = whole_lean one (marks ++ first_branch pair ∷ []) shown.1 bounds.0 in
        let (is_too, low_too) = whole_lean other (marks ++ second_branch pair ∷ []) shown.2 bounds.1 in
        ((shown.0, is, is_too), (low, low_too))
    whole_lean (whole.Hole a) marks shown bounds = (shown, bounds)
    whole_lean (whole.Stuck k family) marks shown bounds = (shown, bounds)
    whole_lean (whole.Bounded duals covers) marks shown bounds = (
      (refl, shown.in_box),
      leaf_lean marks duals covers (least_weights book marks duals (aircraft book)) shown (weights_found found book sound marks duals (aircraft book)) bounds,
    )
