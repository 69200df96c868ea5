-- Each place has an end that is only priced, whether or not anybody prices it: an aircraft that is stuck, or else a bound.
use Rattle.std.proofs.Common.{◌<◌, ◌⊎◌, inl, inr, ℕ, ℤ, zero, suc, List, refl, sym, subst, arith}
use Rattle.std.proofs.lemmas.Bool.{cases_order}
use Rattle.tail_book.specs.Seen.{BookSeen}
use Rattle.tail_book.specs.TableSeen.{CostTableSeen}
use Rattle.tail_book.specs.Lookup.{aircraft}
use Rattle.tail_book.specs.Route.{IsLegalRoute}
use Rattle.branch_marks.specs.Marks.{Fits}
use Rattle.tail_book.specs.inside.Sound.{IsBook}
use Rattle.branch_marks.specs.declared.fact.Fact.{Fact}
use Rattle.branch_marks.specs.Bound.{AreLeastWeights}
use Rattle.branch_marks.specs.DeadEnds.{IsStuck}
use Rattle.branch_marks.specs.Settled.{AreDuals, IsSum, SumsExist}
use Rattle.branch_marks.specs.Weights.{IsLeastWeight, LeastWeightsExist}
use Rattle.branch_marks.specs.inside.WholeFamilies.{LowBoundsAreShown, StuckIsShown}
use Rattle.node_leaves.specs.Node.{Ending, Stuck, Bounded, IsShownEnding}
use Rattle.node_leaves.specs.Place.{open_place}
use Rattle.node_leaves.specs.Priced.{IsPriced}

module _ (exist : LeastWeightsExist) (sums : SumsExist) (low_shown : LowBoundsAreShown) (stuck_shown : StuckIsShown) (table : CostTableSeen) (book : BookSeen)
    (sound : IsBook book) (marks : List Fact) (duals : List ℤ) (in_box : AreDuals table book duals) where
  free : (n : ℕ) → ((k : ℕ) → k < n → ¬ IsStuck book marks k) → (value : ℤ) → IsLeastWeight table book marks n duals value → (k : ℕ) → k < suc n → ¬ IsStuck book marks k
  free n none value least k less = elim (cases_order k n) [
    | inl same ↦ (λ stuck. stuck least.attained.0 (subst (λ (j : ℕ). IsLegalRoute book j least.attained.0) (sym same) least.attained.1.legal)
        (subst (λ (j : ℕ). Fits book marks j least.attained.0) (sym same) least.attained.1.fits))
    | inr o ↦ elim o [ inl under ↦ none k under | inr over ↦ absurd (omega (arith, less, over)) ]
  ]

  -- where there is a sum, it is a bound with covers
  bounded : (sum : ℤ) → IsSum table book marks duals sum
      → (ending : Ending) × IsShownEnding table book marks ending × IsPriced table book (open_place marks duals) ending
  bounded sum is =
      let values = is.0 in let least = is.1 in
      let shown = low_shown table book sound marks duals values in_box (record { one_each = least.one_each; each = λ k less. (least.each k less).least }) in
      (Bounded duals shown.0, shown.1, (refl, subst (λ (vs : List ℤ). AreLeastWeights table book marks duals vs) (sym shown.2) least))

  -- some aircraft is stuck, or none is
  stuck_among : (n : ℕ) → ((k : ℕ) × (k < n) × IsStuck book marks k) ⊎ ((k : ℕ) → k < n → ¬ IsStuck book marks k)
  stuck_among zero = inr (λ k less. absurd (omega (arith, less)))
  stuck_among (suc n) = elim (stuck_among n) [
    | inl some ↦ (let less = some.1 in inl (some.0, omega (arith, less), some.2))
    | inr none ↦ elim (exist table book sound marks n duals) [
      | inl stuck ↦ inl (n, omega arith, stuck)
      | inr least ↦ inr (free n none least.0 least.1)
    ]
  ]

  pub leaf_exists : (ending : Ending) × IsShownEnding table book marks ending × IsPriced table book (open_place marks duals) ending
  leaf_exists = elim (stuck_among (aircraft book)) [
    | inl some ↦ (let shown = stuck_shown table book sound marks some.0 some.1 some.2 in (Stuck some.0 shown.0, shown.1, tt))
    | inr none ↦ (let sum = sums table book sound marks duals none in bounded sum.0 sum.1)
  ]
