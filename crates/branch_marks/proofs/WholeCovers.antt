-- A cover of each aircraft, one after the other. Each aircraft has some family that shows its value; by recursion over
-- the values these are put into one list, in which the cover of aircraft k stands at place k and has its value. So
-- there is a cover for each aircraft, and with duals in the box they are a bound that is shown.
use Rattle.std.proofs.Common.{◌≡◌, ℕ, zero, suc, ℤ, ◌+◌, ◌<◌, arith, refl, ap, subst, List, [], ◌∷◌, length, map}
use Rattle.std.proofs.lemmas.List.{length-map}
use Rattle.tail_book.specs.Seen.{BookSeen}
use Rattle.tail_book.specs.TableSeen.{CostTableSeen}
use Rattle.tail_book.specs.inside.Sound.{IsBook}
use Rattle.branch_marks.specs.declared.fact.Fact.{Fact}
use Rattle.branch_marks.specs.Bound.{value_of, AreLowWeights}
use Rattle.branch_marks.specs.Labels.{Label}
use Rattle.branch_marks.specs.ProofTree.{Cover, cover_of, IsShownCover, IsShownBound}
use Rattle.branch_marks.specs.Settled.{AreDuals}
use Rattle.branch_marks.specs.Weights.{WeighsAtLeast}
use Rattle.branch_marks.specs.inside.WholeFamilies.{LowWeightsAreShown}

-- what is shown of the covers of the aircraft from one on
module _ (P : ℕ → Cover → Type 0) where
  abbrev pub AreShownFrom : ℕ → ℕ → List Cover → Type 0
  AreShownFrom first count covers = (i k : ℕ) → k ≡ first + i → i < count → P k (cover_of covers i)

  shown_first : (first count : ℕ) (cover : Cover) (covers : List Cover) → P first cover → AreShownFrom (suc first) count covers → AreShownFrom first (suc count) (cover ∷ covers)
  shown_first first count cover covers shown later zero k is less = let same : first ≡ k = omega (arith, is) in subst (λ (j : ℕ). P j cover) same shown
  shown_first first count cover covers shown later (suc i) k is less = later i k (omega (arith, is)) (omega (arith, less))

  pub covers_from : (first : ℕ) (values : List ℤ)
      → ((i k : ℕ) → k ≡ first + i → i < length values → (family : List Label) × P k (record { value = value_of values i; family = family }))
      → (covers : List Cover) × (map (λ cover. cover.value) covers ≡ values) × AreShownFrom first (length values) covers
  covers_from first [] each = ([], refl, λ i k is less. absurd (omega (arith, less)))
  covers_from first (value ∷ values) each =
      let (family, shown) = each 0 first (omega arith) (omega arith) in
      let (covers, same, later) = covers_from (suc first) values (λ i k is less. each (suc i) k (omega (arith, is)) (omega (arith, less))) in
      let cover : Cover = record { value = value; family = family } in
      (cover ∷ covers, ap (λ (vs : List ℤ). value ∷ vs) same, shown_first first (length values) cover covers shown later)

pub low_bound_shown : LowWeightsAreShown → (table : CostTableSeen) (book : BookSeen) → IsBook book → (marks : List Fact) (duals values : List ℤ)
    → AreDuals table book duals → AreLowWeights table book marks duals values
    → (covers : List Cover) × IsShownBound table book marks duals covers × (map (λ cover. cover.value) covers ≡ values)
low_bound_shown low_shown table book sound marks duals values in_box low =
    let one_each = low.one_each in
    let (covers, same, shown) = covers_from (λ k cover. IsShownCover table book marks k duals cover) 0 values (λ i k is less.
    let same : k ≡ i = omega (arith, is) in
    low_shown table book sound marks k duals (value_of values i)
    (subst (λ (j : ℕ). WeighsAtLeast table book marks k duals (value_of values j)) same (low.each k (omega (arith, is, less, one_each))))) in
    let mapped = length-map covers (λ cover. cover.value) in
    let long : length (map (λ cover. cover.value) covers) ≡ length values = ap (λ (vs : List ℤ). length vs) same in (
      covers,
      record {
        in_box = in_box;
        one_each = omega (arith, mapped, long, one_each);
        each = λ k less. shown k k (omega arith) (omega (arith, less, one_each));
      },
      same,
    )
