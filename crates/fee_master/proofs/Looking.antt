-- What looks, one after the other, come to: either a cost unit has been gained, or nothing has moved and all places so far are settled.
use Rattle.std.proofs.Common.{◌≡◌, ◌∙◌, ◌<◌, ◌+◌, ◌+ℤ◌, ◌≤ℤ◌, ℕ, ℤ, pos, arith, ap, refl, sym, subst, inl, inr, Bool, true, false, List}
use Rattle.std.proofs.lemmas.Int.{ints}
use Rattle.std.proofs.lemmas.Bool.{both_ways, cases_eq}
use Rattle.tail_book.specs.CostTable.{cost_unit}
use Rattle.tail_book.specs.Lookup.{activities}
use Rattle.fee_master.specs.declared.fixed.Fixed.{Fixed}
use Rattle.fee_master.specs.inside.Settling.{AreSettled, Gains, IsSettledAt, IsSettledDual, IsSettledFee, Looks, sum_for}

module _ (fixed : Fixed) (duals fees new_duals new_fees : List ℤ) where
  looks_as : (P Q : Type 0) (moved : Bool) → (P → Q) → Looks fixed P duals fees new_duals new_fees moved → Looks fixed Q duals fees new_duals new_fees moved
  looks_as P Q true to gains = gains
  looks_as P Q false to (e, f, there) = (e, f, to there)

  -- a look at a dual, or at a fee behind all duals, is one at its place
  pub dual_place : (j : ℕ) (moved : Bool) → j < activities fixed.book.now
      → Looks fixed (IsSettledDual fixed new_duals new_fees j) duals fees new_duals new_fees moved
      → Looks fixed (IsSettledAt fixed new_duals new_fees j) duals fees new_duals new_fees moved
  dual_place j moved lt =
      looks_as (IsSettledDual fixed new_duals new_fees j) (IsSettledAt fixed new_duals new_fees j) moved
      (λ settled. record { dual = λ below. settled; fee = λ q e below. absurd (omega (arith, lt, e)) })

  pub fee_place : (j r : ℕ) (moved : Bool) → j ≡ activities fixed.book.now + r
      → Looks fixed (IsSettledFee fixed new_duals new_fees r) duals fees new_duals new_fees moved
      → Looks fixed (IsSettledAt fixed new_duals new_fees j) duals fees new_duals new_fees moved
  fee_place j r moved is =
      looks_as (IsSettledFee fixed new_duals new_fees r) (IsSettledAt fixed new_duals new_fees j) moved
      (λ settled. record {
        dual = λ below. absurd (omega (arith, is, below));
        fee = λ q e below. (let same : r ≡ q = omega (arith, is, e) in subst (IsSettledFee fixed new_duals new_fees) same settled);
      })

  pub looks_true : (P : Type 0) (moved : Bool) → Looks fixed P duals fees new_duals new_fees moved → moved ≡ true
      → (sum_for fixed duals fees +ℤ pos cost_unit) ≤ℤ sum_for fixed new_duals new_fees
  looks_true P true looks e = looks
  looks_true P false looks e = absurd (both_ways false refl e)

  pub looks_false : (P : Type 0) (moved : Bool) → Looks fixed P duals fees new_duals new_fees moved → moved ≡ false
      → (new_duals ≡ duals) × (new_fees ≡ fees) × P
  looks_false P true looks e = absurd (both_ways true e refl)
  looks_false P false looks e = looks

  pub looks_same_sum : (P : Type 0) (moved : Bool) → Looks fixed P duals fees new_duals new_fees moved → moved ≡ false
      → sum_for fixed new_duals new_fees ≡ sum_for fixed duals fees
  looks_same_sum P true looks now = absurd (both_ways true now refl)
  looks_same_sum P false (e, f, there) now = ap (λ (us : List ℤ). sum_for fixed us new_fees) e ∙ ap (λ (ps : List ℤ). sum_for fixed duals ps) f

  pub looks_no_less : (P : Type 0) (moved : Bool) → Looks fixed P duals fees new_duals new_fees moved
      → sum_for fixed duals fees ≤ℤ sum_for fixed new_duals new_fees
  looks_no_less P true gains = omega (arith, ints, gains)
  looks_no_less P false looks = let e = looks_same_sum P false looks refl in omega (arith, ints, e)

  -- both together
  pub looks_of : (P : Type 0) (moved : Bool) → (moved ≡ false → (new_duals ≡ duals) × (new_fees ≡ fees) × P) → (moved ≡ true → Gains fixed duals fees new_duals new_fees)
      → Looks fixed P duals fees new_duals new_fees moved
  looks_of P true still risen = risen refl
  looks_of P false still risen = still refl

module _ (fixed : Fixed) (first_duals first_fees duals fees new_duals new_fees : List ℤ) (j : ℕ) (moved : Bool)
    (still : moved ≡ false → (duals ≡ first_duals) × (fees ≡ first_fees) × AreSettled fixed duals fees j)
    (risen : moved ≡ true → Gains fixed first_duals first_fees duals fees) where
  -- one look more that gains
  pub risen_more : Gains fixed duals fees new_duals new_fees → Gains fixed first_duals first_fees new_duals new_fees
  risen_more gains = go moved refl
    where
      go : (b : Bool) → moved ≡ b → Gains fixed first_duals first_fees new_duals new_fees
      go true now = let h = risen now in omega (arith, ints, h, gains)
      go false now =
          let (e, f, there) = still now in
          subst (λ (us : List ℤ). Gains fixed us first_fees new_duals new_fees) e (subst (λ (ps : List ℤ). Gains fixed duals ps new_duals new_fees) f gains)

  -- and one at which nothing moves
  module _ (same : new_duals ≡ duals) (fees_same : new_fees ≡ fees) (there : IsSettledAt fixed new_duals new_fees j) where
    pub still_more : moved ≡ false → (new_duals ≡ first_duals) × (new_fees ≡ first_fees) × AreSettled fixed new_duals new_fees (j + 1)
    still_more now =
        let (e, f, before) = still now in (
          same ∙ e,
          fees_same ∙ f,
          λ i lt. elim (cases_eq i j) [
            | inl here ↦ subst (IsSettledAt fixed new_duals new_fees) (sym here) there
            | inr ne ↦ subst (λ (us : List ℤ). IsSettledAt fixed us new_fees i) (sym same)
                (subst (λ (ps : List ℤ). IsSettledAt fixed duals ps i) (sym fees_same) (before i (omega (arith, lt, ne))))
          ],
        )

    pub risen_same : moved ≡ true → Gains fixed first_duals first_fees new_duals new_fees
    risen_same now =
        subst (λ (us : List ℤ). Gains fixed first_duals first_fees us new_fees) (sym same)
        (subst (λ (ps : List ℤ). Gains fixed first_duals first_fees duals ps) (sym fees_same) (risen now))
