-- A list of the mosts of the first aircraft grows at its end.
use Rattle.std.proofs.Common.{◌≡◌, ◌∙◌, inl, inr, ℕ, ℤ, pos, ◌+◌, ◌<◌, arith, List, [], ◌∷◌, ◌++◌, length, length-append, sym, ap, subst}
use Rattle.std.proofs.lemmas.Bool.{cases_order}
use Rattle.std.proofs.lemmas.List.{get_or_append_left}
use Rattle.std.proofs.Math.Seq.{get_or-append_seam}
use Rattle.tail_book.specs.Seen.{BookSeen}
use Rattle.plan_shortage.specs.Shortage.{IsMost, most_of}

pub one_longer : (old new : List ℤ) (k : ℕ) (most : ℤ) → length old ≡ k → new ≡ old ++ most ∷ [] → length new ≡ k + 1
one_longer old new k most count is = ap (λ (mosts : List ℤ). length mosts) is ∙ length-append old (most ∷ []) ∙ ap (λ (n : ℕ). n + 1) count

module _ (book : BookSeen) (asked brought : List ℕ) where
  -- before the seam stand the old ones, and at the seam the new one
  pub one_more : (old new : List ℤ) (k : ℕ) (most : ℤ) → length old ≡ k → new ≡ old ++ most ∷ []
      → ((j : ℕ) → j < k → IsMost book j asked brought (most_of old j)) → IsMost book k asked brought most
      → (j : ℕ) → j < k + 1 → IsMost book j asked brought (most_of new j)
  one_more old new k most count is each here j less =
      subst (λ (mosts : List ℤ). IsMost book j asked brought (most_of mosts j)) (sym is) (elim (cases_order j k) [
        | inl same ↦ (
            let at : j ≡ length old = omega (arith, same, count) in
            let last : most_of (old ++ most ∷ []) j ≡ most =
            subst (λ (i : ℕ). most_of (old ++ most ∷ []) i ≡ most) (sym at) (get_or-append_seam old most [] (pos 0)) in
            subst (IsMost book j asked brought) (sym last) (subst (λ (i : ℕ). IsMost book i asked brought most) (sym same) here))
        | inr other ↦ elim other [
          | inl below ↦ subst (IsMost book j asked brought) (sym (get_or_append_left old (most ∷ []) (pos 0) j (omega (arith, below, count)))) (each j below)
          | inr above ↦ absurd (omega (arith, above, less))
        ]
      ])
