-- A list that has a value for each aircraft grows at its end. What holds of each value by its number holds with one
-- more: before the seam stand the old ones, and at the seam the new one, of which it was shown. The same for two lists
-- side by side, as those of least weights and of routes that have them.
use Rattle.std.proofs.Common.{◌≡◌, inl, inr, ℕ, ◌+◌, ◌<◌, arith, List, [], ◌∷◌, ◌++◌, length, length-append, get_or, sym, ap, ◌∙◌, subst}
use Rattle.std.proofs.lemmas.Bool.{cases_order}
use Rattle.std.proofs.lemmas.List.{get_or_append_left}
use Rattle.std.proofs.Math.Seq.{get_or-append_seam}

pub one_longer : {X : Type 0} (xs new : List X) (k : ℕ) (x : X) → length xs ≡ k → new ≡ xs ++ x ∷ [] → length new ≡ k + 1
one_longer {X} xs new k x count is = ap (λ (ys : List X). length ys) is ∙ length-append xs (x ∷ []) ∙ ap (λ (n : ℕ). n + 1) count

-- what holds of each element by its number holds with one more of which it holds
module _ {X : Type 0} (d : X) (P : ℕ → X → Type 0) where
  pub one_more : (xs new : List X) (k : ℕ) (x : X) → length xs ≡ k → new ≡ xs ++ x ∷ []
      → ((j : ℕ) → j < k → P j (get_or xs j d)) → P k x → (j : ℕ) → j < k + 1 → P j (get_or new j d)
  one_more xs new k x count is each here j less =
      subst (λ (ys : List X). P j (get_or ys j d)) (sym is) (elim (cases_order j k) [
        | inl same ↦ (
            let at : j ≡ length xs = omega (arith, same, count) in
            subst (λ (i : ℕ). P i (get_or (xs ++ x ∷ []) i d)) (sym at)
            (subst (λ (y : X). P (length xs) y) (sym (get_or-append_seam xs x [] d)) (subst (λ (i : ℕ). P i x) (sym count) here)))
        | inr other ↦ elim other [
          | inl below ↦ subst (λ (y : X). P j y) (sym (get_or_append_left xs (x ∷ []) d j (omega (arith, below, count)))) (each j below)
          | inr above ↦ absurd (omega (arith, above, less))
        ]
      ])

-- where a list has one more element at its end
module _ {X : Type 0} (d : X) where
  pub at_seam : (xs new : List X) (j : ℕ) (x : X) → new ≡ xs ++ x ∷ [] → j ≡ length xs → get_or new j d ≡ x
  at_seam xs new j x is at =
      subst (λ (ys : List X). get_or ys j d ≡ x) (sym is)
      (subst (λ (i : ℕ). get_or (xs ++ x ∷ []) i d ≡ x) (sym at) (get_or-append_seam xs x [] d))

  pub before_seam : (xs new : List X) (j : ℕ) (x : X) → new ≡ xs ++ x ∷ [] → j < length xs → get_or new j d ≡ get_or xs j d
  before_seam xs new j x is less =
      subst (λ (ys : List X). get_or ys j d ≡ get_or xs j d) (sym is) (get_or_append_left xs (x ∷ []) d j less)

-- what holds of the elements of two lists by their number holds with one more of each
module _ {X Y : Type 0} (d : X) (e : Y) (P : ℕ → X → Y → Type 0) where
  pub two_more : (xs new_xs : List X) (ys new_ys : List Y) (k : ℕ) (x : X) (y : Y) → length xs ≡ k → length ys ≡ k
      → new_xs ≡ xs ++ x ∷ [] → new_ys ≡ ys ++ y ∷ [] → ((j : ℕ) → j < k → P j (get_or xs j d) (get_or ys j e)) → P k x y
      → (j : ℕ) → j < k + 1 → P j (get_or new_xs j d) (get_or new_ys j e)
  two_more xs new_xs ys new_ys k x y xs_count ys_count xs_are ys_are each here j less = elim (cases_order j k) [
    | inl same ↦ (
        let one : get_or new_xs j d ≡ x = at_seam d xs new_xs j x xs_are (omega (arith, same, xs_count)) in
        let other : get_or new_ys j e ≡ y = at_seam e ys new_ys j y ys_are (omega (arith, same, ys_count)) in
        subst (λ (u : X). P j u (get_or new_ys j e)) (sym one)
        (subst (λ (w : Y). P j x w) (sym other) (subst (λ (i : ℕ). P i x y) (sym same) here)))
    | inr other ↦ elim other [
      | inl below ↦ (
          let one : get_or new_xs j d ≡ get_or xs j d = before_seam d xs new_xs j x xs_are (omega (arith, below, xs_count)) in
          let two : get_or new_ys j e ≡ get_or ys j e = before_seam e ys new_ys j y ys_are (omega (arith, below, ys_count)) in
          subst (λ (u : X). P j u (get_or new_ys j e)) (sym one)
          (subst (λ (w : Y). P j (get_or xs j d) w) (sym two) (each j below)))
      | inr above ↦ absurd (omega (arith, above, less))
    ]
  ]
