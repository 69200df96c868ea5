-- Edits of a list at a place that lies between two parts of it, and the two parts at a place.
use Rattle.std.proofs.Common.{◌≡◌, ◌∙◌, ◌+◌, ◌-◌, ◌<◌, ◌≤◌, ℕ, zero, suc, List, [], ◌∷◌, ◌++◌, length, take, drop, get_or, refl, sym, ap, subst, arith, add-one, drop-cons}
use Rattle.std.specs.List.{insert}
use Rattle.std.proofs.Math.ListN.{set}
use Rattle.std.proofs.Math.Seq.{drop-append_seam, set-append_seam}
use Rattle.std.proofs.lemmas.List.{length-append, take-append-drop}
use Rattle.std.proofs.lemmas.List.Edits.{insert-append_right}

module _ {X : Type 0} where
  -- within a list the element past the end plays no part
  pub same_at : (xs : List X) (i : ℕ) (d e : X) → i < length xs → get_or xs i d ≡ get_or xs i e
  same_at [] i d e less = absurd (omega (arith, less))
  same_at (x ∷ xs) zero d e less = refl
  same_at (x ∷ xs) (suc i) d e less = same_at xs i d e (omega (arith, less))

  pub set_between : (before : List X) (old : X) (behind : List X) (p : ℕ) (x : X) → length before ≡ p → set (before ++ old ∷ behind) p x ≡ before ++ x ∷ behind
  set_between before old behind p x long =
      subst (λ (i : ℕ). set (before ++ old ∷ behind) i x ≡ before ++ x ∷ behind) long (set-append_seam before old behind x)

  pub insert_behind : (before : List X) (here : X) (behind : List X) (p i : ℕ) (x : X) → length before ≡ p → i ≡ p + 1
      → insert (before ++ here ∷ behind) i x ≡ before ++ here ∷ x ∷ behind
  insert_behind before here behind p i x long is =
      let after : p ≤ i = omega (arith, is) in
      let one : i - p ≡ 1 = omega (arith, is) in
      insert-append_right before (here ∷ behind) p i x long after ∙ ap (λ (k : ℕ). before ++ insert (here ∷ behind) k x) one

  pub cut_at : (xs : List X) (p : ℕ) (d : X) → p < length xs → xs ≡ take p xs ++ get_or xs p d ∷ drop (p + 1) xs
  cut_at xs p d less =
      sym (take-append-drop p xs)
      ∙ ap (λ (ys : List X). take p xs ++ ys) (drop-cons xs p d less ∙ ap (λ (n : ℕ). get_or xs p d ∷ drop n xs) (sym (add-one p)))

  -- what stands at p has p before it
  pub behind_p : (before : List X) (x : X) (behind after : List X) (p : ℕ) → after ≡ before ++ x ∷ behind → length before ≡ p → p < length after
  behind_p before x behind after p is long =
      let total = ap (λ (ys : List X). length ys) is in let parts = length-append before (x ∷ behind) in omega (arith, total, parts, long)

  -- behind its own beginning the rest of a list is the list
  pub rest_is : (before steps all : List X) (known : ℕ) → all ≡ before ++ steps → known ≡ length before → before ++ drop known all ≡ all
  rest_is before steps all known is long =
      let rest : drop known all ≡ steps =
      ap (λ (ys : List X). drop known ys) is ∙ ap (λ (k : ℕ). drop k (before ++ steps)) long ∙ drop-append_seam before steps in
      ap (λ (ys : List X). before ++ ys) rest ∙ sym is
