-- A list with one number changed: its sum, and what holds of each.
use Rattle.std.proofs.Common.{◌≡◌, ◌<◌, ◌+ℤ◌, ◌-ℤ◌, ℕ, zero, suc, ℤ, pos, arith, sym, ◌∙◌, ap, subst, inl, inr, List, [], ◌∷◌, length, get_or, set}
use Rattle.std.proofs.lemmas.Int.{ints}
use Rattle.std.proofs.lemmas.Bool.{cases_eq}
use Rattle.std.proofs.lemmas.List.{length-set, get_or-set_same, get_or-set_other}
use Rattle.std.specs.Prelude.{All}
use Rattle.tail_book.specs.Sums.{total}

pub total_set : (xs : List ℤ) (a : ℕ) (v : ℤ) → a < length xs → total (set xs a v) ≡ ((total xs -ℤ get_or xs a (pos 0)) +ℤ v)
total_set [] a v below = absurd (omega (arith, below))
total_set (x ∷ xs) zero v below = omega (arith, ints)
total_set (x ∷ xs) (suc a) v below = let rest = total_set xs a v (omega (arith, below)) in omega (arith, ints, rest)

pub all_set : (P : ℤ → Type 0) (xs : List ℤ) (a : ℕ) (v : ℤ) → All P xs → P v → All P (set xs a v)
all_set P xs a v all here k d lt = elim (cases_eq k a) [
  | inl e ↦
      (let below : a < length xs = omega (arith, lt, e, length-set xs a v) in
      subst P (sym (ap (λ (j : ℕ). get_or (set xs a v) j d) e ∙ get_or-set_same xs a v d below)) here)
  | inr ne ↦ subst P (sym (get_or-set_other xs a k v d ne)) (all k d (subst (λ (n : ℕ). k < n) (length-set xs a v) lt))
]
