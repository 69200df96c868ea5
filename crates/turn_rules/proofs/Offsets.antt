-- The offset at a moment is that of the last change at or before it: where the changes up to a place come by the moment,
-- and those behind it later, the last of the former decides.
use Rattle.std.proofs.Common.{◌≡◌, ◌<◌, ℕ, ℤ, zero, suc, true, false, List, [], ◌∷◌, length, get_or, refl, sym, subst, inl, inr, arith}
use Rattle.std.specs.Prelude.{AllPairs, ◌<ℤ◌}
use Rattle.std.specs.List.{AllWithin}
use Rattle.std.specs.List.Sorted.{IsPartitionedBy}
use Rattle.std.proofs.lemmas.Int.{ints}
use Rattle.std.proofs.lemmas.Bool.{cases_order}
use Rattle.tail_book.specs.Lookup.{offset_after}
use Rattle.tail_book.specs.Numbers.{int_le}
use Rattle.tail_book.specs.declared.rules.Change.{Change}

-- no change comes by the moment
pub offset_after-none : (offset : ℤ) (changes : List Change) (t : ℤ) → AllWithin (λ c. int_le c.at t ≡ false) changes 0 (length changes)
    → offset_after offset changes t ≡ offset
offset_after-none offset [] t later = refl
offset_after-none offset (c ∷ cs) t later =
    rw (later 0 c (omega arith) (omega arith)) (offset_after-none offset cs t (λ k d low high. later (suc k) d (omega arith) (omega (arith, high))))

-- the change at place n is the last that does
pub offset_after-last : (changes : List Change) (offset t : ℤ) (n : ℕ) (d : Change) → n < length changes
    → AllWithin (λ c. int_le c.at t ≡ true) changes 0 (suc n) → AllWithin (λ c. int_le c.at t ≡ false) changes (suc n) (length changes)
    → offset_after offset changes t ≡ (get_or changes n d).offset
offset_after-last [] offset t n d inside by later = absurd (omega (arith, inside))
offset_after-last (c ∷ cs) offset t zero d inside by later =
    rw (by 0 c (omega arith) (omega arith)) (offset_after-none c.offset cs t (λ k e low high. later (suc k) e (omega arith) (omega (arith, high))))
offset_after-last (c ∷ cs) offset t (suc n) d inside by later =
    offset_after-last cs _ t n d (omega (arith, inside)) (λ k e low high. by (suc k) e (omega arith) (omega (arith, high)))
    (λ k e low high. later (suc k) e (omega (arith, low)) (omega (arith, high)))

le_before : (a b t : ℤ) → a <ℤ b → int_le b t ≡ true → int_le a t ≡ true
le_before a b t less by = grind (arith, ints)

-- where the moments rise, what comes before one that comes by the moment does so too
pub rising_changes_part : (changes : List Change) (t : ℤ) → AllPairs (λ (a b : Change). a.at <ℤ b.at) changes → IsPartitionedBy (λ c. int_le c.at t) changes
rising_changes_part changes t rising i j d le inside by =
    elim (cases_order i j) [
      | inl same ↦ subst (λ k. int_le (get_or changes k d).at t ≡ true) (sym same) by
      | inr apart ↦ elim apart [
        | inl less ↦ le_before _ _ t (rising i j d less inside) by
        | inr more ↦ absurd (omega (arith, le, more))
      ]
    ]
