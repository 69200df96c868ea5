-- Pairs in rows of n columns: the pair of a row and a column has the number row times n plus column. Since columns are
-- below n, two pairs have one number only where both parts are the same. So to set or clear one bit changes one pair.
-- To keep one pair of a row, the bits before it and behind it are cleared: these are the numbers from the row's
-- beginning to the pair and from behind the pair to the next row, and no other row has any of them.
use Rattle.std.proofs.Common.{◌≡◌, ◌∙◌, ℕ, ◌+◌, ◌*◌, ◌/◌, ◌%◌, ◌<◌, ◌≤◌, arith, ap, Bool, true, false, refl, sym, List, replicate, get_or, ⊎_elim, inl, inr, ◌⊎◌}
use Rattle.std.specs.Prelude.{◌||◌, ◌&&◌, not, nat_eq, nat_lt, nat_le}
use Rattle.std.specs.Int.{bit_at}
use Rattle.std.proofs.Math.Nat.{mul-le-mul_right}
use Rattle.std.proofs.lemmas.Nat.{div-mul-add, mod-mul-add}
use Rattle.std.proofs.lemmas.Bool.{eq-eqb, ne_eqb, cases_eq, cases_lt, cases_order}
use Rattle.std.proofs.lemmas.Bool.Decides.{nat_tests}
use Rattle.std.proofs.lemmas.List.{get_or-replicate, get_or_past, length-replicate}
use Rattle.std.proofs.lemmas.Nat.Bits.{bit_at-zero}
use Rattle.branch_marks.specs.inside.BitRows.{bit}

-- words that are 0 have no bit
pub empty_bits : (n p : ℕ) → bit (replicate n 0) p ≡ false
unfolding bit
empty_bits n p =
    let none : get_or (replicate n 0) (p / 64) 0 ≡ 0 = ⊎_elim (λ lt. get_or-replicate n (p / 64) 0 0 lt) (λ le. get_or_past (replicate n 0) (p / 64) 0 (rw length-replicate le)) (cases_lt (p / 64) n) in
    ap (λ w. nat_eq (bit_at w (p % 64)) 1) none ∙ ap (λ b. nat_eq b 1) (bit_at-zero (p % 64))

at_same : (r row c column n : ℕ) → r ≡ row → c ≡ column → r * n + c ≡ row * n + column
at_same r row c column n e f = rw (e, f) refl

-- a pair has the number of another one where both parts are the same
pub same_place : (n row column r c : ℕ) → c < n → column < n → nat_eq (r * n + c) (row * n + column) ≡ (nat_eq row r && nat_eq column c)
same_place n row column r c lc lcolumn = ⊎_elim
    (λ same_row. ⊎_elim
    (λ same. eq-eqb (r * n + c) (row * n + column) (at_same r row c column n same_row same) ∙ sym (both (nat_eq row r) (nat_eq column c) (eq-eqb row r (sym same_row)) (eq-eqb column c (sym same))))
    (λ other. ne_eqb (r * n + c) (row * n + column) (λ e. other (sym (mod-mul-add r n c lc) ∙ ap (λ q. q % n) e ∙ mod-mul-add row n column lcolumn))
    ∙ sym (second (nat_eq row r) (nat_eq column c) (ne_eqb column c (λ e. other (sym e)))))
    (cases_eq c column))
    (λ other. ne_eqb (r * n + c) (row * n + column) (λ e. other (sym (div-mul-add r n c lc) ∙ ap (λ q. q / n) e ∙ div-mul-add row n column lcolumn))
    ∙ sym (first (nat_eq row r) (nat_eq column c) (ne_eqb row r (λ e. other (sym e)))))
    (cases_eq r row)
  where
    both : (x y : Bool) → x ≡ true → y ≡ true → (x && y) ≡ true
    both x y e f = grind arith

    first : (x y : Bool) → x ≡ false → (x && y) ≡ false
    first x y e = grind arith

    second : (x y : Bool) → y ≡ false → (x && y) ≡ false
    second x y e = grind arith

-- what is left of a row when what lies before one of its numbers and what lies behind it are taken away
left_in : (q p from to : ℕ) (had in_row is_it : Bool) → (in_row ≡ true → (from ≤ q) × (q < to)) → (in_row ≡ false → (q < from) ⊎ (to ≤ q)) → nat_eq q p ≡ (in_row && is_it) → from ≤ p → p < to
    → ((had && not (nat_le from q && nat_lt q p)) && not (nat_le (p + 1) q && nat_lt q to)) ≡ (had && (not in_row || is_it))
left_in q p from to false in_row is_it inside outside same le lt = refl
left_in q p from to true true true inside outside same le lt = let here = inside refl in grind (arith, nat_tests, here, same)
left_in q p from to true true false inside outside same le lt = let here = inside refl in grind (arith, nat_tests, here, same)
left_in q p from to true false is_it inside outside same le lt = ⊎_elim (λ before. grind (arith, nat_tests, before)) (λ behind. grind (arith, nat_tests, behind)) (outside refl)

pub left_in_row : (n row column r c : ℕ) (had : Bool) → c < n → column < n
    → ((had && not (nat_le (row * n + 0) (r * n + c) && nat_lt (r * n + c) (row * n + column))) && not (nat_le (row * n + column + 1) (r * n + c) && nat_lt (r * n + c) (row * n + n)))
    ≡ (had && (not (nat_eq row r) || nat_eq column c))
left_in_row n row column r c had lc lcolumn =
    left_in (r * n + c) (row * n + column) (row * n + 0) (row * n + n) had (nat_eq row r) (nat_eq column c) inside outside (same_place n row column r c lc lcolumn) (omega arith) (omega arith)
  where
    inside : nat_eq row r ≡ true → (row * n + 0 ≤ r * n + c) × (r * n + c < row * n + n)
    inside e = let same : r ≡ row = grind (arith, nat_tests, e) in rw same (omega arith, omega arith)

    outside : nat_eq row r ≡ false → (r * n + c < row * n + 0) ⊎ (row * n + n ≤ r * n + c)
    outside e = ⊎_elim (λ same. absurd (grind (arith, nat_tests, e, same)))
        (λ apart. ⊎_elim (λ before. inl (omega (arith, mul-le-mul_right n before))) (λ behind. inr (omega (arith, mul-le-mul_right n behind))) apart)
        (cases_order r row)

-- a bit that is set or cleared is one pair's
pub put_pair : (old new : List ℕ) (n row column p : ℕ) → p ≡ row * n + column → column < n → ((q : ℕ) → bit new q ≡ (bit old q || nat_eq q p))
    → (r c : ℕ) → c < n → bit new (r * n + c) ≡ (bit old (r * n + c) || (nat_eq r row && nat_eq c column))
put_pair old new n row column p place lcolumn each r c lc =
    each (r * n + c)
    ∙ ap (λ t. bit old (r * n + c) || t) (ap (λ i. nat_eq (r * n + c) i) place ∙ same_place n row column r c lc lcolumn ∙ turned row r column c)
  where
    turned : (a b x y : ℕ) → (nat_eq a b && nat_eq x y) ≡ (nat_eq b a && nat_eq y x)
    turned a b x y = grind (arith, nat_tests)

pub remove_pair : (old new : List ℕ) (n row column p : ℕ) → p ≡ row * n + column → column < n → ((q : ℕ) → bit new q ≡ (bit old q && not (nat_eq q p)))
    → (r c : ℕ) → c < n → bit new (r * n + c) ≡ (bit old (r * n + c) && not (nat_eq column c && nat_eq row r))
remove_pair old new n row column p place lcolumn each r c lc =
    each (r * n + c) ∙ ap (λ t. bit old (r * n + c) && not t) (ap (λ i. nat_eq (r * n + c) i) place ∙ same_place n row column r c lc lcolumn ∙ turned (nat_eq row r) (nat_eq column c))
  where
    turned : (x y : Bool) → (x && y) ≡ (y && x)
    turned x y = grind arith

-- the bits of a row before and behind one of its pairs are those of the row's other pairs
pub keep_pair : (old new : List ℕ) (n row column from p to : ℕ) → from ≡ row * n + 0 → p ≡ row * n + column → to ≡ row * n + n → column < n
    → ((q : ℕ) → bit new q ≡ ((bit old q && not (nat_le from q && nat_lt q p)) && not (nat_le (p + 1) q && nat_lt q to)))
    → (r c : ℕ) → c < n → bit new (r * n + c) ≡ (bit old (r * n + c) && (not (nat_eq row r) || nat_eq column c))
keep_pair old new n row column from p to begins place ends lcolumn around r c lc =
    let q = r * n + c in
    around q
    ∙ ap (λ i. (bit old q && not (nat_le i q && nat_lt q p)) && not (nat_le (p + 1) q && nat_lt q to)) begins
    ∙ ap (λ i. (bit old q && not (nat_le (row * n + 0) q && nat_lt q i)) && not (nat_le (i + 1) q && nat_lt q to)) place
    ∙ ap (λ i. (bit old q && not (nat_le (row * n + 0) q && nat_lt q (row * n + column))) && not (nat_le (row * n + column + 1) q && nat_lt q i)) ends
    ∙ left_in_row n row column r c (bit old q) lc lcolumn
