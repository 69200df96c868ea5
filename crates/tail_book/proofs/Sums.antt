-- Sums of whole numbers over lists and below a number: over a partition of the numbers below n they are the sum below
-- n.
--
-- A sum over any list of numbers below n counts each number as often as it stands there. This goes by induction on the
-- list, since a number more at its front changes the sum below n at that number alone. In a partition each stands once;
-- its length is its sum of ones.
use Rattle.std.proofs.Common.{◌≡◌, ◌≢◌, ℕ, zero, suc, ℤ, pos, ◌+◌, ◌+ℤ◌, ◌<◌, Bool, true, false, cond, arith, List, [], ◌∷◌, ◌++◌, map, length, get_or, sym, refl, ap, ◌∙◌}
use Rattle.std.proofs.lemmas.Int.{ints}
use Rattle.std.proofs.lemmas.Bool.{eq-eqb, ne_eqb, both_ways}
use Rattle.std.proofs.lemmas.List.Elements.{All-head, All-tail}
use Rattle.std.proofs.lemmas.List.Sums.{sum_by-cons}
use Rattle.std.specs.Prelude.{All, count_by, nat_eq}
use Rattle.tail_book.specs.Sums.{total, sum_below}
use Rattle.tail_book.specs.inside.Sums.{IsPartition}

pub total_of_two : (xs ys : List ℤ) → total (xs ++ ys) ≡ total xs +ℤ total ys
total_of_two [] ys = omega (arith, ints)
total_of_two (z ∷ xs) ys = let h = total_of_two xs ys in omega (arith, ints, h)

pub total_by_number : (zs : List ℤ) → total zs ≡ sum_below (length zs) (λ i. get_or zs i (pos 0))
total_by_number [] = refl
total_by_number (z ∷ zs) = ap (λ t. z +ℤ t) (total_by_number zs)

pub sum_below_same : (n : ℕ) (f g : ℕ → ℤ) → ((a : ℕ) → a < n → f a ≡ g a) → sum_below n f ≡ sum_below n g
sum_below_same zero f g h = refl
sum_below_same (suc n) f g h =
    let here : f 0 ≡ g 0 = h 0 (omega arith) in
    let rest = sum_below_same n (λ a. f (suc a)) (λ a. g (suc a)) (λ a lt. h (suc a) (omega arith)) in
    omega (arith, ints, here, rest)

sum_below_zero : (n : ℕ) → sum_below n (λ a. pos 0) ≡ pos 0
sum_below_zero zero = refl
sum_below_zero (suc n) = let h = sum_below_zero n in omega (arith, ints)

-- two functions that differ at x alone, and there by v
sum_below_more : (n x : ℕ) (v : ℤ) (f g : ℕ → ℤ) → x < n → g x ≡ f x +ℤ v → ((a : ℕ) → a ≢ x → g a ≡ f a) → sum_below n g ≡ sum_below n f +ℤ v
sum_below_more zero x v f g lt here others = absurd (omega arith)
sum_below_more (suc n) zero v f g lt here others =
    let rest = sum_below_same n (λ a. g (suc a)) (λ a. f (suc a)) (λ a h. others (suc a) (λ e. absurd (omega arith))) in
    omega (arith, ints, here, rest)
sum_below_more (suc n) (suc x) v f g lt here others =
    let first : g 0 ≡ f 0 = others 0 (λ e. absurd (omega arith)) in
    let rest = sum_below_more n x v (λ a. f (suc a)) (λ a. g (suc a)) (omega arith) here (λ a ne. others (suc a) (λ e. ne (omega arith))) in
    omega (arith, ints, first, rest)

abbrev times : ℕ → ℤ → ℤ
times zero v = pos 0
times (suc c) v = v +ℤ times c v

one_more : (b : Bool) (n : ℕ) → b ≡ true → cond b 1 0 + n ≡ suc n
one_more true n e = omega arith
one_more false n e = absurd (both_ways false refl e)

none_more : (b : Bool) (n : ℕ) → b ≡ false → cond b 1 0 + n ≡ n
none_more true n e = absurd (both_ways true e refl)
none_more false n e = omega arith

pub count_here : (a x : ℕ) (xs : List ℕ) → a ≡ x → count_by (nat_eq a) (x ∷ xs) ≡ suc (count_by (nat_eq a) xs)
count_here a x xs e = sum_by-cons (λ y. cond (nat_eq a y) 1 0) x xs ∙ one_more (nat_eq a x) _ (eq-eqb a x e)

pub count_other : (a x : ℕ) (xs : List ℕ) → a ≢ x → count_by (nat_eq a) (x ∷ xs) ≡ count_by (nat_eq a) xs
count_other a x xs ne = sum_by-cons (λ y. cond (nat_eq a y) 1 0) x xs ∙ none_more (nat_eq a x) _ (ne_eqb a x ne)

turned : (v w : ℤ) → v +ℤ w ≡ w +ℤ v
turned v w = omega (arith, ints)

counted : (n : ℕ) (f : ℕ → ℤ) (xs : List ℕ) → All (λ a. a < n) xs → total (map f xs) ≡ sum_below n (λ a. times (count_by (nat_eq a) xs) (f a))
counted n f [] below = sym (sum_below_zero n)
counted n f (x ∷ xs) below =
    let rest = counted n f xs (All-tail (λ a. a < n) x xs below) in
    let more = sum_below_more n x (f x) (λ a. times (count_by (nat_eq a) xs) (f a)) (λ a. times (count_by (nat_eq a) (x ∷ xs)) (f a)) (All-head (λ a. a < n) x xs below)
    (ap (λ c. times c (f x)) (count_here x x xs refl) ∙ turned (f x) (times (count_by (nat_eq x) xs) (f x)))
    (λ a ne. ap (λ c. times c (f a)) (count_other a x xs ne)) in
    omega (arith, ints, rest, more)

-- where each number below n stands once in a list, a sum over the list is the sum below n
pub total_of_partition : (n : ℕ) (f : ℕ → ℤ) (xs : List ℕ) → IsPartition n xs → total (map f xs) ≡ sum_below n f
total_of_partition n f xs parts =
    counted n f xs parts.below ∙ sum_below_same n (λ a. times (count_by (nat_eq a) xs) (f a)) f
    (λ a lt. ap (λ c. times c (f a)) (parts.once a lt) ∙ (omega (arith, ints)))

ones : (xs : List ℕ) → total (map (λ a. pos 1) xs) ≡ pos (length xs)
ones [] = refl
ones (x ∷ xs) = let h = ones xs in omega (arith, ints, h)

ones_below : (n : ℕ) → sum_below n (λ a. pos 1) ≡ pos n
ones_below zero = refl
ones_below (suc n) = let h = ones_below n in omega (arith, ints, h)

-- by the sum of ones
pub length_of_partition : (n : ℕ) (xs : List ℕ) → IsPartition n xs → length xs ≡ n
length_of_partition n xs parts = same (length xs) n (sym (ones xs) ∙ total_of_partition n (λ a. pos 1) xs parts ∙ ones_below n)
  where
    same : (l n : ℕ) → pos l ≡ pos n → l ≡ n
    same l n e = omega (arith, ints, e)
