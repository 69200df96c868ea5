-- Activities whose ids differ have one order.
--
-- Two lists that are strictly in order and have the same activities are equal: the first of each comes before all others
-- of its list, so the first are the same one, and the others are the same by induction. `in_order` is such a list, since
-- an activity that is put in front of the first that it comes before leaves the list strictly in order.
use Rattle.std.proofs.Common.{◌≡◌, ◌≢◌, ◌∙◌, ◌⊎◌, inl, inr, sym, refl, ap, ap₂, subst, Bool, true, false, cond, ◌&&◌, ◌||◌, if◌then◌else◌, int_lt, arith, ℕ, zero, suc, ◌+◌, List, [], ◌∷◌, get_or, true≢false, IsTrue, All, AllPairs, Contains, Ordering, Less, Equal, Greater}
use Rattle.std.specs.Ordering.{int_cmp, is_eq, is_lt, ordering_reverse, ordering_then, nat_cmp}
use Rattle.std.specs.Cmp.{IsTotalOrder}
use Rattle.std.specs.Cmp.Lexicographic.{slice_cmp}
use Rattle.std.specs.Str.{bytes_eq}
use Rattle.tail_book.specs.Lookup.{no_activity}
use Rattle.std.specs.List.Sorted.{IsPermutation, IsSortedBy, IsStrictlySortedBy}
use Rattle.std.proofs.lemmas.Cmp.{int_cmp_total, nat_list_cmp_total, nat_list_eq_equiv, on_total, then_total, tied_itself}
use Rattle.std.proofs.lemmas.List.Elements.{All-cons, All-head, All-tail, recursion_from_All}
use Rattle.std.proofs.lemmas.List.Sorted.{All-permutation, Contains-permutation, IsPermutation-cons, IsPermutation-middle, IsPermutation-refl, IsPermutation-sym, IsPermutation-trans}
use Rattle.std.proofs.lemmas.Map.Keys.{IsDistinct-IsPermutation, Less-from_sorted, IsDistinct-from_apart, apart_from_distinct, sorted_from_all_adjacent, sorted_tail}
use Rattle.std.proofs.lemmas.Map.Lookups.{exact_bytes}
use Rattle.std.proofs.lemmas.Map.Views.{All-after_first}
use Rattle.std.proofs.lemmas.Slice.Eq.{bytes_eq-Decides}
use Rattle.tail_book.specs.Seen.{ActivitySeen}
use Rattle.tail_book.specs.ActivityOrder.{comes_before}
use Rattle.book_maker.specs.Order.{in_order, put}

-- the order as the key of the sort has it
abbrev pub order : ActivitySeen → ActivitySeen → Ordering
order a b = ordering_then (int_cmp a.start b.start) (slice_cmp nat_cmp a.id b.id)

pub order_total : IsTotalOrder order
order_total = then_total (on_total (λ a. a.start) int_cmp_total) (on_total (λ a. a.id) nat_list_cmp_total)

tested : (p q : Bool) (r : Ordering) → (p || (is_eq (cond p Less (cond q Greater Equal)) && is_lt r)) ≡ is_lt (ordering_then (cond p Less (cond q Greater Equal)) r)
tested true q r = refl
tested false true r = refl
tested false false r = refl

-- the book's test of the order
pub comes_before-order : (a b : ActivitySeen) → comes_before a b ≡ is_lt (order a b)
comes_before-order a b = tested (int_lt a.start b.start) (int_lt b.start a.start) (slice_cmp nat_cmp a.id b.id)

second_ties : (o r : Ordering) → ordering_then o r ≡ Equal → r ≡ Equal
second_ties Less r e = cc
second_ties Equal r e = e
second_ties Greater r e = cc

-- activities that tie have one id
pub id_from_tie : (a b : ActivitySeen) → order a b ≡ Equal → a.id ≡ b.id
id_from_tie a b e = exact_bytes a.id b.id (second_ties (int_cmp a.start b.start) (slice_cmp nat_cmp a.id b.id) e)

-- of two activities that do not tie one comes first
pub turned : (a b : ActivitySeen) → is_lt (order a b) ≡ false → order a b ≢ Equal → order b a ≡ Less
turned a b late apart = by (order a b) (order_total.antisymm b a) late apart
  where
    by : (o : Ordering) → order b a ≡ ordering_reverse o → is_lt o ≡ false → o ≢ Equal → order b a ≡ Less
    by Less e late apart = cc
    by Equal e late apart = absurd (apart refl)
    by Greater e late apart = e

less : (a b : ActivitySeen) → is_lt (order a b) ≡ true → order a b ≡ Less
less a b e = by (order a b) e
  where
    by : (o : Ordering) → is_lt o ≡ true → o ≡ Less
    by Less e = refl
    by Equal e = cc
    by Greater e = cc

put-permutes : (a : ActivitySeen) (xs : List ActivitySeen) → IsPermutation (a ∷ xs) (put a xs)
unfolding put
put-permutes a [] = IsPermutation-refl (a ∷ [])
put-permutes a (b ∷ more) = by (comes_before a b) (put-permutes a more)
  where
    by : (t : Bool) → IsPermutation (a ∷ more) (put a more) → IsPermutation (a ∷ b ∷ more) (if t then a ∷ b ∷ more else b ∷ put a more)
    by true rest = IsPermutation-refl (a ∷ b ∷ more)
    by false rest = IsPermutation-trans (a ∷ b ∷ more) (b ∷ a ∷ more) (b ∷ put a more) (IsPermutation-middle (a ∷ []) b more) (IsPermutation-cons b (a ∷ more) (put a more) rest)

-- the activities in order are the same ones
pub in_order-permutes : (xs : List ActivitySeen) → IsPermutation xs (in_order xs)
unfolding in_order
in_order-permutes [] = IsPermutation-refl []
in_order-permutes (a ∷ more) = IsPermutation-trans (a ∷ more) (a ∷ in_order more) (put a (in_order more)) (IsPermutation-cons a more (in_order more) (in_order-permutes more)) (put-permutes a (in_order more))

sorted_cons : (a : ActivitySeen) (xs : List ActivitySeen) → All (λ b. order a b ≡ Less) xs → IsStrictlySortedBy order xs → IsStrictlySortedBy order (a ∷ xs)
unfolding IsStrictlySortedBy
sorted_cons a xs first rest = (recursion_from_All (λ b. order a b ≡ Less) xs first, rest)

-- what comes before the first comes before all
before_all : (a b : ActivitySeen) (more : List ActivitySeen) → order a b ≡ Less → IsStrictlySortedBy order (b ∷ more) → All (λ c. order a c ≡ Less) (b ∷ more)
before_all a b more first up = All-cons (λ c. order a c ≡ Less) b more first (λ k d h. order_total.trans a b (get_or more k d) first (All-after_first order b more up k d h))

put-sorted : (a : ActivitySeen) (xs : List ActivitySeen) → IsStrictlySortedBy order xs → All (λ b. order a b ≢ Equal) xs → IsStrictlySortedBy order (put a xs)
unfolding put
put-sorted a [] up apart = sorted_cons a [] (λ k d h. absurd (omega arith)) up
put-sorted a (b ∷ more) up apart = by (comes_before a b) (comes_before-order a b) (put-sorted a more (sorted_tail order b more up) (All-tail (λ b. order a b ≢ Equal) b more apart))
  where
    by : (t : Bool) → t ≡ is_lt (order a b) → IsStrictlySortedBy order (put a more) → IsStrictlySortedBy order (if t then a ∷ b ∷ more else b ∷ put a more)
    by true e rest = sorted_cons a (b ∷ more) (before_all a b more (less a b (sym e)) up) up
    by false e rest =
        let first = turned a b (sym e) (All-head (λ b. order a b ≢ Equal) b more apart) in
        sorted_cons b (put a more) (All-permutation (λ c. order b c ≡ Less) (a ∷ more) (put a more) (put-permutes a more) (All-cons (λ c. order b c ≡ Less) a more first (All-after_first order b more up))) rest

-- the first differs from the others
first_apart : (a : ActivitySeen) (more : List ActivitySeen) → AllPairs (λ a b. a.id ≢ b.id) (a ∷ more) → All (λ b. order a b ≢ Equal) more
first_apart a more apart k d h e = apart 0 (suc k) d (omega arith) (omega arith) (id_from_tie a (get_or more k d) e)

rest_apart : (a : ActivitySeen) (more : List ActivitySeen) → AllPairs (λ a b. a.id ≢ b.id) (a ∷ more) → AllPairs (λ a b. a.id ≢ b.id) more
rest_apart a more apart i j d less within = apart (suc i) (suc j) d (omega arith) (omega arith)

-- and they are strictly in order
pub in_order-sorted : (xs : List ActivitySeen) → AllPairs (λ a b. a.id ≢ b.id) xs → IsStrictlySortedBy order (in_order xs)
unfolding in_order IsStrictlySortedBy
in_order-sorted [] apart = tt
in_order-sorted (a ∷ more) apart =
    put-sorted a (in_order more) (in_order-sorted more (rest_apart a more apart))
    (All-permutation (λ b. order a b ≢ Equal) more (in_order more) (in_order-permutes more) (first_apart a more apart))

here_or_behind : (x : ActivitySeen) (y : ActivitySeen) (ys : List ActivitySeen) → Contains (y ∷ ys) x → (y ≡ x) ⊎ Contains ys x
here_or_behind x y ys (zero, within, is) = inl is
here_or_behind x y ys (suc k, within, is) = inr (k, omega arith, is)

here : (y : ActivitySeen) (ys : List ActivitySeen) → Contains (y ∷ ys) y
here y ys = (0, omega arith, refl)

behind : (x y : ActivitySeen) (ys : List ActivitySeen) → Contains ys x → Contains (y ∷ ys) x
behind x y ys (k, within, is) = (suc k, omega arith, is)

later : (x y : ActivitySeen) (ys : List ActivitySeen) → IsStrictlySortedBy order (y ∷ ys) → Contains ys x → order y x ≡ Less
later x y ys up (k, within, is) = subst (λ z. order y z ≡ Less) is (All-after_first order y ys up k x within)

-- the firsts of two lists with the same activities are the same one
same_first : (x y : ActivitySeen) (xs ys : List ActivitySeen) → IsStrictlySortedBy order (x ∷ xs) → IsStrictlySortedBy order (y ∷ ys)
    → Contains (y ∷ ys) x → Contains (x ∷ xs) y → x ≡ y
same_first x y xs ys up_x up_y has_x has_y = by (here_or_behind x y ys has_x) (here_or_behind y x xs has_y)
  where
    by : (y ≡ x) ⊎ Contains ys x → (x ≡ y) ⊎ Contains xs y → x ≡ y
    by (inl same) q = sym same
    by (inr p) (inl same) = same
    by (inr p) (inr q) = absurd (never (order x y) (later y x xs up_x q) (sym (order_total.antisymm y x) ∙ later x y ys up_y p))
      where
        never : (o : Ordering) → o ≡ Less → ordering_reverse o ≡ Less → ⊥
        never Less e f = cc
        never Equal e f = cc
        never Greater e f = cc

-- and what is behind them in the one is behind them in the other
others : (x : ActivitySeen) (xs ys : List ActivitySeen) → IsStrictlySortedBy order (x ∷ xs)
    → ((z : ActivitySeen) → Contains (x ∷ xs) z → Contains (x ∷ ys) z) → (z : ActivitySeen) → Contains xs z → Contains ys z
others x xs ys up has z in_xs = by (here_or_behind z x ys (has z (behind z x xs in_xs)))
  where
    by : (x ≡ z) ⊎ Contains ys z → Contains ys z
    by (inl same) = absurd (never (later z x xs up in_xs) (subst (λ y. order x y ≡ Equal) same (tied_itself order_total x)))
      where
        never : order x z ≡ Less → order x z ≡ Equal → ⊥
        never e f = cc
    by (inr q) = q

-- two lists strictly in order with the same activities are equal
pub same_sorted : (xs ys : List ActivitySeen) → IsStrictlySortedBy order xs → IsStrictlySortedBy order ys
    → ((z : ActivitySeen) → Contains xs z → Contains ys z) → ((z : ActivitySeen) → Contains ys z → Contains xs z) → xs ≡ ys
same_sorted [] [] up_x up_y to from = refl
same_sorted [] (y ∷ ys) up_x up_y to from = absurd (none (from y (here y ys)))
  where
    none : Contains [] y → ⊥
    none (k, within, is) = absurd (omega arith)
same_sorted (x ∷ xs) [] up_x up_y to from = absurd (none (to x (here x xs)))
  where
    none : Contains [] x → ⊥
    none (k, within, is) = absurd (omega arith)
same_sorted (x ∷ xs) (y ∷ ys) up_x up_y to from =
    let same = same_first x y xs ys up_x up_y (to x (here x xs)) (from y (here y ys)) in
    ap₂ (λ a more. a ∷ more) same
    (same_sorted xs ys (sorted_tail order x xs up_x) (sorted_tail order y ys up_y)
    (others x xs ys up_x (λ z h. subst (λ w. Contains (w ∷ ys) z) (sym same) (to z h)))
    (others y ys xs up_y (λ z h. subst (λ w. Contains (w ∷ xs) z) same (from z h))))

-- a list strictly in order with the same activities, where ids differ, is the one list in order
pub in_order-from_sorted : (xs ys : List ActivitySeen) → AllPairs (λ a b. a.id ≢ b.id) xs → IsPermutation xs ys → IsStrictlySortedBy order ys → ys ≡ in_order xs
in_order-from_sorted xs ys apart moved up = same_sorted ys (in_order xs) up (in_order-sorted xs apart)
    (λ z h. Contains-permutation xs (in_order xs) z (in_order-permutes xs) (Contains-permutation ys xs z (IsPermutation-sym xs ys moved) h))
    (λ z h. Contains-permutation xs ys z moved (Contains-permutation (in_order xs) xs z (IsPermutation-sym xs (in_order xs) (in_order-permutes xs)) h))

same_id : ActivitySeen → ActivitySeen → Bool
same_id a b = bytes_eq a.id b.id

-- ids that differ do so in any order
pub differ_anywhere : (xs ys : List ActivitySeen) → AllPairs (λ a b. a.id ≢ b.id) xs → IsPermutation xs ys → AllPairs (λ a b. a.id ≢ b.id) ys
unfolding same_id
differ_anywhere xs ys apart moved i j d less within same =
    let distinct = IsDistinct-from_apart same_id xs (λ i j d less within. not_same (get_or xs i d).id (get_or xs j d).id (apart i j d less within)) in
    let differ = apart_from_distinct same_id ys i j d (IsDistinct-IsPermutation same_id (λ a b. nat_list_eq_equiv.symm a.id b.id) xs ys moved distinct) less within in
    true≢false (sym ((bytes_eq-Decides (get_or ys i d).id (get_or ys j d).id).1 same) ∙ differ)
  where
    not_same : (x y : List ℕ) → x ≢ y → bytes_eq x y ≡ false
    not_same x y differ = by (bytes_eq x y) (bytes_eq-Decides x y).0
      where
        by : (t : Bool) → (t ≡ true → x ≡ y) → t ≡ false
        by true says = absurd (differ (says refl))
        by false says = refl

-- what a sort by start and id leaves is the list in order
pub in_order-from_sort : (xs ys : List ActivitySeen) → AllPairs (λ a b. a.id ≢ b.id) xs → IsPermutation xs ys → IsSortedBy (λ a b. is_lt (order a b)) ys → ys ≡ in_order xs
in_order-from_sort xs ys apart moved up =
    let differ = differ_anywhere xs ys apart moved in
    in_order-from_sorted xs ys apart moved (sorted_from_all_adjacent order_total ys no_activity (λ k within.
    turned (get_or ys (k + 1) no_activity) (get_or ys k no_activity) (up k no_activity (omega arith) within)
    (λ tie. differ k (k + 1) no_activity (omega arith) within (sym (id_from_tie (get_or ys (k + 1) no_activity) (get_or ys k no_activity) tie)))))

-- the book's test holds of each activity and each later one
pub in_order-ordered : (xs : List ActivitySeen) → AllPairs (λ a b. a.id ≢ b.id) xs → AllPairs (λ a b. IsTrue (comes_before a b)) (in_order xs)
in_order-ordered xs apart i j d less within =
    let a = get_or (in_order xs) i d in
    let b = get_or (in_order xs) j d in
    comes_before-order a b ∙ ap is_lt (Less-from_sorted order (in_order xs) i j d (in_order-sorted xs apart) less within)
