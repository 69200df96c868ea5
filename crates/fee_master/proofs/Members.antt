-- Which numbers the lists of a pool have: each route of an aircraft once, and each route with an activity once. A list
-- is a filter of a range, or of the lists of several aircraft joined. A filter keeps numbers apart, and the lists of
-- two aircraft share none, since a route is of one aircraft.
use Rattle.std.proofs.Common.{◌≡◌, ◌≢◌, ◌⊎◌, ◌<◌, ◌≤◌, ◌+◌, ℕ, zero, suc, arith, refl, sym, ◌∙◌, ap, inl, inr, Bool, true, false, cond, List, [], ◌∷◌, ◌++◌, length, get_or}
use Rattle.std.specs.Prelude.{nat_eq, ◌||◌, filter}
use Rattle.std.specs.List.{flat_map, range_with_len}
use Rattle.std.proofs.lemmas.Bool.{cases_eq, eq-eqb, eqb-true, both_ways}
use Rattle.std.proofs.lemmas.List.Folds.{list_any-append}
use Rattle.tail_book.specs.Numbers.{contains}
use Rattle.restricted_master.specs.Seen.{PoolSeen}
use Rattle.restricted_master.specs.Pool.{aircraft_at}
use Rattle.restricted_master.specs.Lists.{is_of, has, numbers_of, in_order}

pub not_equal : (a b : ℕ) → a ≢ b → nat_eq a b ≡ false
not_equal a b ne = go (nat_eq a b) refl
  where
    go : (t : Bool) → nat_eq a b ≡ t → nat_eq a b ≡ false
    go true e = absurd (ne (eqb-true a b e))
    go false e = e

pub or_cases : (s t : Bool) → (s || t) ≡ true → (s ≡ true) ⊎ (t ≡ true)
or_cases true t e = inl refl
or_cases false t e = inr e

pub or_left : (s t : Bool) → s ≡ true → (s || t) ≡ true
or_left s t e = ap (λ (b : Bool). b || t) e

pub or_right : (s t : Bool) → t ≡ true → (s || t) ≡ true
or_right true t e = refl
or_right false t e = e

pub true_or_false : (b : Bool) → (b ≡ true) ⊎ (b ≡ false)
true_or_false true = inl refl
true_or_false false = inr refl

-- a number that a list has stands at a place of it
pub place_of : (xs : List ℕ) (i : ℕ) → contains xs i ≡ true → (p : ℕ) × (p < length xs) × (get_or xs p 0 ≡ i)
place_of [] i e = absurd (both_ways false refl e)
place_of (x ∷ xs) i e = elim (or_cases (nat_eq i x) (contains xs i) e) [
  | inl here ↦ (0, omega arith, sym (eqb-true i x here))
  | inr later ↦ (let (p, below, is) = place_of xs i later in (suc p, omega (arith, below), is))
]

pub at_place : (xs : List ℕ) (p : ℕ) → p < length xs → contains xs (get_or xs p 0) ≡ true
at_place [] p below = absurd (omega (arith, below))
at_place (x ∷ xs) zero below = or_left (nat_eq x x) (contains xs x) (eq-eqb x x refl)
at_place (x ∷ xs) (suc p) below = or_right (nat_eq (get_or xs p 0) x) (contains xs (get_or xs p 0)) (at_place xs p (omega (arith, below)))

-- what passes a test in a list
pub in_filter : (r : ℕ → Bool) (xs : List ℕ) (i : ℕ) → contains (filter r xs) i ≡ true → (r i ≡ true) × (contains xs i ≡ true)
in_filter r [] i e = absurd (both_ways false refl e)
in_filter r (x ∷ xs) i e = go (r x) refl e (in_filter r xs i)
  where
    go : (t : Bool) → r x ≡ t → contains (cond t (x ∷ filter r xs) (filter r xs)) i ≡ true
        → (contains (filter r xs) i ≡ true → (r i ≡ true) × (contains xs i ≡ true)) → (r i ≡ true) × (contains (x ∷ xs) i ≡ true)
    go true is h rest = elim (or_cases (nat_eq i x) (contains (filter r xs) i) h) [
      | inl here ↦ (ap r (eqb-true i x here) ∙ is, or_left (nat_eq i x) (contains xs i) here)
      | inr later ↦ (let (pass, member) = rest later in (pass, or_right (nat_eq i x) (contains xs i) member))
    ]
    go false is h rest = let (pass, member) = rest h in (pass, or_right (nat_eq i x) (contains xs i) member)

pub into_filter : (r : ℕ → Bool) (xs : List ℕ) (i : ℕ) → r i ≡ true → contains xs i ≡ true → contains (filter r xs) i ≡ true
into_filter r [] i pass e = e
into_filter r (x ∷ xs) i pass e = go (r x) refl (or_cases (nat_eq i x) (contains xs i) e) (into_filter r xs i pass)
  where
    go : (t : Bool) → r x ≡ t → (nat_eq i x ≡ true) ⊎ (contains xs i ≡ true) → (contains xs i ≡ true → contains (filter r xs) i ≡ true)
        → contains (cond t (x ∷ filter r xs) (filter r xs)) i ≡ true
    go true is (inl here) rest = or_left (nat_eq i x) (contains (filter r xs) i) here
    go true is (inr later) rest = or_right (nat_eq i x) (contains (filter r xs) i) (rest later)
    go false is (inl here) rest = absurd (both_ways (r i) (ap r (eqb-true i x here) ∙ is) pass)
    go false is (inr later) rest = rest later

pub in_range : (s n i : ℕ) → contains (range_with_len s n) i ≡ true → (s ≤ i) × (i < s + n)
in_range s zero i e = absurd (both_ways false refl e)
in_range s (suc n) i e = elim (or_cases (nat_eq i s) (contains (range_with_len (s + 1) n) i) e) [
  | inl here ↦ (let is = eqb-true i s here in (omega (arith, is), omega (arith, is)))
  | inr later ↦ (let (from, to) = in_range (s + 1) n i later in (omega (arith, from), omega (arith, to)))
]

pub into_range : (s n i : ℕ) → s ≤ i → i < s + n → contains (range_with_len s n) i ≡ true
into_range s zero i from to = absurd (omega (arith, from, to))
into_range s (suc n) i from to = elim (cases_eq i s) [
  | inl e ↦ or_left (nat_eq i s) (contains (range_with_len (s + 1) n) i) (eq-eqb i s e)
  | inr ne ↦ or_right (nat_eq i s) (contains (range_with_len (s + 1) n) i) (into_range (s + 1) n i (omega (arith, from, ne)) (omega (arith, to)))
]

pub in_append : (xs ys : List ℕ) (i : ℕ) → contains (xs ++ ys) i ≡ true → (contains xs i ≡ true) ⊎ (contains ys i ≡ true)
in_append xs ys i e = or_cases (contains xs i) (contains ys i) (sym (list_any-append (nat_eq i) xs ys) ∙ e)

pub into_append_left : (xs ys : List ℕ) (i : ℕ) → contains xs i ≡ true → contains (xs ++ ys) i ≡ true
into_append_left xs ys i e = list_any-append (nat_eq i) xs ys ∙ or_left (contains xs i) (contains ys i) e

pub into_append_right : (xs ys : List ℕ) (i : ℕ) → contains ys i ≡ true → contains (xs ++ ys) i ≡ true
into_append_right xs ys i e = list_any-append (nat_eq i) xs ys ∙ or_right (contains xs i) (contains ys i) e

module _ (pool : PoolSeen) where
  -- the numbers of an aircraft are its routes
  pub in_numbers : (k i : ℕ) → contains (numbers_of pool k) i ≡ true → (i < length pool.entries) × (is_of pool k i ≡ true)
  in_numbers k i e =
      let (pass, member) = in_filter (is_of pool k) (range_with_len 0 (length pool.entries)) i e in
      let (from, to) = in_range 0 (length pool.entries) i member in
      (omega (arith, to), pass)

  pub into_numbers : (k i : ℕ) → i < length pool.entries → is_of pool k i ≡ true → contains (numbers_of pool k) i ≡ true
  into_numbers k i below pass =
      into_filter (is_of pool k) (range_with_len 0 (length pool.entries)) i pass (into_range 0 (length pool.entries) i (omega arith) (omega (arith, below)))

  -- and those of some aircraft one after the other are routes of these
  in_all : (ks : List ℕ) (i : ℕ) → contains (flat_map (numbers_of pool) ks) i ≡ true → (i < length pool.entries) × (contains ks (aircraft_at pool i) ≡ true)
  in_all [] i e = absurd (both_ways false refl e)
  in_all (k ∷ ks) i e = elim (in_append (numbers_of pool k) (flat_map (numbers_of pool) ks) i e) [
    | inl here ↦ (let (below, pass) = in_numbers k i here in
        (below, or_left (nat_eq (aircraft_at pool i) k) (contains ks (aircraft_at pool i)) (eq-eqb (aircraft_at pool i) k (sym (eqb-true k (aircraft_at pool i) pass)))))
    | inr later ↦ (let (below, member) = in_all ks i later in
        (below, or_right (nat_eq (aircraft_at pool i) k) (contains ks (aircraft_at pool i)) member))
  ]

  into_all : (ks : List ℕ) (i : ℕ) → i < length pool.entries → contains ks (aircraft_at pool i) ≡ true → contains (flat_map (numbers_of pool) ks) i ≡ true
  into_all [] i below e = e
  into_all (k ∷ ks) i below e = elim (or_cases (nat_eq (aircraft_at pool i) k) (contains ks (aircraft_at pool i)) e) [
    | inl here ↦ into_append_left (numbers_of pool k) (flat_map (numbers_of pool) ks) i
        (into_numbers k i below (eq-eqb k (aircraft_at pool i) (sym (eqb-true (aircraft_at pool i) k here))))
    | inr later ↦ into_append_right (numbers_of pool k) (flat_map (numbers_of pool) ks) i (into_all ks i below later)
  ]

  -- the routes with an activity
  pub in_list : (m a i : ℕ) → contains (filter (has pool a) (in_order pool m)) i ≡ true → (i < length pool.entries) × (has pool a i ≡ true)
  in_list m a i e =
      let (pass, member) = in_filter (has pool a) (in_order pool m) i e in
      ((in_all (range_with_len 0 m) i member).0, pass)

  pub into_list : (m a i : ℕ) → i < length pool.entries → aircraft_at pool i < m → has pool a i ≡ true
      → contains (filter (has pool a) (in_order pool m)) i ≡ true
  into_list m a i below within pass =
      into_filter (has pool a) (in_order pool m) i pass
      (into_all (range_with_len 0 m) i below (into_range 0 m (aircraft_at pool i) (omega arith) (omega (arith, within))))
