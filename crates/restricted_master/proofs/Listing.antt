-- The lists of routes by aircraft and by activity, as they grow by one route or one aircraft at a time. A list is what
-- passes a test among the numbers so far, and those with one more have it at the end: so the list of the aircraft that
-- the route is of gets the number last, and all others stay. By activity the same holds along a route, whose activities
-- rise, so no list gets the number twice.
use Rattle.std.proofs.Common.{◌≡◌, ◌≢◌, ◌<◌, ◌≤◌, ◌+◌, ℕ, zero, suc, arith, refl, sym, ◌∙◌, ap, ap₂, inl, inr, Bool, true, false, cond, List, [], ◌∷◌, ◌++◌, length, get_or, set, take}
use Rattle.std.specs.Prelude.{All, nat_eq, ◌||◌, filter, if◌then◌else◌}
use Rattle.std.specs.List.{flat_map, range_with_len}
use Rattle.std.proofs.lemmas.Bool.{cases_eq, eq-eqb, eqb-true}
use Rattle.std.proofs.lemmas.Grind.{flat_map-append}
use Rattle.std.proofs.lemmas.List.{append-nil, length-set, take_more, get_or-set_same, get_or-set_other}
use Rattle.std.proofs.lemmas.List.Elements.{All-nil, All-cons, filter-append}
use Rattle.std.proofs.lemmas.List.Folds.{list_any-append}
use Rattle.tail_book.specs.declared.place.Place.{Place}
use Rattle.tail_book.specs.declared.place.Place.TheVariants.{After}
use Rattle.tail_book.specs.Numbers.{contains}
use Rattle.tail_book.specs.inside.Rising.{IsRisingFrom}
use Rattle.restricted_master.specs.Seen.{PoolSeen}
use Rattle.restricted_master.specs.Pool.{aircraft_at}
use Rattle.restricted_master.specs.Lists.{is_of, has, numbers_of, in_order, list_at}
use Rattle.restricted_master.specs.inside.Listing.{AreOwn, AreListedBy, GrowBy, GrowByOne}

suc_more : (n : ℕ) → suc n + 1 ≡ suc (n + 1)
suc_more n = omega arith

pub range_more : (a n : ℕ) → range_with_len a (n + 1) ≡ range_with_len a n ++ (a + n) ∷ []
range_more a zero = ap (λ (b : ℕ). b ∷ []) (omega arith)
range_more a (suc n) =
    ap (range_with_len a) (suc_more n) ∙ ap (λ (rest : List ℕ). a ∷ rest) (range_more (a + 1) n ∙ ap (λ (b : ℕ). range_with_len (a + 1) n ++ b ∷ []) (omega arith))

pub range_from_0 : (n : ℕ) → range_with_len 0 (n + 1) ≡ range_with_len 0 n ++ n ∷ []
range_from_0 n = range_more 0 n ∙ ap (λ (b : ℕ). range_with_len 0 n ++ b ∷ []) (omega arith)

pub not_equal : (a b : ℕ) → a ≢ b → nat_eq a b ≡ false
not_equal a b ne = go (nat_eq a b) refl
  where
    go : (t : Bool) → nat_eq a b ≡ t → nat_eq a b ≡ false
    go true e = absurd (ne (eqb-true a b e))
    go false e = e

one_below : (c a : ℕ) (rest : List ℕ) (t : Bool) → a < c → All (λ i. i < c) rest → All (λ i. i < c) (cond t (a ∷ rest) rest)
one_below c a rest true below all = All-cons (λ (i : ℕ). i < c) a rest below all
one_below c a rest false below all = all

-- what passes a test among numbers below c is below c
pub filter_below : (p : ℕ → Bool) (a n c : ℕ) → a + n ≤ c → All (λ i. i < c) (filter p (range_with_len a n))
filter_below p a zero c le = All-nil (λ (i : ℕ). i < c)
filter_below p a (suc n) c le =
    one_below c a (filter p (range_with_len (a + 1) n)) (p a) (omega (arith, le)) (filter_below p (a + 1) n c (omega (arith, le)))

-- one route more for its aircraft
pub own_more : (pool : PoolSeen) (m count : ℕ) (lists later : List (List ℕ)) (k : ℕ) → AreOwn pool m count lists → k ≡ aircraft_at pool count → k < m
    → later ≡ set lists k (list_at lists k ++ count ∷ []) → AreOwn pool m (count + 1) later
own_more pool m count lists later k are is below same = record {
  each = ap length same ∙ length-set lists k (list_at lists k ++ count ∷ []) ∙ are.each;
  own = own;
}
  where
    more : (j : ℕ) (t : Bool) → nat_eq j (aircraft_at pool count) ≡ t
        → filter (is_of pool j) (range_with_len 0 (count + 1)) ≡ filter (is_of pool j) (range_with_len 0 count) ++ cond t (count ∷ []) []
    more j t e =
        ap (filter (is_of pool j)) (range_from_0 count) ∙ filter-append (is_of pool j) (range_with_len 0 count) (count ∷ [])
        ∙ ap (λ (b : Bool). filter (is_of pool j) (range_with_len 0 count) ++ cond b (count ∷ []) []) e

    own : (j : ℕ) → j < m → list_at later j ≡ filter (is_of pool j) (range_with_len 0 (count + 1))
    own j within = elim (cases_eq j k) [
      | inl e ↦
          (let here : k < length lists = omega (arith, below, are.each) in
          ap₂ list_at same e ∙ get_or-set_same lists k (list_at lists k ++ count ∷ []) [] here
          ∙ ap (λ (xs : List ℕ). xs ++ count ∷ []) (ap (list_at lists) (sym e) ∙ are.own j within)
          ∙ sym (more j true (eq-eqb j (aircraft_at pool count) (e ∙ is))))
      | inr ne ↦
          (let other : j ≢ aircraft_at pool count = λ e. ne (e ∙ sym is) in
          ap (λ (ls : List (List ℕ)). list_at ls j) same ∙ get_or-set_other lists k j (list_at lists k ++ count ∷ []) [] ne
          ∙ are.own j within ∙ sym (append-nil (filter (is_of pool j) (range_with_len 0 count)))
          ∙ sym (more j false (not_equal j (aircraft_at pool count) other)))
    ]

-- the numbers of a route rise, so none comes twice
above : (n b : ℕ) (rest : List ℕ) (q : ℕ) → IsRisingFrom n (After b) rest → q < length rest → b < get_or rest q 0
above n b [] q rises below = absurd (omega (arith, below))
above n b (c ∷ rest) zero rises below = rises.0
above n b (c ∷ rest) (suc q) rises below =
    let after = above n c rest q rises.2 (omega (arith, below)) in omega (arith, after, rises.0)

pub rising_apart : (n : ℕ) (x : Place) (route : List ℕ) (q : ℕ) → IsRisingFrom n x route → q < length route
    → contains (take q route) (get_or route q 0) ≡ false
rising_apart n x [] q rises below = absurd (omega (arith, below))
rising_apart n x (b ∷ rest) zero rises below = refl
rising_apart n x (b ∷ rest) (suc q) rises below =
    let after = above n b rest q rises.2 (omega (arith, below)) in
    let ne : get_or rest q 0 ≢ b = omega (arith, after) in
    ap (λ (t : Bool). t || contains (take q rest) (get_or rest q 0)) (not_equal (get_or rest q 0) b ne)
    ∙ rising_apart n (After b) rest q rises.2 (omega (arith, below))

pub rising_in : (n : ℕ) (x : Place) (route : List ℕ) (q : ℕ) → IsRisingFrom n x route → q < length route → get_or route q 0 < n
rising_in n x [] q rises below = absurd (omega (arith, below))
rising_in n x (b ∷ rest) zero rises below = rises.1
rising_in n x (b ∷ rest) (suc q) rises below = rising_in n (After b) rest q rises.2 (omega (arith, below))

pub contains_more : (route : List ℕ) (q a b : ℕ) → q < length route → get_or route q 0 ≡ b
    → contains (take (q + 1) route) a ≡ (contains (take q route) a || (nat_eq a b || false))
contains_more route q a b below is =
    ap (λ (xs : List ℕ). contains xs a) (take_more route q 0 below)
    ∙ list_any-append (nat_eq a) (take q route) (get_or route q 0 ∷ [])
    ∙ ap (λ (c : ℕ). contains (take q route) a || (nat_eq a c || false)) is

pub or_false : (t : Bool) → (t || false) ≡ t
or_false true = refl
or_false false = refl

pub grow_one : (route : List ℕ) (q i b : ℕ) (old mid later : List (List ℕ)) → GrowByOne (take q route) i old mid → q < length route → get_or route q 0 ≡ b
    → b < length old → contains (take q route) b ≡ false → later ≡ set mid b (list_at mid b ++ i ∷ []) → GrowByOne (take (q + 1) route) i old later
grow_one route q i b old mid later grown below is within new same = record {
  each = ap length same ∙ length-set mid b (list_at mid b ++ i ∷ []) ∙ grown.each;
  more = more;
}
  where
    tail : Bool → List ℕ
    tail t = if t then i ∷ [] else []

    more : (a : ℕ) → a < length old → list_at later a ≡ list_at old a ++ (if contains (take (q + 1) route) a then i ∷ [] else [])
    more a lt = elim (cases_eq a b) [
      | inl e ↦
          (let here : b < length mid = omega (arith, within, grown.each) in
          let before : contains (take q route) a ≡ false = ap (contains (take q route)) e ∙ new in
          let now : contains (take (q + 1) route) a ≡ true =
          contains_more route q a b below is ∙ ap₂ (λ (s t : Bool). s || (t || false)) before (eq-eqb a b e) in
          ap₂ list_at same e ∙ get_or-set_same mid b (list_at mid b ++ i ∷ []) [] here
          ∙ ap (λ (xs : List ℕ). xs ++ i ∷ []) (ap (list_at mid) (sym e) ∙ grown.more a lt
          ∙ ap (λ (t : Bool). list_at old a ++ (if t then i ∷ [] else [])) before ∙ append-nil (list_at old a))
          ∙ ap (λ (t : Bool). list_at old a ++ (if t then i ∷ [] else [])) (sym now))
      | inr ne ↦
          (let now : contains (take (q + 1) route) a ≡ contains (take q route) a =
          contains_more route q a b below is ∙ ap (λ (t : Bool). contains (take q route) a || (t || false)) (not_equal a b ne)
          ∙ or_false (contains (take q route) a) in
          ap (λ (ls : List (List ℕ)). list_at ls a) same ∙ get_or-set_other mid b a (list_at mid b ++ i ∷ []) [] ne
          ∙ grown.more a lt ∙ ap (λ (t : Bool). list_at old a ++ (if t then i ∷ [] else [])) (sym now))
    ]

-- one aircraft more
pub listed_more : (pool : PoolSeen) (n k : ℕ) (numbers : List ℕ) (lists later : List (List ℕ)) → AreListedBy pool n k lists → numbers ≡ numbers_of pool k
    → GrowBy pool numbers lists later → AreListedBy pool n (k + 1) later
listed_more pool n k numbers lists later are is grown = record {
  each = grown.each ∙ are.each;
  listed = λ a lt.
      let here : a < length lists = omega (arith, lt, are.each) in
      grown.more a here ∙ ap₂ (λ (xs ys : List ℕ). xs ++ filter (has pool a) ys) (are.listed a lt) is
      ∙ sym (ap (filter (has pool a)) (ap (flat_map (numbers_of pool)) (range_from_0 k)
      ∙ flat_map-append (numbers_of pool) (range_with_len 0 k) (k ∷ [])
      ∙ ap (λ (xs : List ℕ). in_order pool k ++ xs) (append-nil (numbers_of pool k)))
      ∙ filter-append (has pool a) (in_order pool k) (numbers_of pool k));
}
