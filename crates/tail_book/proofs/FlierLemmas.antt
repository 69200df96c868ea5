-- From fliers to routes and back: an activity stands in the one route of its flier, and rising numbers have one order.
--
-- The route of `k` by fliers picks, of all activities in their order, those whose flier is `k`. So it rises, it has
-- these once each and no other, and all routes together have each activity once. The flier of an activity is the first
-- whose route has it, in a legal plan the only one. The hard case is that the fliers of a legal plan give the same
-- lists again: its routes rise, those by fliers rise too and have the same numbers, and two such lists are equal
-- (`RisingLists`).
use Rattle.std.proofs.Common.{◌≡◌, ℕ, zero, suc, ◌+◌, ◌<◌, ◌≤◌, inl, inr, Bool, true, false, cond, arith, List, [], ◌∷◌, length, get_or, refl, ap, sym, subst, ◌∙◌}
use Rattle.std.proofs.lemmas.Bool.{cases_eq, cases_lt, both_ways, eq-eqb, ne_eqb}
use Rattle.std.proofs.lemmas.Grind.{same_number_lists}
use Rattle.std.proofs.lemmas.List.{ext_get_or}
use Rattle.std.proofs.lemmas.List.Elements.{All-get_or, All-from_get_or}
use Rattle.std.proofs.lemmas.List.FromFn.{length-map-range_with_len, get_or-map-range_with_len}
use Rattle.std.specs.Prelude.{All, count_by, nat_eq, not}
use Rattle.std.specs.List.{filter, range_with_len}
use Rattle.tail_book.specs.Seen.{BookSeen}
use Rattle.tail_book.specs.declared.place.Place.{Place}
use Rattle.tail_book.specs.declared.place.Place.TheVariants.{Carry, After}
use Rattle.tail_book.specs.Numbers.{contains}
use Rattle.tail_book.specs.Lookup.{activities, aircraft, carry_of}
use Rattle.tail_book.specs.Route.{IsLegalRoute}
use Rattle.tail_book.specs.Plan.{times_flown, route_of, IsLegalPlan}
use Rattle.tail_book.specs.Place.{IsBefore}
use Rattle.tail_book.specs.inside.Rising.{IsRisingFrom}
use Rattle.tail_book.specs.inside.Sound.{IsBook}
use Rattle.tail_book.specs.inside.Sums.{IsPartition}
use Rattle.tail_book.specs.inside.Partition.{all_flown}
use Rattle.tail_book.specs.Fliers.{flier, fliers_of, route_by, plan_by}
use Rattle.tail_book.proofs.Sums.{count_here, count_other}
use Rattle.tail_book.proofs.Timed.{timed_of}
use Rattle.tail_book.proofs.Rise.{rises_from}
use Rattle.tail_book.proofs.Partition.{each_flown}
use Rattle.tail_book.proofs.RouteBounds.{rising_below}
use Rattle.tail_book.proofs.FlownOnce.{contains_counts, contained_from_count, one_flier, someone_flies}
use Rattle.tail_book.proofs.FlownTimes.{one_in_all}
use Rattle.tail_book.proofs.RisingLists.{none_before, none_past, rising_once, contains_is, rising_same}

-- the numbers of a range that pass a test

module _ (test : ℕ → Bool) (n : ℕ) where
  picked_head : (b : Bool) (x : Place) (s : ℕ) (rest : List ℕ) → IsBefore x s → s < n → IsRisingFrom n (After s) rest → IsRisingFrom n x rest
      → IsRisingFrom n x (cond b (s ∷ rest) rest)
  picked_head true x s rest before lt after skipped = (before, lt, after)
  picked_head false x s rest before lt after skipped = skipped

  pub picked_rise : (s m : ℕ) (x : Place) → ((b : ℕ) → s ≤ b → IsBefore x b) → s + m ≡ n → IsRisingFrom n x (filter test (range_with_len s m))
  picked_rise s zero x before e = tt
  picked_rise s (suc m) x before e =
      picked_head (test s) x s (filter test (range_with_len (s + 1) m)) (before s (omega arith)) (omega (arith, e))
      (picked_rise (s + 1) m (After s) (λ b le. omega (arith, le)) (omega (arith, e)))
      (picked_rise (s + 1) m x (λ b le. before b (omega (arith, le))) (omega (arith, e)))

  here_head : (b : Bool) (a s : ℕ) (rest : List ℕ) → a ≡ s → count_by (nat_eq a) rest ≡ 0 → count_by (nat_eq a) (cond b (s ∷ rest) rest) ≡ cond b 1 0
  here_head true a s rest e none = let c = count_here a s rest e in omega (arith, c, none)
  here_head false a s rest e none = none

  other_head : (b : Bool) (a s : ℕ) (rest : List ℕ) → (a ≡ s → ⊥) → count_by (nat_eq a) (cond b (s ∷ rest) rest) ≡ count_by (nat_eq a) rest
  other_head true a s rest ne = count_other a s rest ne
  other_head false a s rest ne = refl

  -- a number of the range stands there once where it passes
  pub picked_count : (s m a : ℕ) → s + m ≡ n → s ≤ a → a < n → count_by (nat_eq a) (filter test (range_with_len s m)) ≡ cond (test a) 1 0
  picked_count s zero a e low high = absurd (omega (arith, e, low, high))
  picked_count s (suc m) a e low high = elim (cases_eq a s) [
    | inl same ↦ here_head (test s) a s (filter test (range_with_len (s + 1) m)) same
        (none_before n s (filter test (range_with_len (s + 1) m)) a
        (picked_rise (s + 1) m (After s) (λ b le. omega (arith, le)) (omega (arith, e))) (omega (arith, same)))
        ∙ ap (λ x. cond (test x) 1 0) (sym same)
    | inr ne ↦ other_head (test s) a s (filter test (range_with_len (s + 1) m)) ne ∙ picked_count (s + 1) m a (omega (arith, e)) (omega (arith, low, ne)) high
  ]

pub route_rises : (fliers : List ℕ) (k : ℕ) → IsRisingFrom (length fliers) Carry (route_by fliers k)
route_rises fliers k = picked_rise (λ a. nat_eq k (get_or fliers a 0)) (length fliers) 0 (length fliers) Carry (λ b le. tt) (omega arith)

-- an activity stands in the route of its flier alone
route_count : (fliers : List ℕ) (k a : ℕ) → a < length fliers → count_by (nat_eq a) (route_by fliers k) ≡ cond (nat_eq k (get_or fliers a 0)) 1 0
route_count fliers k a lt = picked_count (λ a. nat_eq k (get_or fliers a 0)) (length fliers) 0 (length fliers) a (omega arith) (omega arith) lt

route_has : (fliers : List ℕ) (k a : ℕ) → a < length fliers → contains (route_by fliers k) a ≡ nat_eq k (get_or fliers a 0)
route_has fliers k a lt = contains_is (route_by fliers k) a (nat_eq k (get_or fliers a 0)) (route_count fliers k a lt)

equal_when : (k f : ℕ) → nat_eq k f ≡ true → k ≡ f
equal_when k f h = elim (cases_eq k f) [
  | inl e ↦ e
  | inr ne ↦ absurd (both_ways _ (ne_eqb k f ne) h)
]

length_plan_by : (fliers : List ℕ) (m : ℕ) → length (plan_by fliers m) ≡ m
length_plan_by fliers m = length-map-range_with_len (route_by fliers) 0 m

plan_by_route : (fliers : List ℕ) (m k : ℕ) → k < m → route_of (plan_by fliers m) k ≡ route_by fliers k
plan_by_route fliers m k lt = get_or-map-range_with_len (route_by fliers) 0 m k k [] lt (omega arith)

past_end : (plan : List (List ℕ)) (k a : ℕ) → contains (route_of plan k) a ≡ true → k < length plan
past_end [] k a h = absurd (both_ways false refl h)
past_end (route ∷ plan) zero a h = omega arith
past_end (route ∷ plan) (suc k) a h = let lt = past_end plan k a h in omega (arith, lt)

module _ (fliers : List ℕ) (m : ℕ) (few : All (λ k. k < m) fliers) where
  flier_few : (a : ℕ) → a < length fliers → get_or fliers a 0 < m
  flier_few a lt = All-get_or (λ k. k < m) fliers a 0 lt few

  plan_has : (a : ℕ) → a < length fliers → contains (route_of (plan_by fliers m) (get_or fliers a 0)) a ≡ true
  plan_has a lt =
      ap (λ route. contains route a) (plan_by_route fliers m (get_or fliers a 0) (flier_few a lt))
      ∙ route_has fliers (get_or fliers a 0) a lt ∙ eq-eqb (get_or fliers a 0) (get_or fliers a 0) refl

  plan_only : (a : ℕ) → a < length fliers → (j : ℕ) → contains (route_of (plan_by fliers m) j) a ≡ true → j ≡ get_or fliers a 0
  plan_only a lt j h =
      let small : j < m = subst (λ n. j < n) (length_plan_by fliers m) (past_end (plan_by fliers m) j a h) in
      equal_when j (get_or fliers a 0)
      (sym (route_has fliers j a lt) ∙ ap (λ route. contains route a) (sym (plan_by_route fliers m j small)) ∙ h)

  plan_rises : All (IsRisingFrom (length fliers) Carry) (plan_by fliers m)
  plan_rises = All-from_get_or (IsRisingFrom (length fliers) Carry) (plan_by fliers m) []
      (λ k lt. subst (IsRisingFrom (length fliers) Carry)
      (sym (plan_by_route fliers m k (subst (λ n. k < n) (length_plan_by fliers m) lt))) (route_rises fliers k))

  plan_once : (a : ℕ) → a < length fliers → times_flown (plan_by fliers m) a ≡ 1
  plan_once a lt =
      one_in_all (length fliers) (plan_by fliers m) plan_rises a (get_or fliers a 0) (past_end (plan_by fliers m) (get_or fliers a 0) a (plan_has a lt))
      (plan_has a lt) (plan_only a lt)

  pub plan_parts : IsPartition (length fliers) (all_flown (plan_by fliers m))
  plan_parts = record {
    below = each_flown (λ a. a < length fliers) (plan_by fliers m)
        (All-from_get_or (All (λ a. a < length fliers)) (plan_by fliers m) []
        (λ k lt. rising_below (length fliers) Carry (route_of (plan_by fliers m) k)
        (All-get_or (IsRisingFrom (length fliers) Carry) (plan_by fliers m) k [] lt plan_rises)));
    once = plan_once;
  }

-- whoever flies an activity is found as the first that does
first_flier : (plan : List (List ℕ)) (a : ℕ) → 1 ≤ times_flown plan a → contains (route_of plan (flier plan a)) a ≡ true
first_flier plan a some = let who = someone_flies plan a some in from plan who.0 who.2
  where
    at_first : (b : Bool) (route : List ℕ) (rest : List (List ℕ)) (n : ℕ) → contains route a ≡ b
        → (b ≡ false → contains (route_of rest n) a ≡ true) → contains (route_of (route ∷ rest) (cond (not b) (1 + n) 0)) a ≡ true
    at_first true route rest n here later = here
    at_first false route rest n here later =
        let next : suc n ≡ 1 + n = omega arith in subst (λ k. contains (route_of (route ∷ rest) k) a ≡ true) next (later refl)

    from : (plan : List (List ℕ)) (k : ℕ) → contains (route_of plan k) a ≡ true → contains (route_of plan (flier plan a)) a ≡ true
    from [] k h = absurd (both_ways false refl h)
    from (route ∷ rest) zero h = at_first (contains route a) route rest (flier rest a) refl (λ f. absurd (both_ways _ f h))
    from (route ∷ rest) (suc k) h = at_first (contains route a) route rest (flier rest a) refl (λ f. from rest k h)

pub fliers_again : (fliers : List ℕ) (m : ℕ) → All (λ k. k < m) fliers → fliers_of (plan_by fliers m) (length fliers) ≡ fliers
fliers_again fliers m few =
    let long = length-map-range_with_len (flier (plan_by fliers m)) 0 (length fliers) in
    same_number_lists (fliers_of (plan_by fliers m) (length fliers)) fliers long
    (λ a lt. let small : a < length fliers = subst (λ n. a < n) long lt in
    get_or-map-range_with_len (flier (plan_by fliers m)) 0 (length fliers) a a 0 small (omega arith)
    ∙ plan_only fliers m few a small (flier (plan_by fliers m) a)
    (first_flier (plan_by fliers m) a (let once = plan_once fliers m few a small in omega (arith, once))))

pub plan_legal : (book : BookSeen) (fliers : List ℕ) → length fliers ≡ activities book → All (λ k. k < aircraft book) fliers
    → ((k : ℕ) → k < aircraft book → IsLegalRoute book k (route_by fliers k)) → IsLegalPlan book (plan_by fliers (aircraft book))
plan_legal book fliers one_each few legal = record {
  one_each = length_plan_by fliers (aircraft book);
  routes = λ k lt. subst (IsLegalRoute book k) (sym (plan_by_route fliers (aircraft book) k lt)) (legal k lt);
  partition = λ a lt. plan_once fliers (aircraft book) few a (omega (arith, one_each, lt));
}

pub fliers_fly : (book : BookSeen) (plan : List (List ℕ)) → IsLegalPlan book plan → (a : ℕ) → a < activities book
    → (flier plan a < aircraft book) × (contains (route_of plan (flier plan a)) a ≡ true)
fliers_fly book plan legal a lt =
    let once = legal.partition a lt in
    let has = first_flier plan a (omega (arith, once)) in
    let small = past_end plan (flier plan a) a has in
    (omega (arith, legal.one_each, small), has)

one_or_none : (k f c : ℕ) → c ≤ 1 → (1 ≤ c → k ≡ f) → (k ≡ f → 1 ≤ c) → c ≡ cond (nat_eq k f) 1 0
one_or_none k f c most only some = elim (cases_eq k f) [
  | inl e ↦ (let one : c ≡ 1 = omega (arith, most, some e) in one ∙ ap (λ b. cond b 1 0) (sym (eq-eqb k f e)))
  | inr ne ↦ elim (cases_lt 0 c) [
    | inl more ↦ absurd (ne (only (omega (arith, more))))
    | inr none ↦ (let zero_is : c ≡ 0 = omega (arith, none) in zero_is ∙ ap (λ b. cond b 1 0) (sym (ne_eqb k f ne)))
  ]
]

module _ (book : BookSeen) (sound : IsBook book) (plan : List (List ℕ)) (legal : IsLegalPlan book plan) where
  rises : (k : ℕ) → k < aircraft book → IsRisingFrom (activities book) Carry (route_of plan k)
  rises k lt = rises_from book (timed_of book sound) k Carry (carry_of book k) (route_of plan k) tt (legal.routes k lt)

  -- an activity stands in the route of its flier, once, and in no other
  legal_count : (k a : ℕ) → k < aircraft book → a < activities book → count_by (nat_eq a) (route_of plan k) ≡ cond (nat_eq k (flier plan a)) 1 0
  legal_count k a lk la =
      let once = legal.partition a la in
      let flies = fliers_fly book plan legal a la in
      one_or_none k (flier plan a) (count_by (nat_eq a) (route_of plan k)) (rising_once (activities book) Carry (route_of plan k) a (rises k lk))
      (λ some. one_flier plan k (flier plan a) a once (contained_from_count (route_of plan k) a some) flies.1)
      (λ e. contains_counts (route_of plan k) a (subst (λ j. contains (route_of plan j) a ≡ true) (sym e) flies.1))

  pub plan_again : plan_by (fliers_of plan (activities book)) (aircraft book) ≡ plan
  plan_again =
      let long = length_plan_by (fliers_of plan (activities book)) (aircraft book) in
      ext_get_or [] (plan_by (fliers_of plan (activities book)) (aircraft book)) plan (long ∙ sym legal.one_each)
      (λ k lt. same_route k (subst (λ n. k < n) long lt))
    where
      many : length (fliers_of plan (activities book)) ≡ activities book
      many = length-map-range_with_len (flier plan) 0 (activities book)

      by_rises : (k : ℕ) → IsRisingFrom (activities book) Carry (route_by (fliers_of plan (activities book)) k)
      by_rises k = subst (λ n. IsRisingFrom n Carry (route_by (fliers_of plan (activities book)) k)) many (route_rises (fliers_of plan (activities book)) k)

      same_count : (k : ℕ) → k < aircraft book → (a : ℕ)
          → count_by (nat_eq a) (route_by (fliers_of plan (activities book)) k) ≡ count_by (nat_eq a) (route_of plan k)
      same_count k lk a = elim (cases_lt a (activities book)) [
        | inl la ↦ route_count (fliers_of plan (activities book)) k a (subst (λ n. a < n) (sym many) la)
            ∙ ap (λ f. cond (nat_eq k f) 1 0) (get_or-map-range_with_len (flier plan) 0 (activities book) a a 0 la (omega arith))
            ∙ sym (legal_count k a lk la)
        | inr past ↦ none_past (activities book) Carry (route_by (fliers_of plan (activities book)) k) a (by_rises k) past
            ∙ sym (none_past (activities book) Carry (route_of plan k) a (rises k lk) past)
      ]

      same_route : (k : ℕ) → k < aircraft book → route_of (plan_by (fliers_of plan (activities book)) (aircraft book)) k ≡ route_of plan k
      same_route k lk = plan_by_route (fliers_of plan (activities book)) (aircraft book) k lk
          ∙ rising_same (activities book) Carry Carry (route_by (fliers_of plan (activities book)) k) (route_of plan k) (by_rises k) (rises k lk) (same_count k lk)
