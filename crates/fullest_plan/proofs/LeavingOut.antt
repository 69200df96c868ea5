-- What fliers leave out. Nobody has the number of one aircraft more, so that its route is what nobody flies: with that route each
-- activity is flown once in all, and without it at most once, and not at all exactly where nobody flies it.
use Rattle.std.proofs.Common.{◌≡◌, ◌∙◌, ℕ, zero, suc, ◌+◌, ◌<◌, ◌≤◌, Bool, true, false, cond, arith, List, [], ◌∷◌, ◌++◌, length, refl, ap, sym, subst, map, get_or}
use Rattle.std.proofs.lemmas.Bool.Decides.{nat_tests}
use Rattle.std.proofs.lemmas.List.Elements.{All-from_get_or}
use Rattle.std.proofs.lemmas.List.Sums.{AllPass-from_list_all}
use Rattle.std.proofs.lemmas.List.FromFn.{length-map-range_with_len, get_or-map-range_with_len, map-range_with_len_more}
use Rattle.std.specs.Prelude.{All, count_by, nat_eq, nat_le, ◌==◌, replicate}
use Rattle.std.specs.List.{filter, flat_map, list_all, range_with_len}
use Rattle.tail_book.specs.Fliers.{plan_by, route_by}
use Rattle.tail_book.specs.Lookup.{activities, aircraft}
use Rattle.tail_book.specs.Plan.{route_of, times_flown}
use Rattle.tail_book.specs.Route.{IsLegalRoute}
use Rattle.tail_book.specs.Seen.{BookSeen}
use Rattle.tail_book.specs.inside.Flown.{TimesWithOneMoreRoute}
use Rattle.tail_book.specs.inside.Fliers.{PlansByFliersPartition}
use Rattle.tail_book.proofs.FlierLemmas.{picked_count, picked_rise}
use Rattle.tail_book.proofs.RouteBounds.{rising_below}
use Rattle.tail_book.specs.declared.place.Place.TheVariants.{Carry}
use Rattle.fullest_plan.specs.LeftOut.{AreLegalApart, IsLeftOut, flown_by_none}

-- tests that agree below an end pick the same numbers
same_picked : (p q : ℕ → Bool) (s m : ℕ) → ((a : ℕ) → a < s + m → p a ≡ q a) → filter p (range_with_len s m) ≡ filter q (range_with_len s m)
same_picked p q s zero agree = refl
same_picked p q s (suc m) agree =
    let here = agree s (omega arith) in
    let rest = same_picked p q (s + 1) m (λ a lt. agree a (omega (arith, lt))) in
    ap (λ (b : Bool). cond b (s ∷ filter p (range_with_len (s + 1) m)) (filter p (range_with_len (s + 1) m))) here
    ∙ ap (λ (xs : List ℕ). cond (q s) (s ∷ xs) xs) rest

-- a count beside one of a test, which are one together
none_where : (b : Bool) (times : ℕ) → times + cond b 1 0 ≡ 1 → b ≡ (times == 0)
none_where true zero e = refl
none_where true (suc times) e = absurd (omega (arith, e))
none_where false zero e = absurd (omega (arith, e))
none_where false (suc times) e = grind (arith, nat_tests)

at_most_one : (b : Bool) (times : ℕ) → times + cond b 1 0 ≡ 1 → times ≤ 1
at_most_one true times e = omega (arith, e)
at_most_one false times e = omega (arith, e)

module _ (more : TimesWithOneMoreRoute) (parts : PlansByFliersPartition) (fliers : List ℕ) (m : ℕ) (few : All (λ k. k < m + 1) fliers) where
  -- what m aircraft fly, and what the one behind them does
  beside : (a : ℕ) → a < length fliers → times_flown (plan_by fliers m) a + cond (nat_eq m (get_or fliers a 0)) 1 0 ≡ 1
  beside a lt =
      let all = (parts fliers (m + 1) few).once a lt in
      let last = more (plan_by fliers m) (route_by fliers m) a in
      let split = ap (λ (plan : List (List ℕ)). times_flown plan a) (map-range_with_len_more (route_by fliers) 0 m m (omega arith)) in
      let there = picked_count (λ x. nat_eq m (get_or fliers x 0)) (length fliers) 0 (length fliers) a (omega arith) (omega arith) lt in
      omega (arith, all, last, split, there)

  pub is_left_out : (book : BookSeen) → length fliers ≡ activities book → m ≡ aircraft book
      → ((k : ℕ) → k < m → IsLegalRoute book k (route_of (plan_by fliers (m + 1)) k)) → IsLeftOut book (route_by fliers m)
  is_left_out book long same legal = (
    plan_by fliers m,
    record {
      one_each = length-map-range_with_len (route_by fliers) 0 m ∙ same;
      legal = λ k lt. (let small : k < m = omega (arith, same, lt) in
          subst (IsLegalRoute book k)
          (get_or-map-range_with_len (route_by fliers) 0 (m + 1) k k [] (omega (arith, small)) (omega arith)
          ∙ sym (get_or-map-range_with_len (route_by fliers) 0 m k k [] small (omega arith)))
          (legal k small));
      none_twice = λ a lt. at_most_one (nat_eq m (get_or fliers a 0)) (times_flown (plan_by fliers m) a) (beside a (omega (arith, long, lt)));
    },
    same_picked (λ a. nat_eq m (get_or fliers a 0)) (λ a. times_flown (plan_by fliers m) a == 0) 0 (length fliers)
        (λ a lt. none_where (nat_eq m (get_or fliers a 0)) (times_flown (plan_by fliers m) a) (beside a (omega (arith, lt))))
        ∙ ap (λ (n : ℕ). filter (λ a. times_flown (plan_by fliers m) a == 0) (range_with_len 0 n)) long,
  )

-- what is left out is picked from the activities of the book
pub are_of_book : (book : BookSeen) (list : List ℕ) → IsLeftOut book list → All (λ a. a < activities book) list
are_of_book book list left =
    let n = activities book in
    let picked = picked_rise (λ a. times_flown left.0 a == 0) n 0 n Carry (λ b le. tt) (omega arith) in
    subst (All (λ a. a < n)) (sym left.2) (rising_below n Carry (flown_by_none book left.0) picked)

-- numbers that are tested to be at most m are below the next one
pub few_of : (fliers : List ℕ) (m : ℕ) → list_all (λ k. nat_le k m) fliers ≡ true → All (λ k. k < m + 1) fliers
few_of fliers m tested =
    All-from_get_or (λ k. k < m + 1) fliers 0
    (λ i lt. below (get_or fliers i 0) (AllPass-from_list_all (λ k. nat_le k m) fliers tested i 0 lt))
  where
    below : (k : ℕ) → nat_le k m ≡ true → k < m + 1
    below k e = grind (arith, nat_tests)

-- the numbers of a list are the list
pub itself : (a n : ℕ) → map (λ i. i) (range_with_len a n) ≡ range_with_len a n
itself a zero = refl
itself a (suc n) = ap (λ (xs : List ℕ). a ∷ xs) (itself (a + 1) n)

-- where nobody flies, each route is empty
abbrev none_for : ℕ → List (List ℕ)
none_for m = replicate m []

nothing_flown : (m : ℕ) → flat_map (λ (route : List ℕ). route) (none_for m) ≡ []
nothing_flown zero = refl
nothing_flown (suc m) = nothing_flown m

empty_route : (m k : ℕ) → route_of (none_for m) k ≡ []
empty_route zero k = refl
empty_route (suc m) zero = refl
empty_route (suc m) (suc k) = empty_route m k

all_picked : (s m : ℕ) → range_with_len s m ≡ filter (λ a. true) (range_with_len s m)
all_picked s zero = refl
all_picked s (suc m) = ap (λ (xs : List ℕ). s ∷ xs) (all_picked (s + 1) m)

long_as : (m : ℕ) → length (none_for m) ≡ m
long_as zero = refl
long_as (suc m) = ap suc (long_as m)

pub all_are : (book : BookSeen) → IsLeftOut book (range_with_len 0 (activities book))
all_are book =
    let none : (a : ℕ) → times_flown (none_for (aircraft book)) a ≡ 0 = λ a. ap (count_by (nat_eq a)) (nothing_flown (aircraft book)) in (
      none_for (aircraft book),
      record {
        one_each = long_as (aircraft book);
        legal = λ k lt. subst (IsLegalRoute book k) (sym (empty_route (aircraft book) k)) tt;
        none_twice = λ a lt. (let e = none a in omega (arith, e));
      },
      all_picked 0 (activities book)
          ∙ same_picked (λ a. true) (λ a. times_flown (none_for (aircraft book)) a == 0) 0 (activities book) (λ a lt. sym (ap (λ (t : ℕ). t == 0) (none a))),
    )
