-- How often routes fly an activity, and what the count says of where it stands.
--
-- Never means that no route has it. Once means that exactly one does, where routes rise: a route that rises has it at
-- most once, and the others count 0. The search for the least activity that is not flown once goes on from `s` with all
-- before `s` flown once, and so stops at the least.
use Rattle.std.proofs.Common.{◌≡◌, ℕ, zero, suc, ◌+◌, ◌<◌, inl, inr, Bool, true, false, cond, arith, List, [], ◌∷◌, ◌++◌, length, refl, ap, ◌∙◌, subst, Some}
use Rattle.std.proofs.lemmas.Bool.{cases_Bool, cases_lt, both_ways}
use Rattle.std.proofs.lemmas.Bool.Decides.{Decides-eqb, Decides-like}
use Rattle.std.proofs.lemmas.List.Elements.{All-head, All-tail}
use Rattle.std.specs.Prelude.{◌↔◌, All, count_by, nat_eq, not, find}
use Rattle.std.specs.Bool.{Decides}
use Rattle.std.specs.List.{range_with_len}
use Rattle.tail_book.specs.declared.flown.Flown.{Flown}
use Rattle.tail_book.specs.declared.flown.Flown.TheVariants.{Never, Once, More}
use Rattle.tail_book.specs.declared.place.Place.TheVariants.{Carry}
use Rattle.tail_book.specs.Numbers.{contains}
use Rattle.tail_book.specs.Plan.{times_flown, route_of}
use Rattle.tail_book.specs.inside.Rising.{IsRisingFrom}
use Rattle.tail_book.specs.inside.Flown.{flown_of_count, flown_by, IsCount, flown_one_more, is_flown_once, IsInOneRoute, least_not_once, IsLeastNotOnce}
use Rattle.tail_book.proofs.FlownOnce.{times_flown-cons, contains_counts, contained_from_count, flown_somewhere, one_flier, someone_flies}
use Rattle.tail_book.proofs.RisingLists.{rising_once}

count_called : (n : ℕ) → IsCount (flown_of_count n) n
count_called zero = refl
count_called (suc zero) = refl
count_called (suc (suc n)) = omega arith

called_so : (n : ℕ) (flown : Flown) → IsCount flown n → flown_of_count n ≡ flown
called_so zero Never e = refl
called_so (suc n) Never e = absurd (omega (arith, e))
called_so zero Once e = absurd (omega (arith, e))
called_so (suc zero) Once e = refl
called_so (suc (suc n)) Once e = absurd (omega (arith, e))
called_so zero More lt = absurd (omega (arith, lt))
called_so (suc zero) More lt = absurd (omega (arith, lt))
called_so (suc (suc n)) More lt = refl

pub flown_is_count : (n : ℕ) (flown : Flown) → (flown_of_count n ≡ flown) ↔ IsCount flown n
flown_is_count n flown = ((λ e. subst (λ (f : Flown). IsCount f n) e (count_called n)), (λ h. called_so n flown h))

pub flown_more : (n : ℕ) → flown_of_count (n + 1) ≡ flown_one_more (flown_of_count n)
flown_more n = ap flown_of_count (next n) ∙ by_cases n
  where
    next : (n : ℕ) → n + 1 ≡ suc n
    next n = omega arith

    by_cases : (n : ℕ) → flown_of_count (suc n) ≡ flown_one_more (flown_of_count n)
    by_cases zero = refl
    by_cases (suc zero) = refl
    by_cases (suc (suc n)) = refl

pub times_more : (routes : List (List ℕ)) (route : List ℕ) (a : ℕ) → times_flown (routes ++ route ∷ []) a ≡ times_flown routes a + count_by (nat_eq a) route
times_more [] route a = let e = times_flown-cons route [] a in omega (arith, e)
times_more (first ∷ routes) route a =
    let all = times_flown-cons first (routes ++ route ∷ []) a in
    let front = times_flown-cons first routes a in
    let rest = times_more routes route a in
    omega (arith, all, front, rest)

pub once_tested : (routes : List (List ℕ)) (a : ℕ) → Decides (is_flown_once routes a) (flown_by routes a ≡ Once)
once_tested routes a =
    let called = flown_is_count (times_flown routes a) Once in
    Decides-like (is_flown_once routes a) called.1 called.0 (Decides-eqb (times_flown routes a) 1)

pub never_is_nowhere : (routes : List (List ℕ)) (a : ℕ) → (flown_by routes a ≡ Never) ↔ ((k : ℕ) → contains (route_of routes k) a ≡ false)
never_is_nowhere routes a =
    let called = flown_is_count (times_flown routes a) Never in (
      (λ e k. elim (cases_Bool (contains (route_of routes k) a)) [
        | inl t ↦ (let some = flown_somewhere routes k a t in let none = called.0 e in absurd (omega (arith, some, none)))
        | inr f ↦ f
      ]),
      (λ nowhere. called.1 (elim (cases_lt 0 (times_flown routes a)) [
        | inl some ↦ (let who = someone_flies routes a (omega (arith, some)) in absurd (both_ways _ (nowhere who.0) who.2))
        | inr none ↦ omega (arith, none)
      ])),
    )

-- in one route of several that rise
pub one_in_all : (n : ℕ) (routes : List (List ℕ)) → All (IsRisingFrom n Carry) routes → (a k : ℕ) → k < length routes → contains (route_of routes k) a ≡ true
    → ((j : ℕ) → contains (route_of routes j) a ≡ true → j ≡ k) → times_flown routes a ≡ 1
one_in_all n [] rise a k lt has only = absurd (omega (arith, lt))
one_in_all n (route ∷ routes) rise a zero lt has only =
    let e = times_flown-cons route routes a in
    let some = contains_counts route a has in
    let most = rising_once n Carry route a (All-head (IsRisingFrom n Carry) route routes rise) in
    elim (cases_lt 0 (times_flown routes a)) [
      | inl more ↦ (let who = someone_flies routes a (omega (arith, more)) in let same = only (suc who.0) who.2 in absurd (omega (arith, same)))
      | inr none ↦ omega (arith, e, some, most, none)
    ]
one_in_all n (route ∷ routes) rise a (suc k) lt has only =
    let e = times_flown-cons route routes a in
    let rest = one_in_all n routes (All-tail (IsRisingFrom n Carry) route routes rise) a k (omega (arith, lt)) has (λ j h. (let same = only (suc j) h in omega (arith, same))) in
    elim (cases_lt 0 (count_by (nat_eq a) route)) [
      | inl more ↦ (let same = only 0 (contained_from_count route a (omega (arith, more))) in absurd (omega (arith, same)))
      | inr none ↦ omega (arith, e, rest, none)
    ]

pub once_is_in_one : (n : ℕ) (routes : List (List ℕ)) → All (IsRisingFrom n Carry) routes → (a : ℕ) → (flown_by routes a ≡ Once) ↔ IsInOneRoute routes a
once_is_in_one n routes rise a =
    let called = flown_is_count (times_flown routes a) Once in (
      (λ e. let once = called.0 e in let who = someone_flies routes a (omega (arith, once)) in
          (who.0, who.1, who.2, (λ j h. one_flier routes j who.0 a once h who.2))),
      (λ one. called.1 (one_in_all n routes rise a one.0 one.1 one.2 one.3)),
    )

module _ (routes : List (List ℕ)) where
  -- from s on, where all before s are flown once
  abbrev AllBefore : ℕ → Type 0
  AllBefore s = (b : ℕ) → b < s → times_flown routes b ≡ 1

  least_here : (s n m : ℕ) (b : Bool) → is_flown_once routes s ≡ b → s < m → AllBefore s
      → (AllBefore (s + 1) → IsLeastNotOnce routes m (find (λ a. not (is_flown_once routes a)) (range_with_len (s + 1) n)))
      → IsLeastNotOnce routes m (cond (not b) (Some s) (find (λ a. not (is_flown_once routes a)) (range_with_len (s + 1) n)))
  least_here s n m false other lt before goes_on = (lt, (λ once. absurd (both_ways _ other ((Decides-eqb (times_flown routes s) 1).1 once))), before)
  least_here s n m true once lt before goes_on = goes_on (λ b lb. elim (cases_lt b s) [
    | inl less ↦ before b less
    | inr most ↦ (let same : b ≡ s = omega (arith, lb, most) in rw same ((Decides-eqb (times_flown routes s) 1).0 once))
  ])

  least_from : (s n m : ℕ) → s + n ≡ m → AllBefore s → IsLeastNotOnce routes m (find (λ a. not (is_flown_once routes a)) (range_with_len s n))
  least_from s zero m e before = λ a lt. before a (omega (arith, e, lt))
  least_from s (suc n) m e before =
      least_here s n m (is_flown_once routes s) refl (omega (arith, e)) before (λ longer. least_from (s + 1) n m (omega (arith, e)) longer)

  pub least_is_least : (n : ℕ) → IsLeastNotOnce routes n (least_not_once routes n)
  least_is_least n = least_from 0 n n (omega arith) (λ b lt. absurd (omega (arith, lt)))
