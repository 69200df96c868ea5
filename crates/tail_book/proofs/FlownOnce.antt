-- Where an activity is flown at all, some route has it; where it is flown once in all, only one does.
--
-- By induction on the plan: what a plan flies is what its first route and the rest fly. A route that has the activity
-- counts at least 1. So two such routes would make 2, and a test that only such routes pass is passed by no other.
use Rattle.std.proofs.Common.{◌≡◌, ℕ, zero, suc, ◌+◌, ◌<◌, ◌≤◌, ◌⊎◌, inl, inr, Bool, true, false, cond, arith, List, [], ◌∷◌, length, refl, ap}
use Rattle.std.proofs.lemmas.Bool.{or_left, or_right, both_ways, cases_Bool}
use Rattle.std.proofs.lemmas.List.Sums.{sum_by-cons, sum_by-append}
use Rattle.std.specs.Prelude.{count_by, nat_eq, ◌||◌}
use Rattle.std.specs.List.{flat_map}
use Rattle.tail_book.specs.Numbers.{contains}
use Rattle.tail_book.specs.Plan.{times_flown, route_of}

count_or : (b t : Bool) (n : ℕ) → (t ≡ true → 1 ≤ n) → (b || t) ≡ true → 1 ≤ cond b 1 0 + n
count_or true t n h e = omega arith
count_or false t n h e = let k = h e in omega arith

pub contains_counts : (route : List ℕ) (a : ℕ) → contains route a ≡ true → 1 ≤ count_by (nat_eq a) route
contains_counts [] a h = absurd (both_ways false refl h)
contains_counts (x ∷ rest) a h =
    let e = sum_by-cons (λ y. cond (nat_eq a y) 1 0) x rest in
    let k = count_or (nat_eq a x) (contains rest a) (count_by (nat_eq a) rest) (contains_counts rest a) h in
    omega (arith, e, k)

pub times_flown-cons : (route : List ℕ) (plan : List (List ℕ)) (a : ℕ) → times_flown (route ∷ plan) a ≡ count_by (nat_eq a) route + times_flown plan a
times_flown-cons route plan a = sum_by-append (λ x. cond (nat_eq a x) 1 0) route (flat_map (λ r. r) plan)

pub flown_somewhere : (plan : List (List ℕ)) (k a : ℕ) → contains (route_of plan k) a ≡ true → 1 ≤ times_flown plan a
flown_somewhere [] k a h = absurd (both_ways false refl h)
flown_somewhere (route ∷ plan) zero a h =
    let e = times_flown-cons route plan a in let c = contains_counts route a h in omega (arith, e, c)
flown_somewhere (route ∷ plan) (suc k) a h =
    let e = times_flown-cons route plan a in let c = flown_somewhere plan k a h in omega (arith, e, c)

pub one_flier : (plan : List (List ℕ)) (j k a : ℕ) → times_flown plan a ≡ 1 → contains (route_of plan j) a ≡ true → contains (route_of plan k) a ≡ true → j ≡ k
one_flier [] j k a once hj hk = absurd (both_ways false refl hj)
one_flier (route ∷ plan) zero zero a once hj hk = refl
one_flier (route ∷ plan) zero (suc k) a once hj hk =
    let e = times_flown-cons route plan a in let c = contains_counts route a hj in let d = flown_somewhere plan k a hk in absurd (omega (arith, e, c, d, once))
one_flier (route ∷ plan) (suc j) zero a once hj hk =
    let e = times_flown-cons route plan a in let c = contains_counts route a hk in let d = flown_somewhere plan j a hj in absurd (omega (arith, e, c, d, once))
one_flier (route ∷ plan) (suc j) (suc k) a once hj hk =
    let e = times_flown-cons route plan a in let d = flown_somewhere plan j a hj in
    let one : times_flown plan a ≡ 1 = omega (arith, e, d, once) in
    ap suc (one_flier plan j k a one hj hk)

-- who flies an activity that is flown
pub contained_from_count : (route : List ℕ) (a : ℕ) → 1 ≤ count_by (nat_eq a) route → contains route a ≡ true
contained_from_count [] a h = absurd (omega (arith, h))
contained_from_count (x ∷ rest) a h = elim (cases_Bool (nat_eq a x)) [
  | inl t ↦ or_left (nat_eq a x) (contains rest a) t
  | inr f ↦ or_right (nat_eq a x) (contains rest a) (contained_from_count rest a
      (let e = sum_by-cons (λ y. cond (nat_eq a y) 1 0) x rest in none_of (nat_eq a x) _ _ f e h))
]
  where
    none_of : (b : Bool) (n all : ℕ) → b ≡ false → all ≡ cond b 1 0 + n → 1 ≤ all → 1 ≤ n
    none_of true n all f e h = absurd (both_ways true f refl)
    none_of false n all f e h = omega arith

pub someone_flies : (plan : List (List ℕ)) (a : ℕ) → 1 ≤ times_flown plan a → (k : ℕ) × (k < length plan) × (contains (route_of plan k) a ≡ true)
someone_flies [] a h = absurd (omega (arith, h))
someone_flies (route ∷ plan) a h = elim (cases_Bool (contains route a)) [
  | inl t ↦ (0, omega arith, t)
  | inr f ↦ (let rest = someone_flies plan a (others f) in (suc rest.0, omega (arith, rest.1), rest.2))
]
  where
    others : contains route a ≡ false → 1 ≤ times_flown plan a
    others f = elim (lower (count_by (nat_eq a) route)) [
      | inl z ↦ (let e = times_flown-cons route plan a in omega (arith, e, z, h))
      | inr p ↦ absurd (both_ways (contains route a) f (contained_from_count route a p))
    ]
      where
        lower : (n : ℕ) → (n ≡ 0) ⊎ (1 ≤ n)
        lower zero = inl refl
        lower (suc n) = inr (omega arith)
