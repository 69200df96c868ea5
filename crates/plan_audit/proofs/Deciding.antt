-- A plan is legal where its routes are and each activity is counted once: what is left of a route decides, and counts go up
-- to 2, so that 1 tells that an activity is flown exactly once.
use Rattle.std.proofs.Common.{◌≡◌, ◌≢◌, ◌∙◌, sym, refl, ap, arith, subst, true≢false, ℕ, zero, suc, ◌+◌, ◌<◌, inl, inr, Bool, true, false, ◌&&◌, cond, nat_eq, List, [], ◌∷◌, ◌++◌, length, set, get_or, take, append_assoc, All}
use Rattle.std.specs.Prelude.{count_by, min, ◌==◌}
use Rattle.std.specs.List.{flat_map, list_all}
use Rattle.std.specs.Bool.{one_answer}
use Rattle.std.proofs.lemmas.Bool.{cases_Bool, eq-eqb, eqb-true}
use Rattle.std.proofs.lemmas.Bool.Decides.{nat_tests, Decides-eqb, Decides-below_and}
use Rattle.std.proofs.lemmas.List.{take_more, get_or-set_same, get_or-set_other, length-set, get_or_default, append-nil}
use Rattle.std.proofs.lemmas.List.Concat.{flat_map-append}
use Rattle.std.proofs.lemmas.List.Sums.{sum_by-cons, sum_by-append, AllPass-from_list_all, list_all-from_AllPass}
use Rattle.std.proofs.lemmas.List.Elements.{All-from_get_or}
use Rattle.tail_book.specs.Seen.{BookSeen}
use Rattle.tail_book.specs.Lookup.{activities}
use Rattle.tail_book.specs.Plan.{times_flown, route_of}
use Rattle.tail_book.specs.LegalTests.{is_legal_route, are_legal_below, are_flown_once_below}
use Rattle.plan_audit.specs.inside.Times.{AreTimes}
use Rattle.plan_audit.proofs.Legality.{both}

and-false-right : (p q : Bool) → q ≡ false → (p && q) ≡ false
and-false-right p q e = grind arith

-- one route that is not legal refuses the plan
pub routes-refused : (book : BookSeen) (plan : List (List ℕ)) (m k : ℕ) → k < m → is_legal_route book k (route_of plan k) ≡ false → are_legal_below book plan m ≡ false
routes-refused book plan zero k lt e = absurd (omega arith)
routes-refused book plan (suc m) k lt e = elim (cases_Bool (k == m)) [
  | inl t ↦ (let same : k ≡ m = eqb-true k m t in
      ap (λ r. r && are_legal_below book plan m) (subst (λ j. is_legal_route book j (route_of plan j) ≡ false) same e))
  | inr t ↦ (let other : k ≢ m = grind (arith, nat_tests) in
      and-false-right (is_legal_route book m (route_of plan m)) (are_legal_below book plan m) (routes-refused book plan m k (omega (arith, other, lt)) e))
]

pub routes-legal : (book : BookSeen) (plan : List (List ℕ)) (m : ℕ) → ((k : ℕ) → k < m → is_legal_route book k (route_of plan k) ≡ true) → are_legal_below book plan m ≡ true
routes-legal book plan zero each = refl
routes-legal book plan (suc m) each =
    both (is_legal_route book m (route_of plan m)) (are_legal_below book plan m) (each m (omega arith)) (routes-legal book plan m (λ k lt. each k (omega (arith, lt))))

pub read-route : (plan : List (List ℕ)) (i : ℕ) (route : List ℕ) → i < length plan → route ≡ get_or plan i route → route ≡ route_of plan i
read-route plan i route within here = here ∙ get_or_default plan i route [] within

-- the routes below i are legal, and so is the one at i
pub route-more : (book : BookSeen) (plan : List (List ℕ)) (i : ℕ) (route : List ℕ) → i < length plan → route ≡ get_or plan i route → is_legal_route book i route ≡ true
    → ((j : ℕ) → j < i → is_legal_route book j (route_of plan j) ≡ true) → (j : ℕ) → j < i + 1 → is_legal_route book j (route_of plan j) ≡ true
route-more book plan i route within here legal before j lt = elim (cases_Bool (j == i)) [
  | inl t ↦ (let same : j ≡ i = eqb-true j i t in
      subst (λ n. is_legal_route book n (route_of plan n) ≡ true) (sym same) (ap (is_legal_route book i) (sym (read-route plan i route within here)) ∙ legal))
  | inr t ↦ (let other : j ≢ i = grind (arith, nat_tests) in before j (omega (arith, other, lt)))
]

count-push : (flown : List ℕ) (a b : ℕ) → count_by (nat_eq b) (flown ++ a ∷ []) ≡ count_by (nat_eq b) flown + cond (nat_eq b a) 1 0
count-push flown a b =
    let split = sum_by-append (λ y. cond (nat_eq b y) 1 0) flown (a ∷ []) in
    let last = sum_by-cons (λ y. cond (nat_eq b y) 1 0) a [] in
    omega (arith, split, last)

plus-one : (t : Bool) (n all : ℕ) → all ≡ n + cond t 1 0 → t ≡ true → all ≡ n + 1
plus-one true n all e t = e
plus-one false n all e t = absurd (true≢false (sym t))

plus-none : (t : Bool) (n all : ℕ) → all ≡ n + cond t 1 0 → t ≡ false → all ≡ n
plus-none true n all e t = absurd (true≢false t)
plus-none false n all e t = omega arith

count-same : (flown : List ℕ) (a b : ℕ) → nat_eq b a ≡ true → count_by (nat_eq b) (flown ++ a ∷ []) ≡ count_by (nat_eq b) flown + 1
count-same flown a b t = plus-one (nat_eq b a) (count_by (nat_eq b) flown) (count_by (nat_eq b) (flown ++ a ∷ [])) (count-push flown a b) t

count-other : (flown : List ℕ) (a b : ℕ) → nat_eq b a ≡ false → count_by (nat_eq b) (flown ++ a ∷ []) ≡ count_by (nat_eq b) flown
count-other flown a b t = plus-none (nat_eq b a) (count_by (nat_eq b) flown) (count_by (nat_eq b) (flown ++ a ∷ [])) (count-push flown a b) t

-- one activity more is counted
pub times-more : (times flown : List ℕ) (a time : ℕ) → a < length times → time ≡ min (get_or times a 0) 1 + 1 → AreTimes times flown → AreTimes (set times a time) (flown ++ a ∷ [])
times-more times flown a time within e are b below =
    let long = length-set times a time in
    let old = are b (omega arith) in
    elim (cases_Bool (nat_eq b a)) [
      | inl t ↦ (let same : b ≡ a = eqb-true b a t in
          let there : get_or (set times a time) b 0 ≡ time = ap (λ j. get_or (set times a time) j 0) same ∙ get_or-set_same times a time 0 within in
          let before : get_or times a 0 ≡ min (count_by (nat_eq b) flown) 2 = ap (λ j. get_or times j 0) (sym same) ∙ old in
          let count = count-same flown a b t in
          omega (arith, count, there, before, e))
      | inr t ↦ (let other : b ≢ a = grind (arith, nat_tests) in
          let kept = get_or-set_other times a b time 0 other in
          let count = count-other flown a b t in
          omega (arith, count, kept, old))
    ]

pub times-all : (times flown all : List ℕ) → flown ≡ all → AreTimes times flown → AreTimes times all
times-all times flown all e are = subst (AreTimes times) e are

pub taken : (flown route : List ℕ) (i : ℕ) → i < length route → (flown ++ take i route) ++ get_or route i 0 ∷ [] ≡ flown ++ take (i + 1) route
taken flown route i within =
    append_assoc flown (take i route) (get_or route i 0 ∷ []) ∙ ap (λ r. flown ++ r) (sym (take_more route i 0 within))

pub taken-routes : (flown : List ℕ) (routes : List (List ℕ)) (i : ℕ) (route : List ℕ) → i < length routes → route ≡ get_or routes i route
    → (flown ++ flat_map (λ r. r) (take i routes)) ++ route ≡ flown ++ flat_map (λ r. r) (take (i + 1) routes)
taken-routes flown routes i route within here =
    let more : take (i + 1) routes ≡ take i routes ++ route ∷ [] = take_more routes i route within ∙ ap (λ y. take i routes ++ y ∷ []) (sym here) in
    append_assoc flown (flat_map (λ r. r) (take i routes)) route
    ∙ ap (λ r. flown ++ r) (sym (ap (flat_map (λ r. r)) more ∙ flat_map-append (λ r. r) (take i routes) (route ∷ []) ∙ ap (λ r. flat_map (λ r. r) (take i routes) ++ r) (append-nil route)))

-- nothing is counted yet
pub times-none : (times : List ℕ) → All (λ t. t ≡ 0) times → AreTimes times []
times-none times none a below = none a 0 below

-- each activity is flown exactly once where each is counted once
pub once_by : (book : BookSeen) (plan : List (List ℕ)) (times : List ℕ) → length times ≡ activities book → AreTimes times (flat_map (λ r. r) plan)
    → list_all (λ t. t == 1) times ≡ are_flown_once_below plan (activities book)
once_by book plan times long are =
    one_answer (list_all (λ t. t == 1) times) (are_flown_once_below plan (activities book)) (
      (λ e a below. to_one a below (AllPass-from_list_all (λ t. t == 1) times e a 0 (omega (arith, long, below)))),
      (λ each. list_all-from_AllPass (λ t. t == 1) times (All-from_get_or (λ t. (t == 1) ≡ true) times 0 (λ a below. from_one a below (each a (omega (arith, long, below)))))),
    )
    (Decides-below_and (λ a. times_flown plan a == 1) (λ a. times_flown plan a ≡ 1) (are_flown_once_below plan) (λ a. Decides-eqb (times_flown plan a) 1) refl (λ a. refl) (activities book))
  where
    to_one : (a : ℕ) → a < activities book → (get_or times a 0 == 1) ≡ true → times_flown plan a ≡ 1
    to_one a below e = let is = are a (omega (arith, long, below)) in let one = eqb-true (get_or times a 0) 1 e in omega (arith, is, one)

    from_one : (a : ℕ) → a < length times → times_flown plan a ≡ 1 → (get_or times a 0 == 1) ≡ true
    from_one a below e = let is = are a below in eq-eqb (get_or times a 0) 1 (omega (arith, is, e))
