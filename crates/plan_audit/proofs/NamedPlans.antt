-- A plan of the book's activities, none flown twice, is met and kept as it is when it is spelled by names: each name
-- finds its own number, since names differ, and is new when it comes, since aircraft rise and no activity counts twice.
-- By induction on the routes the activities behind an aircraft's name are its route, and no other route has them.
use Rattle.std.proofs.Common.{◌≡◌, ◌≢◌, ◌∙◌, sym, refl, ap, arith, true≢false, ℕ, zero, suc, ◌+◌, ◌<◌, ◌≤◌, Bool, true, false, ◌||◌, cond, if◌then◌else◌, nat_eq, nat_lt, List, [], ◌∷◌, ◌++◌, map, length, get_or, Some, None, position, append_assoc, All, AllPairs}
use Rattle.std.specs.Prelude.{count_by}
use Rattle.std.specs.List.{position_or_len}
use Rattle.std.specs.Str.{bytes_eq}
use Rattle.std.proofs.Math.ListN.{get_or-map}
use Rattle.std.proofs.lemmas.Bool.{eq-eqb}
use Rattle.std.proofs.lemmas.Bool.Decides.{nat_tests, Decides-ltb}
use Rattle.std.proofs.lemmas.List.{append-nil, length-map, ext_get_or}
use Rattle.std.proofs.lemmas.List.Elements.{All-head, All-tail}
use Rattle.std.proofs.lemmas.List.Folds.{list_any-append}
use Rattle.std.proofs.lemmas.List.FromFn.{length-map-range_with_len}
use Rattle.std.proofs.lemmas.List.Recursion.{is_position_or_len}
use Rattle.std.proofs.lemmas.List.Sums.{sum_by-cons, sum_by-append}
use Rattle.std.proofs.lemmas.Slice.Eq.{bytes_eq-Decides}
use Rattle.tail_book.specs.Seen.{ActivitySeen, TailSeen, BookSeen}
use Rattle.tail_book.specs.Numbers.{contains}
use Rattle.tail_book.specs.Lookup.{activities, aircraft, activity_of, tail_of, no_activity, no_tail}
use Rattle.tail_book.specs.Plan.{times_flown}
use Rattle.tail_book.specs.inside.Sound.{IsBook}
use Rattle.plan_audit.specs.declared.met.Met.{Met}
use Rattle.plan_audit.specs.declared.met.Met.TheVariants.{Twice, Tail, Activity}
use Rattle.plan_audit.specs.Met.{tails_met, activities_met, tail_named, activity_named, as_tail, as_activity, with_ids, with_tail, with_line, with_lines, names_met}
use Rattle.plan_audit.specs.Kept.{next_route, route_met, kept}
use Rattle.plan_audit.specs.inside.Laws.{lines_named, named, NamedPlansAreKept}
use Rattle.plan_audit.proofs.NameLemmas.{false_of}
use Rattle.plan_audit.proofs.MetLemmas.{tails_met-append, activities_met-append}
use Rattle.plan_audit.proofs.Told.{none_among, split_count}
use Rattle.plan_audit.proofs.Unbroken.{kept_route}

-- the first place at which a test passes
first_place : {A : Type 0} → (A → Bool) → List A → ℕ
first_place p [] = 0
first_place p (x ∷ xs) = cond (p x) 0 (1 + first_place p xs)

first_place-is : {A : Type 0} (p : A → Bool) (xs : List A) → first_place p xs ≡ position_or_len p xs
unfolding first_place
first_place-is p xs = is_position_or_len (first_place p) p refl (λ x xs. refl) xs

first_place-at : {A : Type 0} (p : A → Bool) (xs : List A) (k : ℕ) (d : A) → k < length xs → ((i : ℕ) → i < k → p (get_or xs i d) ≡ false) → p (get_or xs k d) ≡ true → first_place p xs ≡ k
unfolding first_place
first_place-at p [] k d below before here = absurd (omega (arith, below))
first_place-at p (x ∷ xs) zero d below before here = ap (λ t. cond t 0 (1 + first_place p xs)) here
first_place-at p (x ∷ xs) (suc k) d below before here =
    let rest = first_place-at p xs k d (omega (arith, below)) (λ i less. before (suc i) (omega (arith, less))) here in
    ap (λ t. cond t 0 (1 + first_place p xs)) (before 0 (omega arith)) ∙ omega (arith, rest)

position-at : {A : Type 0} (p : A → Bool) (xs : List A) (k : ℕ) (d : A) → k < length xs → ((i : ℕ) → i < k → p (get_or xs i d) ≡ false) → p (get_or xs k d) ≡ true → position p xs ≡ Some k
position-at p xs k d below before here =
    let at : position_or_len p xs ≡ k = sym (first_place-is p xs) ∙ first_place-at p xs k d below before here in
    ap (λ i. cond (nat_lt i (length xs)) (Some i) None) at ∙ ap (λ t. cond t (Some k) None) ((Decides-ltb k (length xs)).1 below)

-- a name of a list in which names differ is found where it stands
finds_itself : {A : Type 0} (f : A → List ℕ) (xs : List A) (k : ℕ) (d : A) → AllPairs (λ a b. f a ≢ f b) xs → k < length xs → position (bytes_eq (f (get_or xs k d))) (map f xs) ≡ Some k
finds_itself f xs k d differ below =
    let name = f (get_or xs k d) in
    position-at (bytes_eq name) (map f xs) k (f d) (rw length-map below)
    (λ i less. ap (bytes_eq name) (get_or-map f xs i d) ∙ false_of (bytes_eq name (f (get_or xs i d))) (bytes_eq-Decides name (f (get_or xs i d))) (λ same. differ i k d less below (sym same)))
    (ap (bytes_eq name) (get_or-map f xs k d) ∙ (bytes_eq-Decides name name).1 refl)

-- how the names of routes from aircraft k on are met
met_of : ℕ → List (List ℕ) → List Met
met_of k [] = []
met_of k (route ∷ routes) = Tail k ∷ (map Activity route ++ met_of (k + 1) routes)

count_last : (xs : List ℕ) (a b : ℕ) → count_by (nat_eq b) (xs ++ a ∷ []) ≡ count_by (nat_eq b) xs + count_by (nat_eq b) (a ∷ [])
count_last xs a b = sum_by-append (λ y. cond (nat_eq b y) 1 0) xs (a ∷ [])

count_first : (xs : List ℕ) (a b : ℕ) → count_by (nat_eq b) (a ∷ xs) ≡ count_by (nat_eq b) (a ∷ []) + count_by (nat_eq b) xs
count_first xs a b =
    let all = sum_by-cons (λ y. cond (nat_eq b y) 1 0) a xs in
    let one = sum_by-cons (λ y. cond (nat_eq b y) 1 0) a [] in
    omega (arith, all, one)

count_self : (a : ℕ) → count_by (nat_eq a) (a ∷ []) ≡ 1
count_self a = by (nat_eq a a) (eq-eqb a a refl) (sum_by-cons (λ y. cond (nat_eq a y) 1 0) a [])
  where
    by : (t : Bool) → t ≡ true → count_by (nat_eq a) (a ∷ []) ≡ cond t 1 0 + 0 → count_by (nat_eq a) (a ∷ []) ≡ 1
    by true e sum = omega (arith, sum)
    by false e sum = absurd (true≢false (sym e))

none_behind : (ks : List ℕ) (k j : ℕ) → contains ks j ≡ false → j ≢ k → contains (ks ++ k ∷ []) j ≡ false
none_behind ks k j none other =
    let apart : nat_eq j k ≡ false = grind (arith, nat_tests) in
    list_any-append (nat_eq j) ks (k ∷ []) ∙ both_false (contains ks j) (nat_eq j k) none apart
  where
    both_false : (p q : Bool) → p ≡ false → q ≡ false → (p || (q || false)) ≡ false
    both_false p q e f = rw (e, f) refl

module _ (book : BookSeen) (sound : IsBook book) where
  ids_met : (met : List Met) (route : List ℕ) → All (λ a. a < activities book) route → ((a : ℕ) → count_by (nat_eq a) (activities_met met) + count_by (nat_eq a) route ≤ 1)
      → with_ids book met (map (λ a. (activity_of book a).id) route) ≡ met ++ map Activity route
  unfolding with_ids
  ids_met met [] all once = sym (append-nil met)
  ids_met met (a ∷ route) all once =
      let within : a < activities book = All-head (λ a. a < activities book) a route all in
      let found : activity_named book (activity_of book a).id ≡ Some a = finds_itself (λ (x : ActivitySeen). x.id) book.activities a no_activity sound.ids within in
      let first = count_first route a a in
      let self = count_self a in
      let most = once a in
      let new : contains (activities_met met) a ≡ false = none_among a (activities_met met) (omega (arith, first, self, most)) in
      let one : as_activity met (activity_of book a).id (activity_named book (activity_of book a).id) ≡ Activity a =
      ap (as_activity met (activity_of book a).id) found ∙ ap (λ t. if t then Twice (activity_of book a).id else Activity a) new in
      let next : (b : ℕ) → count_by (nat_eq b) (activities_met (met ++ Activity a ∷ [])) + count_by (nat_eq b) route ≤ 1 =
      λ b.
      let added : count_by (nat_eq b) (activities_met (met ++ Activity a ∷ [])) ≡ count_by (nat_eq b) (activities_met met) + count_by (nat_eq b) (a ∷ []) =
      ap (count_by (nat_eq b)) (activities_met-append met (Activity a ∷ [])) ∙ count_last (activities_met met) a b in
      let split = count_first route a b in
      let limit = once b in
      omega (arith, added, split, limit) in
      ap (λ m. with_ids book (met ++ m ∷ []) (map (λ a. (activity_of book a).id) route)) one
      ∙ ids_met (met ++ Activity a ∷ []) route (All-tail (λ a. a < activities book) a route all) next
      ∙ append_assoc met (Activity a ∷ []) (map Activity route)

  activities_of : (route : List ℕ) → activities_met (map Activity route) ≡ route
  activities_of [] = refl
  activities_of (a ∷ route) = ap (λ r. a ∷ r) (activities_of route)

  tails_of : (route : List ℕ) → tails_met (map Activity route) ≡ []
  tails_of [] = refl
  tails_of (a ∷ route) = tails_of route

  lines_met : (met : List Met) (k : ℕ) (routes : List (List ℕ)) → k + length routes ≡ aircraft book → All (All (λ a. a < activities book)) routes
      → ((j : ℕ) → k ≤ j → contains (tails_met met) j ≡ false) → ((a : ℕ) → count_by (nat_eq a) (activities_met met) + times_flown routes a ≤ 1)
      → with_lines book met (lines_named book k routes) ≡ met ++ met_of k routes
  unfolding with_lines met_of
  lines_met met k [] long all new once = sym (append-nil met)
  lines_met met k (route ∷ routes) long all new once =
      let name = (tail_of book k).name in
      let ids = map (λ a. (activity_of book a).id) route in
      let within : k < aircraft book = omega (arith, long) in
      let found : tail_named book name ≡ Some k = finds_itself (λ (x : TailSeen). x.name) book.tails k no_tail sound.tail_names within in
      let first : as_tail met name (tail_named book name) ≡ Tail k = ap (as_tail met name) found ∙ ap (λ t. if t then Twice name else Tail k) (new k (omega arith)) in
      let behind = met ++ Tail k ∷ [] in
      let flown : activities_met behind ≡ activities_met met = activities_met-append met (Tail k ∷ []) ∙ append-nil (activities_met met) in
      let here : (a : ℕ) → count_by (nat_eq a) (activities_met behind) + count_by (nat_eq a) route ≤ 1 =
      λ a. let same = ap (count_by (nat_eq a)) flown in let split = split_count a route routes in let most = once a in omega (arith, same, split, most) in
      let line : with_line book met (record { tail = name; ids = ids }) ≡ behind ++ map Activity route =
      ap (λ m. with_tail book met m ids) first ∙ ids_met behind route (All-head (All (λ a. a < activities book)) route routes all) here in
      let after = behind ++ map Activity route in
      let flown_after : (a : ℕ) → count_by (nat_eq a) (activities_met after) + times_flown routes a ≤ 1 =
      λ a.
      let same : count_by (nat_eq a) (activities_met after) ≡ count_by (nat_eq a) (activities_met met) + count_by (nat_eq a) route =
      ap (count_by (nat_eq a)) (activities_met-append behind (map Activity route)) ∙ sum_by-append (λ y. cond (nat_eq a y) 1 0) (activities_met behind) (activities_met (map Activity route))
      ∙ ap (λ xs. count_by (nat_eq a) xs + count_by (nat_eq a) (activities_met (map Activity route))) flown ∙ ap (λ xs. count_by (nat_eq a) (activities_met met) + count_by (nat_eq a) xs) (activities_of route) in
      let split = split_count a route routes in
      let most = once a in
      omega (arith, same, split, most) in
      let new_after : (j : ℕ) → k + 1 ≤ j → contains (tails_met after) j ≡ false =
      λ j beyond.
      let tails : tails_met after ≡ tails_met met ++ k ∷ [] =
      tails_met-append behind (map Activity route) ∙ ap (λ xs. tails_met behind ++ xs) (tails_of route) ∙ append-nil (tails_met behind) ∙ tails_met-append met (Tail k ∷ []) in
      ap (λ xs. contains xs j) tails ∙ none_behind (tails_met met) k j (new j (omega (arith, beyond))) (λ e. absurd (omega (arith, e, beyond))) in
      ap (λ m. with_lines book m (lines_named book (k + 1) routes)) line
      ∙ lines_met after (k + 1) routes (omega (arith, long)) (All-tail (All (λ a. a < activities book)) route routes all) new_after flown_after
      ∙ append_assoc behind (map Activity route) (met_of (k + 1) routes)
      ∙ append_assoc met (Tail k ∷ []) (map Activity route ++ met_of (k + 1) routes)

-- each route is met behind its aircraft
next_of : (route : List ℕ) (k : ℕ) (routes : List (List ℕ)) → next_route (map Activity route ++ met_of k routes) ≡ route
unfolding met_of
next_of [] k [] = refl
next_of [] k (route ∷ routes) = refl
next_of (a ∷ route) k routes = ap (λ r. a ∷ r) (next_of route k routes)

passes : (route : List ℕ) (met : List Met) (k : ℕ) → route_met (map Activity route ++ met) k ≡ route_met met k
passes [] met k = refl
passes (a ∷ route) met k = passes route met k

route_at : (k : ℕ) (routes : List (List ℕ)) (i j : ℕ) → k + i ≡ j → i < length routes → route_met (met_of k routes) j ≡ get_or routes i []
unfolding met_of
route_at k [] i j e below = absurd (omega (arith, below))
route_at k (route ∷ routes) zero j e below =
    let same : nat_eq j k ≡ true = eq-eqb j k (omega (arith, e)) in
    ap (λ t. if t then next_route (map Activity route ++ met_of (k + 1) routes) else route_met (map Activity route ++ met_of (k + 1) routes) j) same ∙ next_of route (k + 1) routes
route_at k (route ∷ routes) (suc i) j e below =
    let other : j ≢ k = λ same. absurd (omega (arith, same, e)) in
    let apart : nat_eq j k ≡ false = grind (arith, nat_tests) in
    ap (λ t. if t then next_route (map Activity route ++ met_of (k + 1) routes) else route_met (map Activity route ++ met_of (k + 1) routes) j) apart
    ∙ passes route (met_of (k + 1) routes) j ∙ route_at (k + 1) routes i j (omega (arith, e)) (omega (arith, below))

pub named_kept : NamedPlansAreKept
named_kept book sound plan flies =
    let raw = named book plan in
    let all : names_met book raw ≡ met_of 0 plan = lines_met book sound [] 0 plan (omega (arith, flies.one_each)) flies.of_book (λ j beyond. refl) (λ a. let most = flies.once a in omega (arith, most)) in
    let long = length-map-range_with_len (route_met (names_met book raw)) 0 (aircraft book) in
    let wide = flies.one_each in
    ext_get_or [] (kept book raw) plan (omega (arith, long, wide))
    (λ k below.
    let within : k < aircraft book = omega (arith, long, below) in
    kept_route book raw k within ∙ ap (λ met. route_met met k) all ∙ route_at 0 plan k k (omega arith) (omega (arith, wide, within)))
