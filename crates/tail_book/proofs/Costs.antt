-- What activities, connections and legal plans cost at most.
--
-- Each number that a cost reads keeps a limit of every book, and so does the default of a look-up. An activity lasts at
-- most 2,880 minutes, which with the greatest rate and fixed amount come to its bound; a connection costs one band or
-- nothing. So a route costs at most two million for each of its activities, by induction on it, and the routes of a
-- legal plan have as many activities as the book.
use Rattle.std.proofs.Common.{◌≡◌, ℕ, suc, ℤ, pos, negsuc, ◌+◌, ◌*◌, ◌+ℤ◌, ◌-ℤ◌, ◌≤ℤ◌, ◌<◌, ◌≤◌, Bool, true, false, cond, arith, List, [], ◌∷◌, length, Option, Some, if◌then◌else◌}
use Rattle.std.proofs.lemmas.Int.{ints}
use Rattle.std.proofs.lemmas.List.{length-append}
use Rattle.std.proofs.lemmas.List.Elements.{All-head, All-tail}
use Rattle.std.proofs.Math.Nat.{mul-le-mul}
use Rattle.std.specs.Prelude.{All, find, unsigned_abs}
use Rattle.std.specs.Option.{option_map_or}
use Rattle.tail_book.specs.declared.limits.TheConstants.{RATE_LIMIT, FIXED_LIMIT, ACTIVITY_COST_LIMIT, BAND_COST_LIMIT, LEG_COST_LIMIT}
use Rattle.tail_book.specs.Seen.{BookSeen, TailSeen}
use Rattle.tail_book.specs.Numbers.{int_le}
use Rattle.tail_book.specs.declared.place.Place.{Place}
use Rattle.tail_book.specs.declared.place.Place.TheVariants.{Carry, After}
use Rattle.tail_book.specs.Lookup.{activities, is_flight, start_of, end_of, type_rate, kind_of, no_activity, no_type, no_tail, tail_of}
use Rattle.tail_book.specs.Counters.{flown}
use Rattle.tail_book.specs.Link.{gap}
use Rattle.tail_book.specs.Cost.{activity_cost, connection_cost, cost_from, cost_of_routes, plan_cost}
use Rattle.tail_book.specs.Plan.{IsLegalPlan}
use Rattle.tail_book.specs.inside.Bounds.{greatest_cost}
use Rattle.tail_book.specs.inside.Sound.{IsKind, IsTail, IsBand, IsBook}
use Rattle.tail_book.specs.inside.Partition.{all_flown}
use Rattle.tail_book.proofs.Partition.{plan_of_book, all_are_flown}
use Rattle.tail_book.proofs.Timed.{everywhere}

pub found : {A B : Type 0} (P : A → Type 0) (Q : B → Type 0) (f : A → B) (d : B) → ((x : A) → P x → Q (f x)) → Q d
    → (test : A → Bool) (xs : List A) → All P xs → Q (option_map_or f (find test xs) d)
found P Q f d step base test [] all = base
found {A} {B} P Q f d step base test (x ∷ xs) all = either (test x) (find test xs) (found P Q f d step base test xs (All-tail P x xs all))
  where
    either : (b : Bool) (rest : Option A) → Q (option_map_or f rest d) → Q (option_map_or f (cond b (Some x) rest) d)
    either true rest h = step x (All-head P x xs all)
    either false rest h = h

abs_le : (z : ℤ) (n : ℕ) → pos 0 ≤ℤ z → z ≤ℤ pos n → unsigned_abs z ≤ n
abs_le (pos m) n h k = omega (arith, ints, k)
abs_le (negsuc m) n h k = absurd (omega (arith, ints, h))

span : (s e : ℤ) → (s +ℤ pos 1) ≤ℤ e → e ≤ℤ (s +ℤ pos 2880) → unsigned_abs (e -ℤ s) ≤ 2880
span s e l m = abs_le (e -ℤ s) 2880 (omega (arith, ints)) (omega (arith, ints))

flown_when : (b : Bool) (z : ℤ) → unsigned_abs z ≤ 2880 → unsigned_abs (if b then z else pos 0) ≤ 2880
flown_when true z h = h
flown_when false z h = omega arith

flown_most : (book : BookSeen) → IsBook book → (a : ℕ) → a < activities book → unsigned_abs (flown book a) ≤ 2880
flown_most book sound a lt =
    let e = sound.activities a no_activity lt in
    flown_when (is_flight book a) (end_of book a -ℤ start_of book a) (span (start_of book a) (end_of book a) e.lasts e.short)

activity_most : (rate minutes fixed : ℕ) → rate ≤ RATE_LIMIT → minutes ≤ 2880 → fixed ≤ FIXED_LIMIT → rate * minutes + fixed ≤ ACTIVITY_COST_LIMIT
activity_most rate minutes fixed h k l = let p : rate * minutes ≤ 300 * 2880 = mul-le-mul h k in omega arith

pub activity_cost_most : (book : BookSeen) → IsBook book → (k a : ℕ) → a < activities book → activity_cost book k a ≤ ACTIVITY_COST_LIMIT
activity_cost_most book sound k a lt =
    activity_most (type_rate book (kind_of book k)) (unsigned_abs (flown book a)) (tail_of book k).fixed
    (everywhere IsKind (λ t. t.rate ≤ RATE_LIMIT) no_type (omega arith) (λ t h. h.rate) book.rules.kinds sound.rules.kinds (kind_of book k))
    (flown_most book sound a lt)
    (everywhere (IsTail book.rules) (λ (t : TailSeen). t.fixed ≤ FIXED_LIMIT) no_tail (omega arith) (λ t h. h.fixed) book.tails sound.tails k)

pub connection_cost_most : (book : BookSeen) → IsBook book → (k : ℕ) (x : Place) (b : ℕ) → connection_cost book k x b ≤ BAND_COST_LIMIT
connection_cost_most book sound k Carry b = omega arith
connection_cost_most book sound k (After x) b =
    found IsBand (λ (n : ℕ). n ≤ BAND_COST_LIMIT) (λ band. band.cost) 0 (λ band h. h.cost) (omega arith)
    (λ band. int_le (gap book k (After x) b) band.upto) book.rules.bands sound.rules.bands

pub route_most : (book : BookSeen) → IsBook book → (k : ℕ) (x : Place) (route : List ℕ) → All (λ a. a < activities book) route → cost_from book k x route ≤ LEG_COST_LIMIT * length route
route_most book sound k x [] below = omega arith
route_most book sound k x (b ∷ rest) below =
    let a = activity_cost_most book sound k b (All-head (λ a. a < activities book) b rest below) in
    let c = connection_cost_most book sound k x b in
    let h = route_most book sound k (After b) rest (All-tail (λ a. a < activities book) b rest below) in
    added (activity_cost book k b) (connection_cost book k x b) (cost_from book k (After b) rest) (length rest) a c h
  where
    added : (a c r n : ℕ) → a ≤ ACTIVITY_COST_LIMIT → c ≤ BAND_COST_LIMIT → r ≤ LEG_COST_LIMIT * n → a + c + r ≤ LEG_COST_LIMIT * suc n
    added a c r n h i j = omega arith

plan_most : (book : BookSeen) → IsBook book → (k : ℕ) (plan : List (List ℕ)) → All (All (λ a. a < activities book)) plan
    → cost_of_routes book k plan ≤ LEG_COST_LIMIT * length (all_flown plan)
plan_most book sound k [] each = omega arith
plan_most book sound k (route ∷ plan) each =
    let h = route_most book sound k Carry route (All-head (All (λ a. a < activities book)) route plan each) in
    let r = plan_most book sound (k + 1) plan (All-tail (All (λ a. a < activities book)) route plan each) in
    let e = length-append route (all_flown plan) in
    joined (cost_from book k Carry route) (cost_of_routes book (k + 1) plan) (length route) (length (all_flown plan)) _ h r e
  where
    joined : (a b m n l : ℕ) → a ≤ LEG_COST_LIMIT * m → b ≤ LEG_COST_LIMIT * n → l ≡ m + n → a + b ≤ LEG_COST_LIMIT * l
    joined a b m n l h i e = omega arith

pub cost_most : (book : BookSeen) → IsBook book → (plan : List (List ℕ)) → IsLegalPlan book plan → plan_cost book plan ≤ greatest_cost book
cost_most book sound plan legal =
    let most = plan_most book sound 0 plan (plan_of_book book plan legal) in
    let flown = all_are_flown book plan legal in
    omega (arith, most, flown)
