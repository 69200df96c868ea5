-- Activities by their ids, in any order: each has one place, and all places are taken once.
--
-- Ids differ, so the first that equals an activity's own is its own. In their own order the activities have the places
-- from 0 on, each once. Another order of the same activities has the same places in another order, and a count does not
-- see the order.
use Rattle.std.proofs.Common.{◌≡◌, ◌≢◌, ◌∙◌, ◌+◌, ◌<◌, ◌≤◌, inl, inr, ℕ, zero, suc, Bool, true, false, cond, List, [], ◌∷◌, map, length, get_or, AllPairs, Contains, IsPermutation, nat_eq, nat_lt, count_by, arith, refl, sym, ap, subst}
use Rattle.std.specs.List.{position, position_or_len, range_with_len}
use Rattle.std.specs.Option.{unwrap_or}
use Rattle.std.specs.Str.{bytes_eq}
use Rattle.std.proofs.lemmas.Bool.Decides.{nat_tests}
use Rattle.std.proofs.lemmas.Bool.{cases_eq}
use Rattle.std.proofs.lemmas.List.{ext_get_or, get_or-map, length-map}
use Rattle.std.proofs.lemmas.List.FromFn.{get_or-range_with_len, length-range_with_len}
use Rattle.std.proofs.lemmas.List.Sorted.{IsPermutation-map, sum_by-IsPermutation}
use Rattle.std.proofs.lemmas.List.Sums.{position_or_len_is}
use Rattle.std.proofs.lemmas.Slice.Eq.{bytes_eq-Decides}
use Rattle.tail_book.specs.Seen.{ActivitySeen}
use Rattle.tail_book.specs.Lookup.{no_activity}
use Rattle.tail_book.proofs.Sums.{count_here, count_other}

not-equal : (x y : List ℕ) → x ≢ y → bytes_eq x y ≡ false
not-equal x y differ = by (bytes_eq x y) (bytes_eq-Decides x y).0
  where
    by : (t : Bool) → (t ≡ true → x ≡ y) → t ≡ false
    by true says = absurd (differ (says refl))
    by false says = refl

equal : (x : List ℕ) → bytes_eq x x ≡ true
equal x = (bytes_eq-Decides x x).1 refl

-- the place of a name among names
abbrev pub place_of : List (List ℕ) → List ℕ → ℕ
place_of names x = unwrap_or (position (bytes_eq x) names) 0

less : (i n : ℕ) → i < n → nat_lt i n ≡ true
less i n h = grind (arith, nat_tests)

-- each of names that differ stands at its place
pub place-is : (names : List (List ℕ)) (m : ℕ) (x : List ℕ) → AllPairs (λ a b. a ≢ b) names → m < length names → get_or names m [] ≡ x → place_of names x ≡ m
place-is names m x apart within is =
    let at : position_or_len (bytes_eq x) names ≡ m =
    position_or_len_is (bytes_eq x) names m [] (omega arith)
    (λ k before. not-equal x (get_or names k []) (λ same. apart k m [] before within (sym same ∙ sym is)))
    (λ _. subst (λ (y : List ℕ). bytes_eq x y ≡ true) (sym is) (equal x)) in
    rw (at, less m (length names) within) refl

-- an activity's own id finds it
abbrev pub ids : List ActivitySeen → List (List ℕ)
ids acts = map (λ a. a.id) acts

pub ids-differ : (acts : List ActivitySeen) → AllPairs (λ a b. a.id ≢ b.id) acts → AllPairs (λ a b. a ≢ b) (ids acts)
ids-differ acts apart i j d before within =
    let many = length-map acts (λ (a : ActivitySeen). a.id) in
    subst (λ (x : List ℕ). x ≢ get_or (ids acts) j d) (sym (get_or-map (λ (a : ActivitySeen). a.id) acts i no_activity d (omega (arith, many))))
    (subst (λ (y : List ℕ). (get_or acts i no_activity).id ≢ y) (sym (get_or-map (λ (a : ActivitySeen). a.id) acts j no_activity d (omega (arith, many))))
    (apart i j no_activity before (omega (arith, many))))

pub found-at : (acts : List ActivitySeen) (m : ℕ) → AllPairs (λ a b. a.id ≢ b.id) acts → m < length acts
    → place_of (ids acts) (get_or acts m no_activity).id ≡ m
found-at acts m apart within =
    place-is (ids acts) m (get_or acts m no_activity).id (ids-differ acts apart) (rw (length-map acts (λ (a : ActivitySeen). a.id)) within)
    (get_or-map (λ (a : ActivitySeen). a.id) acts m no_activity [] within)

pub same-default : (xs : List ActivitySeen) (i : ℕ) (d e : ActivitySeen) → i < length xs → get_or xs i d ≡ get_or xs i e
same-default [] i d e h = absurd (omega arith)
same-default (y ∷ ys) zero d e h = refl
same-default (y ∷ ys) (suc i) d e h = same-default ys i d e (omega arith)

-- an activity of the list stands where its id says
pub record IsFound (acts : List ActivitySeen) (x : ActivitySeen) : Type 0 where
  pub within : place_of (ids acts) x.id < length acts
  pub is : get_or acts (place_of (ids acts) x.id) no_activity ≡ x

pub found : (acts : List ActivitySeen) (x : ActivitySeen) → AllPairs (λ a b. a.id ≢ b.id) acts → Contains acts x → IsFound acts x
found acts x apart (k, within, is) =
    let here : get_or acts k no_activity ≡ x = same-default acts k no_activity x within ∙ is in
    let place : place_of (ids acts) x.id ≡ k = subst (λ (y : ActivitySeen). place_of (ids acts) y.id ≡ k) here (found-at acts k apart within) in
    record { within = rw place within; is = rw place here }

-- the numbers from s on, n of them, have none below s, and each other one once
none-in-range : (s n a : ℕ) → a < s → count_by (nat_eq a) (range_with_len s n) ≡ 0
none-in-range s zero a low = refl
none-in-range s (suc n) a low = count_other a s (range_with_len (s + 1) n) (λ same. absurd (omega arith)) ∙ none-in-range (s + 1) n a (omega arith)

once-in-range : (s n a : ℕ) → s ≤ a → a < s + n → count_by (nat_eq a) (range_with_len s n) ≡ 1
once-in-range s zero a low high = absurd (omega arith)
once-in-range s (suc n) a low high = elim (cases_eq a s) [
  | inl same ↦ count_here a s (range_with_len (s + 1) n) same ∙ ap (λ (c : ℕ). suc c) (none-in-range (s + 1) n a (omega arith))
  | inr other ↦ count_other a s (range_with_len (s + 1) n) other ∙ once-in-range (s + 1) n a (omega arith) (omega arith)
]

-- where a list finds its activities
abbrev pub places_in : List ActivitySeen → List ActivitySeen → List ℕ
places_in ys xs = map (λ (x : ActivitySeen). place_of (ids ys) x.id) xs

own-places : (ys : List ActivitySeen) → AllPairs (λ a b. a.id ≢ b.id) ys → places_in ys ys ≡ range_with_len 0 (length ys)
own-places ys apart =
    let many = length-map ys (λ (x : ActivitySeen). place_of (ids ys) x.id) in
    ext_get_or 0 (places_in ys ys) (range_with_len 0 (length ys)) (many ∙ sym (length-range_with_len 0 (length ys)))
    (λ i within.
    let inside : i < length ys = omega (arith, many, within) in
    get_or-map (λ (x : ActivitySeen). place_of (ids ys) x.id) ys i no_activity 0 inside ∙ found-at ys i apart inside
    ∙ sym (get_or-range_with_len 0 (length ys) i 0 inside ∙ omega arith))

-- the activities of one order take each place of another order once
pub places-once : (xs ys : List ActivitySeen) → IsPermutation xs ys → AllPairs (λ a b. a.id ≢ b.id) ys → (a : ℕ) → a < length ys
    → count_by (nat_eq a) (places_in ys xs) ≡ 1
places-once xs ys moved apart a within =
    sym (sum_by-IsPermutation (λ (x : ℕ). cond (nat_eq a x) 1 0) (places_in ys xs) (places_in ys ys)
    (IsPermutation-map (λ (x : ActivitySeen). place_of (ids ys) x.id) xs ys moved))
    ∙ rw (own-places ys apart) (once-in-range 0 (length ys) a (omega arith) (omega arith))
