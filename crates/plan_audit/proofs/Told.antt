-- Each line of an audit is told exactly where the kept plan breaks that rule.
--
-- An audit is seven lists one behind the other, each of one rule, so a line is told where its own list has it. That
-- list is of the legs, or the activities, that fail one test. And the legs of the kept plan are the activities of its
-- routes, each with the place at the end of the front before it.
use Rattle.std.proofs.Common.{◌≡◌, ◌∙◌, sym, refl, ap, arith, subst, true≢false, ℕ, zero, suc, ◌+◌, ◌<◌, ◌↔◌, inl, inr, pos, Bool, true, false, ◌||◌, cond, nat_eq, List, [], ◌∷◌, ◌++◌, map, length, replicate, Contains}
use Rattle.std.specs.Prelude.{not, count_by}
use Rattle.std.specs.List.{filter, range_with_len, flat_map}
use Rattle.std.proofs.lemmas.Bool.{cases_Bool, cases_lt}
use Rattle.std.proofs.lemmas.List.{get_or_past}
use Rattle.std.proofs.lemmas.List.Elements.{All-contains, Contains-append_left, Contains-append_right}
use Rattle.std.proofs.lemmas.List.FromFn.{length-map-range_with_len, length-range_with_len, get_or-range_with_len}
use Rattle.std.proofs.lemmas.List.Sums.{sum_by-cons, sum_by-append}
use Rattle.tail_book.specs.Seen.{BookSeen, RawPlanSeen}
use Rattle.tail_book.specs.Numbers.{contains}
use Rattle.tail_book.specs.Lookup.{activities, aircraft}
use Rattle.tail_book.specs.declared.place.Place.TheVariants.{Carry}
use Rattle.tail_book.specs.Curfew.{is_curfewed}
use Rattle.tail_book.specs.Plan.{times_flown, route_of}
use Rattle.tail_book.specs.inside.Route.{place_after}
use Rattle.tail_book.specs.Allowed.{is_permitted}
use Rattle.tail_book.specs.Link.{is_connected}
use Rattle.plan_audit.specs.declared.leg.Leg.{Leg}
use Rattle.plan_audit.specs.declared.met.Met.{Met}
use Rattle.plan_audit.specs.declared.met.Met.TheVariants.{Unknown, Twice, Tail, Activity}
use Rattle.plan_audit.specs.declared.broken.Broken.{Broken}
use Rattle.plan_audit.specs.declared.broken.Broken.TheVariants as rule
use Rattle.plan_audit.specs.Met.{tails_met, activities_met, names_met}
use Rattle.plan_audit.specs.Kept.{route_met, kept, legs_met}
use Rattle.plan_audit.specs.inside.Kept.{IsLegOf}
use Rattle.plan_audit.specs.Rules.{unknown, twice, uncovered, not_allowed, curfews, no_links, past_limits}
use Rattle.plan_audit.specs.inside.Told.{IsTold, IsInNoRoute, ComesBehind, UncoveredAreInNoRoute, NotAllowedAreNotPermitted, CurfewsAreInTheWay, NoLinksAreNotConnected, CountersArePastLimits}
use Rattle.plan_audit.proofs.CountLemmas.{carry_width}
use Rattle.plan_audit.proofs.WellMet.{IsWellMet, names_well_met}
use Rattle.plan_audit.proofs.Along.{legs_are_of_book, no_route, tails_within, kept_times, count_none}
use Rattle.plan_audit.proofs.Converse.{among_within}
use Rattle.plan_audit.proofs.Unbroken.{kept_route}
use Rattle.plan_audit.proofs.ToldLemmas.{empty_has, cons_cases, from_filter, to_filter, order_of, AreOf, AreUpTo, up_to-more, in_first, in_rest, mapped_are_of}
use Rattle.plan_audit.proofs.KeptLegs.{nothing_comes, legs_kept, kept_legs, same_leg}
use Rattle.plan_audit.proofs.ToldCounters.{past_limits_are_of, limits_come, coming_limits}

-- the parts of an audit are of one rule each
unknown_are_of : (met : List Met) → AreUpTo 0 (unknown met)
unknown_are_of [] line h = absurd (empty_has line h)
unknown_are_of (Unknown name ∷ met) line h = elim (cons_cases (rule.Unknown name) (unknown met) line h) [
  | inl same ↦ (let here : order_of line ≡ 0 = ap order_of (sym same) in omega (arith, here))
  | inr later ↦ unknown_are_of met line later
]
unknown_are_of (Twice name ∷ met) line h = unknown_are_of met line h
unknown_are_of (Tail k ∷ met) line h = unknown_are_of met line h
unknown_are_of (Activity a ∷ met) line h = unknown_are_of met line h

twice_are_of : (met : List Met) → AreOf 1 (twice met)
twice_are_of [] line h = absurd (empty_has line h)
twice_are_of (Unknown name ∷ met) line h = twice_are_of met line h
twice_are_of (Twice name ∷ met) line h = elim (cons_cases (rule.Twice name) (twice met) line h) [
  | inl same ↦ ap order_of (sym same)
  | inr later ↦ twice_are_of met line later
]
twice_are_of (Tail k ∷ met) line h = twice_are_of met line h
twice_are_of (Activity a ∷ met) line h = twice_are_of met line h

uncovered_are_of : (book : BookSeen) (met : List Met) → AreOf 2 (uncovered book met)
uncovered_are_of book met = mapped_are_of 2 rule.Uncovered (λ a. not (contains (activities_met met) a)) (λ a. refl) (range_with_len 0 (activities book))

not_allowed_are_of : (book : BookSeen) (legs : List Leg) → AreOf 3 (not_allowed book legs)
not_allowed_are_of book legs = mapped_are_of 3 (λ leg. rule.NotAllowed leg.tail leg.activity) (λ leg. not (is_permitted book leg.tail leg.activity)) (λ leg. refl) legs

curfews_are_of : (book : BookSeen) (legs : List Leg) → AreOf 4 (curfews book legs)
curfews_are_of book legs = mapped_are_of 4 (λ leg. rule.Curfew leg.tail leg.activity) (λ leg. is_curfewed book leg.tail leg.activity) (λ leg. refl) legs

no_links_are_of : (book : BookSeen) (legs : List Leg) → AreOf 5 (no_links book legs)
no_links_are_of book legs = mapped_are_of 5 (λ leg. rule.NoLink leg.tail leg.activity) (λ leg. not (is_connected book leg.tail leg.from leg.activity)) (λ leg. refl) legs

negated : (p : Bool) → not p ≡ true → p ≡ false
negated true e = absurd (true≢false (sym e))
negated false e = refl

negates : (p : Bool) → p ≡ false → not p ≡ true
negates p e = ap not e

-- an aircraft with a route has a number of the book
flown_within : (book : BookSeen) (raw : RawPlanSeen) (k : ℕ) (front : List ℕ) (b : ℕ) → ComesBehind (kept book raw) k front b → k < aircraft book
flown_within book raw k front b comes = elim (cases_lt k (aircraft book)) [
  | inl within ↦ within
  | inr beyond ↦ (
      let many = length-map-range_with_len (route_met (names_met book raw)) 0 (aircraft book) in
      let none : route_of (kept book raw) k ≡ [] = get_or_past (kept book raw) k [] (omega (arith, many, beyond)) in
      absurd (nothing_comes front b comes.0 (sym none ∙ comes.1)))
]

-- a leg of the kept plan stands in the route of its aircraft, behind a front that ends where it comes from
from_leg : (book : BookSeen) (raw : RawPlanSeen) (leg : Leg) → Contains (legs_met (names_met book raw)) leg
    → (front : List ℕ) × ComesBehind (kept book raw) leg.tail front leg.activity × (leg.from ≡ place_after Carry front)
from_leg book raw leg h =
    let met = names_met book raw in
    let well = names_well_met book raw in
    let at = legs_kept met well.tails well.led leg h in
    let within : leg.tail < aircraft book = (All-contains (IsLegOf book) (legs_met met) leg (legs_are_of_book book raw) h).tail in
    (at.0, (at.1, kept_route book raw leg.tail within ∙ at.2), at.3)

to_leg : (book : BookSeen) (raw : RawPlanSeen) (k : ℕ) (front : List ℕ) (b : ℕ) → ComesBehind (kept book raw) k front b
    → Contains (legs_met (names_met book raw)) (record { tail = k; from = place_after Carry front; activity = b })
to_leg book raw k front b comes =
    let within : k < aircraft book = flown_within book raw k front b comes in
    kept_legs (names_met book raw) (record { tail = k; from = place_after Carry front; activity = b }) (front, comes.0, sym (kept_route book raw k within) ∙ comes.1, refl)

-- the parts of an audit before each of its parts are of earlier rules
record AreEarlier (book : BookSeen) (met : List Met) : Type 0 where
  names : AreUpTo 1 (unknown met ++ twice met)
  missed : AreUpTo 2 (unknown met ++ twice met ++ uncovered book met)
  refused : AreUpTo 3 (unknown met ++ twice met ++ uncovered book met ++ not_allowed book (legs_met met))
  closed : AreUpTo 4 (unknown met ++ twice met ++ uncovered book met ++ not_allowed book (legs_met met) ++ curfews book (legs_met met))
  apart : AreUpTo 5 (unknown met ++ twice met ++ uncovered book met ++ not_allowed book (legs_met met) ++ curfews book (legs_met met) ++ no_links book (legs_met met))

are_earlier : (book : BookSeen) (met : List Met) → AreEarlier book met
are_earlier book met =
    let legs = legs_met met in
    let names = unknown met ++ twice met in
    let missed = names ++ uncovered book met in
    let refused = missed ++ not_allowed book legs in
    let closed = refused ++ curfews book legs in
    let no_names = up_to-more 0 (unknown met) (twice met) (unknown_are_of met) (twice_are_of met) in
    let no_missed = up_to-more 1 names (uncovered book met) no_names (uncovered_are_of book met) in
    let no_refused = up_to-more 2 missed (not_allowed book legs) no_missed (not_allowed_are_of book legs) in
    let no_closed = up_to-more 3 refused (curfews book legs) no_refused (curfews_are_of book legs) in
    record {
      names = no_names;
      missed = no_missed;
      refused = no_refused;
      closed = no_closed;
      apart = up_to-more 4 closed (no_links book legs) no_closed (no_links_are_of book legs);
    }

-- a line of each rule stands in the part of that rule, and what stands there is told
record HasParts (book : BookSeen) (raw : RawPlanSeen) (met : List Met) : Type 0 where
  uncovered_in : (line : Broken) → order_of line ≡ 2 → IsTold book raw line ↔ Contains (uncovered book met) line
  refused_in : (line : Broken) → order_of line ≡ 3 → IsTold book raw line ↔ Contains (not_allowed book (legs_met met)) line
  closed_in : (line : Broken) → order_of line ≡ 4 → IsTold book raw line ↔ Contains (curfews book (legs_met met)) line
  apart_in : (line : Broken) → order_of line ≡ 5 → IsTold book raw line ↔ Contains (no_links book (legs_met met)) line
  past_in : (line : Broken) → order_of line ≡ 6 → IsTold book raw line ↔ Contains (past_limits book (replicate (length book.rules.counters) (pos 0)) (legs_met met)) line

has_parts : (book : BookSeen) (raw : RawPlanSeen) → HasParts book raw (names_met book raw)
has_parts book raw =
    let met = names_met book raw in
    let legs = legs_met met in
    let limits = past_limits book (replicate (length book.rules.counters) (pos 0)) legs in
    let names = unknown met ++ twice met in
    let missed = names ++ uncovered book met in
    let refused = missed ++ not_allowed book legs in
    let closed = refused ++ curfews book legs in
    let apart = closed ++ no_links book legs in
    let before = are_earlier book met in
    let before_limits = λ (line : Broken) (e : order_of line < 6) (h : IsTold book raw line). in_first 6 apart limits line (past_limits_are_of book (replicate (length book.rules.counters) (pos 0)) legs) e h in
    let before_links = λ (line : Broken) (e : order_of line < 5) (h : Contains apart line). in_first 5 closed (no_links book legs) line (no_links_are_of book legs) e h in
    let before_curfews = λ (line : Broken) (e : order_of line < 4) (h : Contains closed line). in_first 4 refused (curfews book legs) line (curfews_are_of book legs) e h in
    let before_refused = λ (line : Broken) (e : order_of line < 3) (h : Contains refused line). in_first 3 missed (not_allowed book legs) line (not_allowed_are_of book legs) e h in
    let of_apart = λ (line : Broken) (h : Contains apart line). Contains-append_left apart limits line h in
    let of_closed = λ (line : Broken) (h : Contains closed line). of_apart line (Contains-append_left closed (no_links book legs) line h) in
    let of_refused = λ (line : Broken) (h : Contains refused line). of_closed line (Contains-append_left refused (curfews book legs) line h) in
    let of_missed = λ (line : Broken) (h : Contains missed line). of_refused line (Contains-append_left missed (not_allowed book legs) line h) in
    record {
      uncovered_in = λ line e. (
        (λ h. in_rest 1 names (uncovered book met) line before.names (omega (arith, e))
            (before_refused line (omega (arith, e)) (before_curfews line (omega (arith, e)) (before_links line (omega (arith, e)) (before_limits line (omega (arith, e)) h))))),
        (λ h. of_missed line (Contains-append_right names (uncovered book met) line h)),
      );
      refused_in = λ line e. (
        (λ h. in_rest 2 missed (not_allowed book legs) line before.missed (omega (arith, e))
            (before_curfews line (omega (arith, e)) (before_links line (omega (arith, e)) (before_limits line (omega (arith, e)) h)))),
        (λ h. of_refused line (Contains-append_right missed (not_allowed book legs) line h)),
      );
      closed_in = λ line e. (
        (λ h. in_rest 3 refused (curfews book legs) line before.refused (omega (arith, e)) (before_links line (omega (arith, e)) (before_limits line (omega (arith, e)) h))),
        (λ h. of_closed line (Contains-append_right refused (curfews book legs) line h)),
      );
      apart_in = λ line e. (
        (λ h. in_rest 4 closed (no_links book legs) line before.closed (omega (arith, e)) (before_limits line (omega (arith, e)) h)),
        (λ h. of_apart line (Contains-append_right closed (no_links book legs) line h)),
      );
      past_in = λ line e. (
        (λ h. in_rest 5 apart limits line before.apart (omega (arith, e)) h),
        (λ h. Contains-append_right apart limits line h),
      );
    }

-- legs that pass a test, each told by its aircraft and activity
told_legs : (book : BookSeen) (raw : RawPlanSeen) (f : ℕ → ℕ → Broken) (p : Leg → Bool) (k b : ℕ)
    → ((j a : ℕ) → f j a ≡ f k b → (j ≡ k) × (a ≡ b))
    → Contains (map (λ (leg : Leg). f leg.tail leg.activity) (filter p (legs_met (names_met book raw)))) (f k b)
    ↔ ((front : List ℕ) × ComesBehind (kept book raw) k front b × (p (record { tail = k; from = place_after Carry front; activity = b }) ≡ true))
told_legs book raw f p k b differ =
    let met = names_met book raw in (
      (λ h.
          let found = from_filter (λ (leg : Leg). f leg.tail leg.activity) p (legs_met met) (f k b) h in
          let leg = found.0 in
          let same = differ leg.tail leg.activity found.3 in
          let at = from_leg book raw leg found.1 in
          let is : leg ≡ record { tail = k; from = place_after Carry at.0; activity = b } = same_leg leg k (place_after Carry at.0) b same.0 at.2 same.1 in
          (at.0, subst (λ j. ComesBehind (kept book raw) j at.0 b) same.0 (subst (λ a. ComesBehind (kept book raw) leg.tail at.0 a) same.1 at.1), ap p (sym is) ∙ found.2)),
      (λ at. to_filter (λ (leg : Leg). f leg.tail leg.activity) p (legs_met met) (record { tail = k; from = place_after Carry at.0; activity = b }) (f k b) (to_leg book raw k at.0 b at.1) at.2 refl),
    )

not_allowed_numbers : (j a k b : ℕ) → rule.NotAllowed j a ≡ rule.NotAllowed k b → (j ≡ k) × (a ≡ b)
not_allowed_numbers j a k b e = (first e, second e)
  where
    first : rule.NotAllowed j a ≡ rule.NotAllowed k b → j ≡ k
    first e = cc

    second : rule.NotAllowed j a ≡ rule.NotAllowed k b → a ≡ b
    second e = cc

curfew_numbers : (j a k b : ℕ) → rule.Curfew j a ≡ rule.Curfew k b → (j ≡ k) × (a ≡ b)
curfew_numbers j a k b e = (first e, second e)
  where
    first : rule.Curfew j a ≡ rule.Curfew k b → j ≡ k
    first e = cc

    second : rule.Curfew j a ≡ rule.Curfew k b → a ≡ b
    second e = cc

no_link_numbers : (j a k b : ℕ) → rule.NoLink j a ≡ rule.NoLink k b → (j ≡ k) × (a ≡ b)
no_link_numbers j a k b e = (first e, second e)
  where
    first : rule.NoLink j a ≡ rule.NoLink k b → j ≡ k
    first e = cc

    second : rule.NoLink j a ≡ rule.NoLink k b → a ≡ b
    second e = cc

uncovered_number : (a b : ℕ) → rule.Uncovered a ≡ rule.Uncovered b → a ≡ b
uncovered_number a b e = cc

pub not_allowed_told : NotAllowedAreNotPermitted
not_allowed_told book raw k b =
    let told = (has_parts book raw).refused_in (rule.NotAllowed k b) refl in
    let legs = told_legs book raw rule.NotAllowed (λ leg. not (is_permitted book leg.tail leg.activity)) k b (λ j a e. not_allowed_numbers j a k b e) in (
      (λ h. let at = legs.0 (told.0 h) in ((at.0, at.1), negated (is_permitted book k b) at.2)),
      (λ at. told.1 (legs.1 (at.0.0, at.0.1, negates (is_permitted book k b) at.1))),
    )

pub curfews_told : CurfewsAreInTheWay
curfews_told book raw k b =
    let told = (has_parts book raw).closed_in (rule.Curfew k b) refl in
    let legs = told_legs book raw rule.Curfew (λ leg. is_curfewed book leg.tail leg.activity) k b (λ j a e. curfew_numbers j a k b e) in (
      (λ h. let at = legs.0 (told.0 h) in ((at.0, at.1), at.2)),
      (λ at. told.1 (legs.1 (at.0.0, at.0.1, at.1))),
    )

pub no_links_told : NoLinksAreNotConnected
no_links_told book raw k b =
    let told = (has_parts book raw).apart_in (rule.NoLink k b) refl in
    let legs = told_legs book raw rule.NoLink (λ leg. not (is_connected book leg.tail leg.from leg.activity)) k b (λ j a e. no_link_numbers j a k b e) in (
      (λ h. let at = legs.0 (told.0 h) in (at.0, at.1, negated (is_connected book k (place_after Carry at.0) b) at.2)),
      (λ at. told.1 (legs.1 (at.0, at.1, negates (is_connected book k (place_after Carry at.0) b) at.2))),
    )

-- an aircraft with a route was met, and so is of the book
route_within : (book : BookSeen) (met : List Met) → IsWellMet book met → (k : ℕ) (front : List ℕ) (b : ℕ) (rest : List ℕ) → route_met met k ≡ front ++ b ∷ rest → k < aircraft book
route_within book met well k front b rest splits = elim (cases_Bool (contains (tails_met met) k)) [
  | inl among ↦ among_within (aircraft book) k (tails_met met) (tails_within book met well.of_book) among
  | inr apart ↦ absurd (nothing_comes front b rest (sym (no_route met k apart) ∙ splits))
]

pub counters_told : CountersArePastLimits
counters_told book sound raw k b c =
    let met = names_met book raw in
    let well = names_well_met book raw in
    let start = replicate (length book.rules.counters) (pos 0) in
    let told = (has_parts book raw).past_in (rule.Counter k b c) refl in (
      (λ h. elim (limits_come book sound met 0 Carry start well.of_book well.tails k b c (told.0 h)) [
        | inl at ↦ absurd (nothing_comes at.1.0 b at.1.1 (sym well.led ∙ at.1.2))
        | inr at ↦ (
            let within : k < aircraft book = route_within book met well k at.0 b at.1 at.2 in
            (at.0, (at.1, kept_route book raw k within ∙ at.2), at.3))
      ]),
      (λ at.
          let within : k < aircraft book = flown_within book raw k at.0 b at.1 in
          let some : 0 < aircraft book = omega (arith, within) in
          told.1 ((coming_limits book sound met 0 Carry start well.of_book (carry_width book 0 sound some) k b c).1
          (at.0, at.1.0, sym (kept_route book raw k within) ∙ at.1.1, at.2))),
    )

-- a number that is nowhere in the routes is in none of them, and the other way round
pub none_among : (a : ℕ) (xs : List ℕ) → count_by (nat_eq a) xs ≡ 0 → contains xs a ≡ false
none_among a [] e = refl
none_among a (x ∷ xs) e = by (nat_eq a x) (none_among a xs) (sum_by-cons (λ y. cond (nat_eq a y) 1 0) x xs)
  where
    by : (t : Bool) → (count_by (nat_eq a) xs ≡ 0 → contains xs a ≡ false) → count_by (nat_eq a) (x ∷ xs) ≡ cond t 1 0 + count_by (nat_eq a) xs → (t || contains xs a) ≡ false
    by true rest sum = absurd (omega (arith, sum, e))
    by false rest sum = rest (omega (arith, sum, e))

pub split_count : (a : ℕ) (route : List ℕ) (plan : List (List ℕ)) → times_flown (route ∷ plan) a ≡ count_by (nat_eq a) route + times_flown plan a
split_count a route plan = sum_by-append (λ y. cond (nat_eq a y) 1 0) route (flat_map (λ r. r) plan)

in_no_route : (a : ℕ) (plan : List (List ℕ)) → times_flown plan a ≡ 0 → IsInNoRoute plan a
in_no_route a [] e k = refl
in_no_route a (route ∷ plan) e zero = let split = split_count a route plan in none_among a route (omega (arith, split, e))
in_no_route a (route ∷ plan) e (suc k) = let split = split_count a route plan in in_no_route a plan (omega (arith, split, e)) k

flown_never : (a : ℕ) (plan : List (List ℕ)) → IsInNoRoute plan a → times_flown plan a ≡ 0
flown_never a [] none = refl
flown_never a (route ∷ plan) none =
    let split = split_count a route plan in
    let here = count_none a route (none 0) in
    let rest = flown_never a plan (λ k. none (suc k)) in
    omega (arith, split, here, rest)

-- the numbers of a range from 0 are those below its length
range_below : (n x : ℕ) → Contains (range_with_len 0 n) x → x < n
range_below n x h =
    let long = length-range_with_len 0 n in
    let below = h.1 in
    let read = get_or-range_with_len 0 n h.0 x (omega (arith, long, below)) in
    let is = h.2 in
    omega (arith, long, below, read, is)

below_range : (n x : ℕ) → x < n → Contains (range_with_len 0 n) x
below_range n x below =
    let long = length-range_with_len 0 n in
    (x, omega (arith, long, below), get_or-range_with_len 0 n x x below ∙ plus_none x)
  where
    plus_none : (x : ℕ) → 0 + x ≡ x
    plus_none x = omega arith

pub uncovered_told : UncoveredAreInNoRoute
uncovered_told book raw a =
    let met = names_met book raw in
    let told = (has_parts book raw).uncovered_in (rule.Uncovered a) refl in
    let missing = λ (b : ℕ). not (contains (activities_met met) b) in (
      (λ h.
          let found = from_filter rule.Uncovered missing (range_with_len 0 (activities book)) (rule.Uncovered a) (told.0 h) in
          let same : found.0 ≡ a = uncovered_number found.0 a found.3 in
          let below : a < activities book = subst (λ n. n < activities book) same (range_below (activities book) found.0 found.1) in
          let none : contains (activities_met met) a ≡ false = negated (contains (activities_met met) a) (subst (λ n. missing n ≡ true) same found.2) in
          (below, in_no_route a (kept book raw) (kept_times book raw a ∙ count_none a (activities_met met) none))),
      (λ h.
          let none : contains (activities_met met) a ≡ false = none_among a (activities_met met) (sym (kept_times book raw a) ∙ flown_never a (kept book raw) h.1) in
          told.1 (to_filter rule.Uncovered missing (range_with_len 0 (activities book)) a (rule.Uncovered a) (below_range (activities book) a h.0) (negates (contains (activities_met met) a) none) refl)),
    )
