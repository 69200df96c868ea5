-- A counter is told after a leg exactly where it is past its limit, counted from the carry-in along the front of the
-- route.
--
-- By induction on the names as they are met, with the counters before each: an activity steps them, a name that is
-- dropped leaves them, and the next aircraft begins with its own, so what was counted before its line does not matter.
use Rattle.std.proofs.Common.{◌≡◌, ◌∙◌, sym, refl, ap, arith, subst, true≢false, ℕ, zero, suc, ◌+◌, ◌<◌, ◌⊎◌, inl, inr, ℤ, pos, ◌<ℤ◌, Bool, true, false, if◌then◌else◌, nat_eq, List, [], ◌∷◌, ◌++◌, length, get_or, Contains, All}
use Rattle.std.specs.List.{IsDistinct}
use Rattle.std.proofs.lemmas.Bool.{eq-eqb, eqb-true}
use Rattle.std.proofs.lemmas.Int.{ints}
use Rattle.std.proofs.lemmas.List.Elements.{All-head, All-tail, Contains-append_left, Contains-append_right, Contains-append_cases}
use Rattle.std.proofs.lemmas.Map.Keys.{IsDistinct-tail}
use Rattle.tail_book.specs.Seen.{BookSeen, CounterSeen}
use Rattle.tail_book.specs.Numbers.{int_le}
use Rattle.tail_book.specs.Lookup.{aircraft, carry_of}
use Rattle.tail_book.specs.declared.place.Place.{Place}
use Rattle.tail_book.specs.declared.place.Place.TheVariants.{Carry, After}
use Rattle.tail_book.specs.Counters.{step}
use Rattle.tail_book.specs.inside.Route.{counters_from}
use Rattle.tail_book.specs.inside.Sound.{IsBook}
use Rattle.plan_audit.specs.declared.leg.Leg.{Leg}
use Rattle.plan_audit.specs.declared.met.Met.{Met}
use Rattle.plan_audit.specs.declared.met.Met.TheVariants.{Unknown, Twice, Tail, Activity}
use Rattle.plan_audit.specs.declared.broken.Broken.TheVariants as rule
use Rattle.plan_audit.specs.inside.Met.{IsMetOf}
use Rattle.plan_audit.specs.Met.{tails_met}
use Rattle.plan_audit.specs.Kept.{next_route, route_met, legs_from}
use Rattle.plan_audit.specs.Rules.{past_limits_at, values_before, values_after, past_limits}
use Rattle.maint_counters.specs.inside.StepTable.{no_counter}
use Rattle.plan_audit.specs.inside.Told.{IsPastLimit}
use Rattle.plan_audit.proofs.CountLemmas.{carry_width}
use Rattle.tail_book.proofs.Order.{step_count}
use Rattle.plan_audit.proofs.ToldLemmas.{empty_has, cons_cases, cons_here, order_of, AreOf}
use Rattle.plan_audit.proofs.KeptLegs.{nothing_comes, route_behind, first_same, rest_same}

tail_same : (j a d k b c : ℕ) → rule.Counter j a d ≡ rule.Counter k b c → j ≡ k
tail_same j a d k b c e = cc

activity_same : (j a d k b c : ℕ) → rule.Counter j a d ≡ rule.Counter k b c → a ≡ b
activity_same j a d k b c e = cc

counter_same : (j a d k b c : ℕ) → rule.Counter j a d ≡ rule.Counter k b c → d ≡ c
counter_same j a d k b c e = cc

past_by : (value limit : ℤ) → int_le value limit ≡ false → limit <ℤ value
past_by value limit e = grind (arith, ints)

past_to : (value limit : ℤ) → limit <ℤ value → int_le value limit ≡ false
past_to value limit h = grind (arith, ints)

-- counter i of the list is past its limit
abbrev pub IsPastAt : List CounterSeen → List ℤ → ℕ → Type 0
IsPastAt counters values i = (i < length counters) × ((get_or counters i no_counter).limit <ℤ get_or values i (pos 0))

-- the lines after one leg, its counters from number s on
pub at_are_of : (leg : Leg) (s : ℕ) (counters : List CounterSeen) (values : List ℤ) → AreOf 6 (past_limits_at leg s counters values)
at_are_of leg s [] values line h = absurd (empty_has line h)
at_are_of leg s (counter ∷ counters) [] line h = absurd (empty_has line h)
at_are_of leg s (counter ∷ counters) (value ∷ values) line h =
    elim (Contains-append_cases (if int_le value counter.limit then [] else rule.Counter leg.tail leg.activity s ∷ []) (past_limits_at leg (s + 1) counters values) line h) [
      | inl here ↦ by (int_le value counter.limit) here
      | inr later ↦ at_are_of leg (s + 1) counters values line later
    ]
  where
    by : (t : Bool) → Contains (if t then [] else rule.Counter leg.tail leg.activity s ∷ []) line → order_of line ≡ 6
    by true here = absurd (empty_has line here)
    by false here = elim (cons_cases (rule.Counter leg.tail leg.activity s) [] line here) [
      | inl same ↦ ap order_of (sym same)
      | inr none ↦ absurd (empty_has line none)
    ]

pub past_limits_are_of : (book : BookSeen) (values : List ℤ) (legs : List Leg) → AreOf 6 (past_limits book values legs)
past_limits_are_of book values [] line h = absurd (empty_has line h)
past_limits_are_of book values (leg ∷ legs) line h =
    let after = values_after book leg values in
    elim (Contains-append_cases (past_limits_at leg 0 book.rules.counters after) (past_limits book after legs) line h) [
      | inl here ↦ at_are_of leg 0 book.rules.counters after line here
      | inr later ↦ past_limits_are_of book after legs line later
    ]

-- the numbers of a line after the leg: its aircraft, its activity, and a counter that is past its limit
record IsOfLeg (leg : Leg) (s : ℕ) (counters : List CounterSeen) (values : List ℤ) (k b c : ℕ) : Type 0 where
  number : ℕ
  tail : leg.tail ≡ k
  activity : leg.activity ≡ b
  counted : s + number ≡ c
  past : IsPastAt counters values number

at_from : (leg : Leg) (s : ℕ) (counters : List CounterSeen) (values : List ℤ) (k b c : ℕ)
    → Contains (past_limits_at leg s counters values) (rule.Counter k b c) → IsOfLeg leg s counters values k b c
at_from leg s [] values k b c h = absurd (empty_has (rule.Counter k b c) h)
at_from leg s (counter ∷ counters) [] k b c h = absurd (empty_has (rule.Counter k b c) h)
at_from leg s (counter ∷ counters) (value ∷ values) k b c h =
    elim (Contains-append_cases (if int_le value counter.limit then [] else rule.Counter leg.tail leg.activity s ∷ []) (past_limits_at leg (s + 1) counters values) (rule.Counter k b c) h) [
      | inl here ↦ by (int_le value counter.limit) refl here
      | inr later ↦ (
          let rest = at_from leg (s + 1) counters values k b c later in
          let counted = rest.counted in
          let below = rest.past.0 in
          record {
            number = suc rest.number;
            tail = rest.tail;
            activity = rest.activity;
            counted = omega (arith, counted);
            past = (omega (arith, below), rest.past.1);
          })
    ]
  where
    by : (t : Bool) → int_le value counter.limit ≡ t → Contains (if t then [] else rule.Counter leg.tail leg.activity s ∷ []) (rule.Counter k b c)
        → IsOfLeg leg s (counter ∷ counters) (value ∷ values) k b c
    by true e here = absurd (empty_has (rule.Counter k b c) here)
    by false e here = elim (cons_cases (rule.Counter leg.tail leg.activity s) [] (rule.Counter k b c) here) [
      | inl same ↦ (let number = counter_same leg.tail leg.activity s k b c same in record {
        number = 0;
        tail = tail_same leg.tail leg.activity s k b c same;
        activity = activity_same leg.tail leg.activity s k b c same;
        counted = omega (arith, number);
        past = (omega arith, past_by value counter.limit e);
      })
      | inr none ↦ absurd (empty_has (rule.Counter k b c) none)
    ]

at_to : (leg : Leg) (s : ℕ) (counters : List CounterSeen) (values : List ℤ) → length values ≡ length counters → (i c : ℕ) → s + i ≡ c → IsPastAt counters values i
    → Contains (past_limits_at leg s counters values) (rule.Counter leg.tail leg.activity c)
at_to leg s [] values same i c counted past = let below = past.0 in absurd (omega (arith, below))
at_to leg s (counter ∷ counters) [] same i c counted past = absurd (omega (arith, same))
at_to leg s (counter ∷ counters) (value ∷ values) same zero c counted past =
    let first = if int_le value counter.limit then [] else rule.Counter leg.tail leg.activity s ∷ [] in
    Contains-append_left first (past_limits_at leg (s + 1) counters values) (rule.Counter leg.tail leg.activity c)
    (subst (λ t. Contains (if t then [] else rule.Counter leg.tail leg.activity s ∷ []) (rule.Counter leg.tail leg.activity c)) (sym (past_to value counter.limit past.1))
    (cons_here (rule.Counter leg.tail leg.activity s) [] (rule.Counter leg.tail leg.activity c) (ap (rule.Counter leg.tail leg.activity) (number s c counted))))
  where
    number : (s c : ℕ) → s + 0 ≡ c → s ≡ c
    number s c e = omega (arith, e)
at_to leg s (counter ∷ counters) (value ∷ values) same (suc i) c counted past =
    let first = if int_le value counter.limit then [] else rule.Counter leg.tail leg.activity s ∷ [] in
    let below = past.0 in
    Contains-append_right first (past_limits_at leg (s + 1) counters values) (rule.Counter leg.tail leg.activity c)
    (at_to leg (s + 1) counters values (omega (arith, same)) i c (omega (arith, counted)) (omega (arith, below), past.1))

-- in a route from a place on, with the counters there, the activity comes behind a front with which counter c gets past its limit
abbrev pub GetsPast : BookSeen → ℕ → Place → List ℤ → List ℕ → ℕ → ℕ → Type 0
GetsPast book k x values route b c =
    (front : List ℕ) × (rest : List ℕ) × (route ≡ front ++ b ∷ rest) × IsPastLimit book c (counters_from book k x values (front ++ b ∷ []))

none_gets_past : (book : BookSeen) (k : ℕ) (x : Place) (values : List ℤ) (b c : ℕ) {P : Type 0} → GetsPast book k x values [] b c → P
none_gets_past book k x values b c at = absurd (nothing_comes at.0 b at.1 at.2)

-- the first activity of a route, or one behind it, gets a counter past its limit
next_limit : (book : BookSeen) (k : ℕ) (x : Place) (a : ℕ) (values : List ℤ) (route : List ℕ) (legs : List Leg) (i b c : ℕ) → i ≡ k
    → length (step book k x a (values_before book k x values)) ≡ length book.rules.counters
    → (i ≡ k → GetsPast book k (After a) (step book k x a (values_before book k x values)) route b c
    → Contains (past_limits book (step book k x a (values_before book k x values)) legs) (rule.Counter i b c))
    → (front rest : List ℕ) → a ∷ route ≡ front ++ b ∷ rest → IsPastLimit book c (counters_from book k x (values_before book k x values) (front ++ b ∷ []))
    → Contains (past_limits book values (record { tail = k; from = x; activity = a } ∷ legs)) (rule.Counter i b c)
next_limit book k x a values route legs i b c e wide go [] rest splits past =
    let after = step book k x a (values_before book k x values) in
    let leg : Leg = record { tail = k; from = x; activity = a } in
    let at : IsPastLimit book c after = subst (λ n. IsPastLimit book c (step book k x n (values_before book k x values))) (sym (first_same a b route rest splits)) past in
    Contains-append_left (past_limits_at leg 0 book.rules.counters after) (past_limits book after legs) (rule.Counter i b c)
    (subst (λ n. Contains (past_limits_at leg 0 book.rules.counters after) (rule.Counter n b c)) (sym e)
    (subst (λ n. Contains (past_limits_at leg 0 book.rules.counters after) (rule.Counter k n c)) (first_same a b route rest splits)
    (at_to leg 0 book.rules.counters after wide c c (omega arith) (at.of_book, at.past))))
next_limit book k x a values route legs i b c e wide go (d ∷ front) rest splits past =
    let after = step book k x a (values_before book k x values) in
    let leg : Leg = record { tail = k; from = x; activity = a } in
    let same : d ≡ a = sym (first_same a d route (front ++ b ∷ rest) splits) in
    Contains-append_right (past_limits_at leg 0 book.rules.counters after) (past_limits book after legs) (rule.Counter i b c)
    (go e (
      front,
      rest,
      rest_same a d route (front ++ b ∷ rest) splits,
      subst (λ n. IsPastLimit book c (counters_from book k (After n) (step book k x n (values_before book k x values)) (front ++ b ∷ []))) same past,
    ))

module _ (book : BookSeen) (sound : IsBook book) where
  pub limits_come : (met : List Met) (k : ℕ) (x : Place) (values : List ℤ) → All (IsMetOf book) met → IsDistinct nat_eq (tails_met met)
      → (i b c : ℕ) → Contains (past_limits book values (legs_from k x met)) (rule.Counter i b c)
      → ((i ≡ k) × GetsPast book k x (values_before book k x values) (next_route met) b c) ⊎ GetsPast book i Carry (carry_of book i) (route_met met i) b c
  limits_come [] k x values all differ i b c h = absurd (empty_has (rule.Counter i b c) h)
  limits_come (Unknown name ∷ met) k x values all differ i b c h = limits_come met k x values (All-tail (IsMetOf book) (Unknown name) met all) differ i b c h
  limits_come (Twice name ∷ met) k x values all differ i b c h = limits_come met k x values (All-tail (IsMetOf book) (Twice name) met all) differ i b c h
  limits_come (Tail j ∷ met) k x values all differ i b c h =
      inr (by (nat_eq i j) refl (limits_come met j Carry values (All-tail (IsMetOf book) (Tail j) met all) (IsDistinct-tail nat_eq j (tails_met met) differ) i b c h))
    where
      by : (t : Bool) → nat_eq i j ≡ t → ((i ≡ j) × GetsPast book j Carry (carry_of book j) (next_route met) b c) ⊎ GetsPast book i Carry (carry_of book i) (route_met met i) b c
          → GetsPast book i Carry (carry_of book i) (if t then next_route met else route_met met i) b c
      by true e (inl here) = subst (λ n. GetsPast book n Carry (carry_of book n) (next_route met) b c) (sym here.0) here.1
      by true e (inr there) =
          let none : route_met met i ≡ [] = ap (route_met met) (eqb-true i j e) ∙ route_behind j met differ in
          none_gets_past book i Carry (carry_of book i) b c (subst (λ route. GetsPast book i Carry (carry_of book i) route b c) none there)
      by false e (inl here) = absurd (true≢false (sym (eq-eqb i j here.0) ∙ e))
      by false e (inr there) = there
  limits_come (Activity a ∷ met) k x values all differ i b c h =
      let leg : Leg = record { tail = k; from = x; activity = a } in
      let after = values_after book leg values in
      elim (Contains-append_cases (past_limits_at leg 0 book.rules.counters after) (past_limits book after (legs_from k (After a) met)) (rule.Counter i b c) h) [
        | inl here ↦ (
            let of = at_from leg 0 book.rules.counters after i b c here in
            let number : of.number ≡ c = number_is of.number c of.counted in
            let past : IsPastAt book.rules.counters after c = subst (IsPastAt book.rules.counters after) number of.past in
            inl (sym of.tail, subst (λ n. GetsPast book k x (values_before book k x values) (a ∷ next_route met) n c) of.activity ([], next_route met, refl, record { of_book = past.0; past = past.1 })))
        | inr later ↦ elim (limits_come met k (After a) after (All-tail (IsMetOf book) (Activity a) met all) differ i b c later) [
          | inl next ↦ (let at = next.1 in inl (next.0, (a ∷ at.0, at.1, ap (λ route. a ∷ route) at.2, at.3)))
          | inr there ↦ inr there
        ]
      ]
    where
      number_is : (n c : ℕ) → 0 + n ≡ c → n ≡ c
      number_is n c e = omega (arith, e)

  pub coming_limits : (met : List Met) (k : ℕ) (x : Place) (values : List ℤ) → All (IsMetOf book) met → length (values_before book k x values) ≡ length book.rules.counters → (i b c : ℕ)
      → (i ≡ k → GetsPast book k x (values_before book k x values) (next_route met) b c → Contains (past_limits book values (legs_from k x met)) (rule.Counter i b c))
      × (GetsPast book i Carry (carry_of book i) (route_met met i) b c → Contains (past_limits book values (legs_from k x met)) (rule.Counter i b c))
  coming_limits [] k x values all width i b c =
      ((λ e at. none_gets_past book k x (values_before book k x values) b c at), (λ at. none_gets_past book i Carry (carry_of book i) b c at))
  coming_limits (Unknown name ∷ met) k x values all width i b c = coming_limits met k x values (All-tail (IsMetOf book) (Unknown name) met all) width i b c
  coming_limits (Twice name ∷ met) k x values all width i b c = coming_limits met k x values (All-tail (IsMetOf book) (Twice name) met all) width i b c
  coming_limits (Tail j ∷ met) k x values all width i b c =
      let within : j < aircraft book = All-head (IsMetOf book) (Tail j) met all in
      let rest = coming_limits met j Carry values (All-tail (IsMetOf book) (Tail j) met all) (carry_width book j sound within) i b c in
      ((λ e at. none_gets_past book k x (values_before book k x values) b c at), by (nat_eq i j) refl rest.0 rest.1)
    where
      by : (t : Bool) → nat_eq i j ≡ t → (i ≡ j → GetsPast book j Carry (carry_of book j) (next_route met) b c → Contains (past_limits book values (legs_from j Carry met)) (rule.Counter i b c))
          → (GetsPast book i Carry (carry_of book i) (route_met met i) b c → Contains (past_limits book values (legs_from j Carry met)) (rule.Counter i b c))
          → GetsPast book i Carry (carry_of book i) (if t then next_route met else route_met met i) b c → Contains (past_limits book values (legs_from j Carry met)) (rule.Counter i b c)
      by true e here there at = let same : i ≡ j = eqb-true i j e in here same (subst (λ n. GetsPast book n Carry (carry_of book n) (next_route met) b c) same at)
      by false e here there at = there at
  coming_limits (Activity a ∷ met) k x values all width i b c =
      let after = step book k x a (values_before book k x values) in
      let wide = step_count book k x a (values_before book k x values) width in
      let rest = coming_limits met k (After a) after (All-tail (IsMetOf book) (Activity a) met all) wide i b c in (
        (λ e at. next_limit book k x a values (next_route met) (legs_from k (After a) met) i b c e wide rest.0 at.0 at.1 at.2 at.3),
        (λ at. Contains-append_right (past_limits_at (record { tail = k; from = x; activity = a }) 0 book.rules.counters after) (past_limits book after (legs_from k (After a) met)) (rule.Counter i b c) (rest.1 at)),
      )
