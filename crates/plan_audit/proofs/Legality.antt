-- Where no leg breaks a rule, each kept route is legal, and where each kept route is legal, no leg breaks a rule. Both go
-- along the names that are met, with the place and the counters before each leg.
use Rattle.std.proofs.Common.{◌≡◌, sym, refl, arith, subst, ℕ, ◌+◌, ◌<◌, ℤ, Bool, true, false, ◌&&◌, cond, if◌then◌else◌, nat_eq, nat_lt, List, [], ◌∷◌, ◌++◌, map, length, All}
use Rattle.std.specs.Prelude.{not}
use Rattle.std.specs.List.{filter}
use Rattle.std.proofs.lemmas.Bool.Decides.{nat_tests, Decides-ltb}
use Rattle.std.proofs.lemmas.List.Elements.{All-head, All-tail}
use Rattle.tail_book.specs.Seen.{BookSeen, CounterSeen}
use Rattle.tail_book.specs.Numbers.{int_le}
use Rattle.tail_book.specs.Lookup.{activities, aircraft}
use Rattle.tail_book.specs.declared.place.Place.{Place}
use Rattle.tail_book.specs.declared.place.Place.TheVariants.{Carry, After}
use Rattle.tail_book.specs.Curfew.{is_curfewed}
use Rattle.tail_book.specs.inside.Sound.{IsBook}
use Rattle.tail_book.specs.Allowed.{is_permitted}
use Rattle.tail_book.specs.LegalTests.{is_allowed, is_allowed_at, is_link, within_limits, is_legal_from, is_legal_route}
use Rattle.tail_book.specs.Link.{is_connected}
use Rattle.plan_audit.specs.declared.leg.Leg.{Leg}
use Rattle.plan_audit.specs.declared.met.Met.{Met}
use Rattle.plan_audit.specs.declared.met.Met.TheVariants.{Unknown, Twice, Tail, Activity}
use Rattle.plan_audit.specs.declared.broken.Broken.{Broken}
use Rattle.plan_audit.specs.declared.broken.Broken.TheVariants as rule
use Rattle.plan_audit.specs.inside.Met.{IsMetOf}
use Rattle.plan_audit.specs.Kept.{next_route, route_met, legs_from}
use Rattle.plan_audit.specs.Rules.{not_allowed, curfews, no_links, past_limits_at, values_before, values_after, past_limits}
use Rattle.tail_book.proofs.Order.{step_count}
use Rattle.plan_audit.proofs.CountLemmas.{carry_width}

pub both : (p q : Bool) → p ≡ true → q ≡ true → (p && q) ≡ true
both p q e f = rw (e, f) refl

allowed-by : (a b c d : Bool) → a ≡ true → b ≡ true → c ≡ true → d ≡ false → (a && (b && (c && not d))) ≡ true
allowed-by a b c d e f g h = rw (e, f, g, h) refl

link-by : (a b c : Bool) → a ≡ true → b ≡ true → c ≡ true → (a && (b && c)) ≡ true
link-by a b c e f g = rw (e, f, g) refl

pub negated : (p : Bool) → not p ≡ false → p ≡ true
negated true e = refl
negated false e = sym e

-- the first of a list does not pass a test, where none does
pub none_first : {A : Type 0} (f : A → Broken) (p : A → Bool) (x : A) (xs : List A) → map f (filter p (x ∷ xs)) ≡ [] → p x ≡ false
none_first {A} f p x xs e = by (p x) e
  where
    by : (t : Bool) → map f (cond t (x ∷ filter p xs) (filter p xs)) ≡ [] → t ≡ false
    by true e = cc
    by false e = refl

pub none_later : {A : Type 0} (f : A → Broken) (p : A → Bool) (x : A) (xs : List A) → map f (filter p (x ∷ xs)) ≡ [] → map f (filter p xs) ≡ []
none_later {A} f p x xs e = by (p x) e
  where
    by : (t : Bool) → map f (cond t (x ∷ filter p xs) (filter p xs)) ≡ [] → map f (filter p xs) ≡ []
    by true e = cc
    by false e = e

pub first_empty : {A : Type 0} (xs ys : List A) → xs ++ ys ≡ [] → xs ≡ []
first_empty [] ys e = refl
first_empty (x ∷ xs) ys e = cc

pub second_empty : {A : Type 0} (xs ys : List A) → xs ++ ys ≡ [] → ys ≡ []
second_empty [] ys e = e
second_empty (x ∷ xs) ys e = cc

-- no counter past its limit
within-by : (leg : Leg) (c : ℕ) (counters : List CounterSeen) (values : List ℤ) → length values ≡ length counters
    → past_limits_at leg c counters values ≡ [] → within_limits counters values ≡ true
within-by leg c [] [] same e = refl
within-by leg c [] (value ∷ values) same e = absurd (omega (arith, same))
within-by leg c (counter ∷ counters) [] same e = absurd (omega (arith, same))
within-by leg c (counter ∷ counters) (value ∷ values) same e =
    let here = first_empty (if int_le value counter.limit then [] else rule.Counter leg.tail leg.activity c ∷ []) (past_limits_at leg (c + 1) counters values) e in
    let rest = second_empty (if int_le value counter.limit then [] else rule.Counter leg.tail leg.activity c ∷ []) (past_limits_at leg (c + 1) counters values) e in
    both (int_le value counter.limit) (within_limits counters values) (first (int_le value counter.limit) here) (within-by leg (c + 1) counters values (omega (arith, same)) rest)
  where
    first : (t : Bool) → (if t then [] else rule.Counter leg.tail leg.activity c ∷ []) ≡ [] → t ≡ true
    first true e = refl
    first false e = cc

-- a list of legs that breaks no rule of legs
pub record IsUnbroken (book : BookSeen) (values : List ℤ) (legs : List Leg) : Type 0 where
  pub allowed : not_allowed book legs ≡ []
  pub open_hours : curfews book legs ≡ []
  pub links : no_links book legs ≡ []
  pub limits : past_limits book values legs ≡ []

module _ (book : BookSeen) (sound : IsBook book) where
  -- the next leg is a link, and stays within limits
  leg_allowed : (values : List ℤ) (leg : Leg) (legs : List Leg) → leg.tail < aircraft book → leg.activity < activities book → IsUnbroken book values (leg ∷ legs)
      → is_allowed book leg.tail leg.activity ≡ true
  unfolding is_allowed
  leg_allowed values leg legs tail activity h =
      let k = leg.tail in
      let a = leg.activity in
      let permitted = negated (is_permitted book k a) (none_first (λ leg. rule.NotAllowed leg.tail leg.activity) (λ leg. not (is_permitted book leg.tail leg.activity)) leg legs h.allowed) in
      let opened = none_first (λ leg. rule.Curfew leg.tail leg.activity) (λ leg. is_curfewed book leg.tail leg.activity) leg legs h.open_hours in
      allowed-by (nat_lt k (aircraft book)) (nat_lt a (activities book)) (is_permitted book k a) (is_curfewed book k a)
      ((Decides-ltb k (aircraft book)).1 tail) ((Decides-ltb a (activities book)).1 activity) permitted opened

  leg_connected : (values : List ℤ) (leg : Leg) (legs : List Leg) → IsUnbroken book values (leg ∷ legs) → is_connected book leg.tail leg.from leg.activity ≡ true
  leg_connected values leg legs h =
      negated (is_connected book leg.tail leg.from leg.activity)
      (none_first (λ leg. rule.NoLink leg.tail leg.activity) (λ leg. not (is_connected book leg.tail leg.from leg.activity)) leg legs h.links)

  later : (values : List ℤ) (leg : Leg) (legs : List Leg) → IsUnbroken book values (leg ∷ legs) → IsUnbroken book (values_after book leg values) legs
  later values leg legs h = record {
    allowed = none_later (λ leg. rule.NotAllowed leg.tail leg.activity) (λ leg. not (is_permitted book leg.tail leg.activity)) leg legs h.allowed;
    open_hours = none_later (λ leg. rule.Curfew leg.tail leg.activity) (λ leg. is_curfewed book leg.tail leg.activity) leg legs h.open_hours;
    links = none_later (λ leg. rule.NoLink leg.tail leg.activity) (λ leg. not (is_connected book leg.tail leg.from leg.activity)) leg legs h.links;
    limits = second_empty (past_limits_at leg 0 book.rules.counters (values_after book leg values)) (past_limits book (values_after book leg values) legs) h.limits;
  }

  pub routes_legal : (k : ℕ) (x : Place) (values : List ℤ) (met : List Met) → All (IsMetOf book) met → k < aircraft book → is_allowed_at book k x ≡ true
      → length (values_before book k x values) ≡ length book.rules.counters → IsUnbroken book values (legs_from k x met)
      → (is_legal_from book k x (values_before book k x values) (next_route met) ≡ true) × ((i : ℕ) → is_legal_route book i (route_met met i) ≡ true)
  unfolding is_link
  routes_legal k x values [] all flier before width h = (refl, (λ i. refl))
  routes_legal k x values (Unknown name ∷ met) all flier before width h = routes_legal k x values met (All-tail (IsMetOf book) (Unknown name) met all) flier before width h
  routes_legal k x values (Twice name ∷ met) all flier before width h = routes_legal k x values met (All-tail (IsMetOf book) (Twice name) met all) flier before width h
  routes_legal k x values (Tail j ∷ met) all flier before width h =
      let within : j < aircraft book = All-head (IsMetOf book) (Tail j) met all in
      let rest = routes_legal j Carry values met (All-tail (IsMetOf book) (Tail j) met all) within refl (carry_width book j sound within) h in
      (refl, (λ i. by (nat_eq i j) i (λ e. grind (arith, nat_tests)) rest.0 (rest.1 i)))
    where
      by : (t : Bool) (i : ℕ) → (t ≡ true → j ≡ i) → is_legal_route book j (next_route met) ≡ true → is_legal_route book i (route_met met i) ≡ true
          → is_legal_route book i (if t then next_route met else route_met met i) ≡ true
      by true i same here other = subst (λ k. is_legal_route book k (next_route met) ≡ true) (same refl) here
      by false i same here other = other
  routes_legal k x values (Activity b ∷ met) all flier before width h =
      let leg : Leg = record { tail = k; from = x; activity = b } in
      let legs = legs_from k (After b) met in
      let after = values_after book leg values in
      let within : b < activities book = All-head (IsMetOf book) (Activity b) met all in
      let allowed = leg_allowed values leg legs flier within h in
      let linked : is_link book k x b ≡ true =
      link-by (is_connected book k x b) (is_allowed_at book k x) (is_allowed book k b) (leg_connected values leg legs h) before allowed in
      let wide = step_count book k x b (values_before book k x values) width in
      let limits = within-by leg 0 book.rules.counters after wide
      (first_empty (past_limits_at leg 0 book.rules.counters after) (past_limits book after legs) h.limits) in
      let rest = routes_legal k (After b) after met (All-tail (IsMetOf book) (Activity b) met all) flier allowed wide (later values leg legs h) in (
        both (nat_lt b (activities book)) _ ((Decides-ltb b (activities book)).1 within)
            (both (is_link book k x b) _ linked (both (within_limits book.rules.counters after) _ limits rest.0)),
        rest.1,
      )

  -- the route before the first aircraft is empty, and the others are legal
  pub routes_legal_first : (met : List Met) (values : List ℤ) (k : ℕ) (x : Place) → All (IsMetOf book) met → next_route met ≡ [] → IsUnbroken book values (legs_from k x met)
      → (i : ℕ) → is_legal_route book i (route_met met i) ≡ true
  routes_legal_first [] values k x all led h i = refl
  routes_legal_first (Unknown name ∷ met) values k x all led h i = routes_legal_first met values k x (All-tail (IsMetOf book) (Unknown name) met all) led h i
  routes_legal_first (Twice name ∷ met) values k x all led h i = routes_legal_first met values k x (All-tail (IsMetOf book) (Twice name) met all) led h i
  routes_legal_first (Tail j ∷ met) values k x all led h i =
      let within : j < aircraft book = All-head (IsMetOf book) (Tail j) met all in
      let rest = routes_legal j Carry values met (All-tail (IsMetOf book) (Tail j) met all) within refl (carry_width book j sound within) h in
      by (nat_eq i j) (λ e. grind (arith, nat_tests)) rest.0 (rest.1 i)
    where
      by : (t : Bool) → (t ≡ true → j ≡ i) → is_legal_route book j (next_route met) ≡ true → is_legal_route book i (route_met met i) ≡ true
          → is_legal_route book i (if t then next_route met else route_met met i) ≡ true
      by true same here other = subst (λ k. is_legal_route book k (next_route met) ≡ true) (same refl) here
      by false same here other = other
  routes_legal_first (Activity b ∷ met) values k x all led h i = cc
