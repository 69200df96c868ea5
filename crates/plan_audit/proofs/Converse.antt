-- Where the kept plan is legal and no name was dropped, no rule is broken. Each leg of a legal route is allowed, linked
-- and within its limits, so no leg is listed by any rule: by induction on the names, and at an aircraft's name the
-- legality of its own route takes over. An activity that is flown once was met, so none is uncovered.
use Rattle.std.proofs.Common.{◌≡◌, ◌∙◌, sym, refl, ap, arith, subst, true≢false, ℕ, zero, suc, ◌+◌, ◌<◌, ◌≤◌, ℤ, pos, inl, inr, Bool, true, false, ◌&&◌, ◌||◌, cond, if◌then◌else◌, nat_eq, nat_lt, List, [], ◌∷◌, ◌++◌, map, length, replicate}
use Rattle.std.specs.Prelude.{not, count_by}
use Rattle.std.specs.List.{filter, range_with_len, IsDistinct, AllByRecursion}
use Rattle.std.proofs.lemmas.Bool.{cases_Bool, eq-eqb, eqb-true}
use Rattle.std.proofs.lemmas.Map.Keys.{IsDistinct-tail}
use Rattle.tail_book.specs.Seen.{BookSeen, RawPlanSeen, CounterSeen}
use Rattle.tail_book.specs.Numbers.{contains, int_le}
use Rattle.tail_book.specs.Lookup.{activities, aircraft, carry_of}
use Rattle.tail_book.specs.declared.place.Place.{Place}
use Rattle.tail_book.specs.declared.place.Place.TheVariants.{Carry, After}
use Rattle.tail_book.specs.Curfew.{is_curfewed}
use Rattle.tail_book.specs.Plan.{IsLegalPlan}
use Rattle.tail_book.specs.Allowed.{is_permitted}
use Rattle.tail_book.specs.LegalTests.{is_allowed, is_allowed_at, is_link, within_limits, is_legal_from, is_legal_route}
use Rattle.tail_book.specs.inside.Tests.{LegalRouteDecides}
use Rattle.tail_book.specs.Link.{is_connected}
use Rattle.plan_audit.specs.declared.leg.Leg.{Leg}
use Rattle.plan_audit.specs.declared.met.Met.{Met}
use Rattle.plan_audit.specs.declared.met.Met.TheVariants.{Unknown, Twice, Tail, Activity}
use Rattle.plan_audit.specs.declared.broken.Broken.{Broken}
use Rattle.plan_audit.specs.declared.broken.Broken.TheVariants as rule
use Rattle.plan_audit.specs.Met.{tails_met, activities_met, names_met}
use Rattle.plan_audit.specs.Kept.{next_route, route_met, kept, legs_from}
use Rattle.plan_audit.specs.Rules.{unknown, twice, uncovered, past_limits_at, values_before, values_after, past_limits}
use Rattle.plan_audit.specs.Broken.{broken}
use Rattle.plan_audit.proofs.WellMet.{names_well_met}
use Rattle.plan_audit.proofs.Along.{kept_times, differs, count_none, tails_within}
use Rattle.plan_audit.proofs.Legality.{IsUnbroken}
use Rattle.plan_audit.proofs.Unbroken.{kept_route}

first-part : (p q : Bool) → (p && q) ≡ true → p ≡ true
first-part true q e = refl
first-part false q e = e

rest-part : (p q : Bool) → (p && q) ≡ true → q ≡ true
rest-part true q e = e
rest-part false q e = absurd (true≢false (sym e))

permitted-by : (a b c d : Bool) → (a && (b && (c && not d))) ≡ true → c ≡ true
permitted-by a b c d h = grind arith

opened-by : (a b c d : Bool) → (a && (b && (c && not d))) ≡ true → d ≡ false
opened-by a b c d h = grind arith

-- what does not pass is not listed
skip : {A : Type 0} (f : A → Broken) (p : A → Bool) (x : A) (xs : List A) → p x ≡ false → map f (filter p xs) ≡ [] → map f (filter p (x ∷ xs)) ≡ []
skip f p x xs e rest = ap (λ t. map f (cond t (x ∷ filter p xs) (filter p xs))) e ∙ rest

not_true : (p : Bool) → p ≡ true → not p ≡ false
not_true p e = ap not e

none_in_range : (f : ℕ → Broken) (p : ℕ → Bool) (s n : ℕ) → ((a : ℕ) → s ≤ a → a < s + n → p a ≡ false) → map f (filter p (range_with_len s n)) ≡ []
none_in_range f p s zero each = refl
none_in_range f p s (suc n) each =
    skip f p s (range_with_len (s + 1) n) (each s (omega arith) (omega arith))
    (none_in_range f p (s + 1) n (λ a least most. each a (omega (arith, least)) (omega (arith, most))))

no_limit_past : (leg : Leg) (c : ℕ) (counters : List CounterSeen) (values : List ℤ) → within_limits counters values ≡ true → past_limits_at leg c counters values ≡ []
no_limit_past leg c [] values e = refl
no_limit_past leg c (counter ∷ counters) [] e = refl
no_limit_past leg c (counter ∷ counters) (value ∷ values) e =
    ap (λ t. (if t then [] else rule.Counter leg.tail leg.activity c ∷ []) ++ past_limits_at leg (c + 1) counters values) (first-part (int_le value counter.limit) (within_limits counters values) e)
    ∙ no_limit_past leg (c + 1) counters values (rest-part (int_le value counter.limit) (within_limits counters values) e)

module _ (book : BookSeen) where
  more_unbroken : (values : List ℤ) (leg : Leg) (legs : List Leg) → is_link book leg.tail leg.from leg.activity ≡ true
      → within_limits book.rules.counters (values_after book leg values) ≡ true → IsUnbroken book (values_after book leg values) legs → IsUnbroken book values (leg ∷ legs)
  unfolding is_allowed is_link
  more_unbroken values leg legs linked within rest =
      let k = leg.tail in
      let a = leg.activity in
      let allowed : is_allowed book k a ≡ true =
      rest-part (is_allowed_at book k leg.from) (is_allowed book k a) (rest-part (is_connected book k leg.from a) (is_allowed_at book k leg.from && is_allowed book k a) linked) in
      let permitted : is_permitted book k a ≡ true = permitted-by (nat_lt k (aircraft book)) (nat_lt a (activities book)) (is_permitted book k a) (is_curfewed book k a) allowed in
      let opened : is_curfewed book k a ≡ false = opened-by (nat_lt k (aircraft book)) (nat_lt a (activities book)) (is_permitted book k a) (is_curfewed book k a) allowed in
      let connected : is_connected book k leg.from a ≡ true = first-part (is_connected book k leg.from a) (is_allowed_at book k leg.from && is_allowed book k a) linked in
      record {
        allowed = skip (λ leg. rule.NotAllowed leg.tail leg.activity) (λ leg. not (is_permitted book leg.tail leg.activity)) leg legs (not_true (is_permitted book k a) permitted) rest.allowed;
        open_hours = skip (λ leg. rule.Curfew leg.tail leg.activity) (λ leg. is_curfewed book leg.tail leg.activity) leg legs opened rest.open_hours;
        links = skip (λ leg. rule.NoLink leg.tail leg.activity) (λ leg. not (is_connected book leg.tail leg.from leg.activity)) leg legs (not_true (is_connected book k leg.from a) connected) rest.links;
        limits = ap (λ xs. xs ++ past_limits book (values_after book leg values) legs) (no_limit_past leg 0 book.rules.counters (values_after book leg values) within) ∙ rest.limits;
      }

  legs_unbroken : (k : ℕ) (x : Place) (values : List ℤ) (met : List Met) → IsDistinct nat_eq (tails_met met) → is_legal_from book k x (values_before book k x values) (next_route met) ≡ true
      → ((i : ℕ) → contains (tails_met met) i ≡ true → is_legal_route book i (route_met met i) ≡ true) → IsUnbroken book values (legs_from k x met)
  legs_unbroken k x values [] differ here each = record { allowed = refl; open_hours = refl; links = refl; limits = refl }
  legs_unbroken k x values (Unknown name ∷ met) differ here each = legs_unbroken k x values met differ here each
  legs_unbroken k x values (Twice name ∷ met) differ here each = legs_unbroken k x values met differ here each
  legs_unbroken k x values (Tail j ∷ met) differ here each =
      let same : nat_eq j j ≡ true = eq-eqb j j refl in
      let mine : is_legal_route book j (next_route met) ≡ true =
      subst (λ t. is_legal_route book j (if t then next_route met else route_met met j) ≡ true) same (each j (ap (λ t. t || contains (tails_met met) j) same)) in
      legs_unbroken j Carry values met (IsDistinct-tail nat_eq j (tails_met met) differ) mine
      (λ i among. by (nat_eq i j) i refl among (each i))
    where
      by : (t : Bool) (i : ℕ) → nat_eq i j ≡ t → contains (tails_met met) i ≡ true → ((t || contains (tails_met met) i) ≡ true → is_legal_route book i (if t then next_route met else route_met met i) ≡ true)
          → is_legal_route book i (route_met met i) ≡ true
      by true i e among each =
          let equal : i ≡ j = eqb-true i j e in
          absurd (true≢false (sym among ∙ ap (contains (tails_met met)) equal ∙ differs j (tails_met met) differ))
      by false i e among each = each among
  legs_unbroken k x values (Activity b ∷ met) differ here each =
      let leg : Leg = record { tail = k; from = x; activity = b } in
      let after = values_after book leg values in
      let inner = rest-part (nat_lt b (activities book)) _ here in
      let linked : is_link book k x b ≡ true = first-part (is_link book k x b) _ inner in
      let limited = rest-part (is_link book k x b) _ inner in
      let within : within_limits book.rules.counters after ≡ true = first-part (within_limits book.rules.counters after) _ limited in
      more_unbroken values leg (legs_from k (After b) met) linked within
      (legs_unbroken k (After b) after met differ (rest-part (within_limits book.rules.counters after) _ limited) each)

is_among : (a : ℕ) (xs : List ℕ) → count_by (nat_eq a) xs ≡ 1 → contains xs a ≡ true
is_among a xs e = elim (cases_Bool (contains xs a)) [
  | inl t ↦ t
  | inr f ↦ absurd (omega (arith, count_none a xs f, e))
]

pub among_within : (m i : ℕ) (ks : List ℕ) → AllByRecursion (λ j. j < m) ks → contains ks i ≡ true → i < m
among_within m i [] all h = absurd (true≢false (sym h))
among_within m i (k ∷ ks) all h = by (nat_eq i k) refl h (among_within m i ks all.1)
  where
    by : (t : Bool) → nat_eq i k ≡ t → (t || contains ks i) ≡ true → (contains ks i ≡ true → i < m) → i < m
    by true e h rest = subst (λ n. n < m) (sym (eqb-true i k e)) all.0
    by false e h rest = rest h

-- a legal plan of which no name was dropped breaks no rule
pub legal_is_unbroken : LegalRouteDecides → (book : BookSeen) (raw : RawPlanSeen) → IsLegalPlan book (kept book raw)
    → unknown (names_met book raw) ≡ [] → twice (names_met book raw) ≡ [] → broken book raw ≡ []
legal_is_unbroken decides book raw legal none_unknown none_twice =
    let met = names_met book raw in
    let well = names_well_met book raw in
    let start = replicate (length book.rules.counters) (pos 0) in
    let legs = legs_unbroken book 0 Carry start met well.tails (ap (is_legal_from book 0 Carry (carry_of book 0)) well.led)
    (λ i among.
    let within : i < aircraft book = among_within (aircraft book) i (tails_met met) (tails_within book met well.of_book) among in
    ap (is_legal_route book i) (sym (kept_route book raw i within)) ∙ (decides book i _).1 (legal.routes i within)) in
    let covered : uncovered book met ≡ [] =
    none_in_range rule.Uncovered (λ b. not (contains (activities_met met) b)) 0 (activities book)
    (λ a least most. not_true (contains (activities_met met) a) (is_among a (activities_met met) (sym (kept_times book raw a) ∙ legal.partition a (omega (arith, most))))) in
    rw (none_unknown, none_twice, covered, legs.allowed, legs.open_hours, legs.links, legs.limits) refl
