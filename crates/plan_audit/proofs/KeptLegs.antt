-- Where the legs of a kept plan stand in its routes: the legs of one aircraft are those of its route, in its order,
-- each with the place at the end of the front before it. Both ways go by induction on the names: an activity is the
-- next of the route that is being read, and a front becomes one longer. The hard case is the name of an aircraft, where
-- the route that is read changes: an aircraft is met once, so no route further on is its.
use Rattle.std.proofs.Common.{◌≡◌, ◌∙◌, sym, refl, ap, subst, true≢false, ℕ, inl, inr, ◌⊎◌, Bool, true, false, if◌then◌else◌, nat_eq, List, [], ◌∷◌, ◌++◌, Contains}
use Rattle.std.specs.List.{IsDistinct}
use Rattle.std.proofs.lemmas.Bool.{eq-eqb, eqb-true}
use Rattle.std.proofs.lemmas.Map.Keys.{IsDistinct-tail}
use Rattle.tail_book.specs.declared.place.Place.{Place}
use Rattle.tail_book.specs.declared.place.Place.TheVariants.{Carry, After}
use Rattle.tail_book.specs.inside.Route.{place_after}
use Rattle.plan_audit.specs.declared.leg.Leg.{Leg}
use Rattle.plan_audit.specs.declared.met.Met.{Met}
use Rattle.plan_audit.specs.declared.met.Met.TheVariants.{Unknown, Twice, Tail, Activity}
use Rattle.plan_audit.specs.Met.{tails_met}
use Rattle.plan_audit.specs.Kept.{next_route, route_met, legs_from}
use Rattle.plan_audit.proofs.Along.{no_route, differs}
use Rattle.plan_audit.proofs.ToldLemmas.{empty_has, cons_cases, cons_here, cons_later}

-- in a route from a place on the activity comes behind a front that ends at the other place
abbrev pub ComesAt : Place → List ℕ → Place → ℕ → Type 0
ComesAt x route from b = (front : List ℕ) × (rest : List ℕ) × (route ≡ front ++ b ∷ rest) × (from ≡ place_after x front)

pub nothing_comes : (front : List ℕ) (b : ℕ) (rest : List ℕ) → [] ≡ front ++ b ∷ rest → ⊥
nothing_comes [] b rest e = cc
nothing_comes (c ∷ front) b rest e = cc

-- an aircraft that comes once has no route behind its line
pub route_behind : (j : ℕ) (met : List Met) → IsDistinct nat_eq (j ∷ tails_met met) → route_met met j ≡ []
route_behind j met differ = no_route met j (differs j (tails_met met) differ)

legs_come : (met : List Met) (k : ℕ) (x : Place) → IsDistinct nat_eq (tails_met met) → (leg : Leg) → Contains (legs_from k x met) leg
    → ((leg.tail ≡ k) × ComesAt x (next_route met) leg.from leg.activity) ⊎ ComesAt Carry (route_met met leg.tail) leg.from leg.activity
legs_come [] k x differ leg h = absurd (empty_has leg h)
legs_come (Unknown name ∷ met) k x differ leg h = legs_come met k x differ leg h
legs_come (Twice name ∷ met) k x differ leg h = legs_come met k x differ leg h
legs_come (Tail j ∷ met) k x differ leg h = inr (by (nat_eq leg.tail j) refl (legs_come met j Carry (IsDistinct-tail nat_eq j (tails_met met) differ) leg h))
  where
    by : (t : Bool) → nat_eq leg.tail j ≡ t → ((leg.tail ≡ j) × ComesAt Carry (next_route met) leg.from leg.activity) ⊎ ComesAt Carry (route_met met leg.tail) leg.from leg.activity
        → ComesAt Carry (if t then next_route met else route_met met leg.tail) leg.from leg.activity
    by true e (inl here) = here.1
    by true e (inr there) =
        let none : route_met met leg.tail ≡ [] = ap (route_met met) (eqb-true leg.tail j e) ∙ route_behind j met differ in
        absurd (nothing_comes there.0 leg.activity there.1 (sym none ∙ there.2))
    by false e (inl here) = absurd (true≢false (sym (eq-eqb leg.tail j here.0) ∙ e))
    by false e (inr there) = there
legs_come (Activity b ∷ met) k x differ leg h = elim (cons_cases (record { tail = k; from = x; activity = b }) (legs_from k (After b) met) leg h) [
  | inl same ↦ inl (subst (λ (l : Leg). (l.tail ≡ k) × ComesAt x (b ∷ next_route met) l.from l.activity) same (refl, ([], next_route met, refl, refl)))
  | inr later ↦ elim (legs_come met k (After b) differ leg later) [
    | inl next ↦ (let at = next.1 in inl (next.0, (b ∷ at.0, at.1, ap (λ route. b ∷ route) at.2, at.3)))
    | inr there ↦ inr there
  ]
]

pub first_same : (a b : ℕ) (xs ys : List ℕ) → a ∷ xs ≡ b ∷ ys → a ≡ b
first_same a b xs ys e = cc

pub rest_same : (a b : ℕ) (xs ys : List ℕ) → a ∷ xs ≡ b ∷ ys → xs ≡ ys
rest_same a b xs ys e = cc

pub same_leg : (leg : Leg) (k : ℕ) (x : Place) (b : ℕ) → leg.tail ≡ k → leg.from ≡ x → leg.activity ≡ b → leg ≡ record { tail = k; from = x; activity = b }
same_leg leg k x b tail from activity =
    subst (λ n. leg ≡ record { tail = n; from = x; activity = b }) tail
    (subst (λ y. leg ≡ record { tail = leg.tail; from = y; activity = b }) from
    (subst (λ a. leg ≡ record { tail = leg.tail; from = leg.from; activity = a }) activity refl))

next_leg : (k : ℕ) (x : Place) (b : ℕ) (route : List ℕ) (legs : List Leg) (leg : Leg) → leg.tail ≡ k → (leg.tail ≡ k → ComesAt (After b) route leg.from leg.activity → Contains legs leg)
    → (front rest : List ℕ) → b ∷ route ≡ front ++ leg.activity ∷ rest → leg.from ≡ place_after x front → Contains (record { tail = k; from = x; activity = b } ∷ legs) leg
next_leg k x b route legs leg e go [] rest splits from =
    cons_here (record { tail = k; from = x; activity = b }) legs leg (sym (same_leg leg k x b e from (sym (first_same b leg.activity route rest splits))))
next_leg k x b route legs leg e go (c ∷ front) rest splits from =
    let place : leg.from ≡ place_after (After b) front = from ∙ ap (λ n. place_after (After n) front) (sym (first_same b c route (front ++ leg.activity ∷ rest) splits)) in
    cons_later (record { tail = k; from = x; activity = b }) legs leg (go e (front, rest, rest_same b c route (front ++ leg.activity ∷ rest) splits, place))

coming_legs : (met : List Met) (k : ℕ) (x : Place) (leg : Leg)
    → (leg.tail ≡ k → ComesAt x (next_route met) leg.from leg.activity → Contains (legs_from k x met) leg)
    × (ComesAt Carry (route_met met leg.tail) leg.from leg.activity → Contains (legs_from k x met) leg)
coming_legs [] k x leg = ((λ e at. absurd (nothing_comes at.0 leg.activity at.1 at.2)), (λ at. absurd (nothing_comes at.0 leg.activity at.1 at.2)))
coming_legs (Unknown name ∷ met) k x leg = coming_legs met k x leg
coming_legs (Twice name ∷ met) k x leg = coming_legs met k x leg
coming_legs (Tail j ∷ met) k x leg =
    let rest = coming_legs met j Carry leg in
    ((λ e at. absurd (nothing_comes at.0 leg.activity at.1 at.2)), by (nat_eq leg.tail j) refl rest.0 rest.1)
  where
    by : (t : Bool) → nat_eq leg.tail j ≡ t → (leg.tail ≡ j → ComesAt Carry (next_route met) leg.from leg.activity → Contains (legs_from j Carry met) leg)
        → (ComesAt Carry (route_met met leg.tail) leg.from leg.activity → Contains (legs_from j Carry met) leg)
        → ComesAt Carry (if t then next_route met else route_met met leg.tail) leg.from leg.activity → Contains (legs_from j Carry met) leg
    by true e here there at = here (eqb-true leg.tail j e) at
    by false e here there at = there at
coming_legs (Activity b ∷ met) k x leg =
    let rest = coming_legs met k (After b) leg in (
      (λ e at. next_leg k x b (next_route met) (legs_from k (After b) met) leg e rest.0 at.0 at.1 at.2 at.3),
      (λ at. cons_later (record { tail = k; from = x; activity = b }) (legs_from k (After b) met) leg (rest.1 at)),
    )

pub legs_kept : (met : List Met) → IsDistinct nat_eq (tails_met met) → next_route met ≡ [] → (leg : Leg) → Contains (legs_from 0 Carry met) leg → ComesAt Carry (route_met met leg.tail) leg.from leg.activity
legs_kept met differ led leg h = elim (legs_come met 0 Carry differ leg h) [
  | inl at ↦ absurd (nothing_comes at.1.0 leg.activity at.1.1 (sym led ∙ at.1.2))
  | inr at ↦ at
]

pub kept_legs : (met : List Met) (leg : Leg) → ComesAt Carry (route_met met leg.tail) leg.from leg.activity → Contains (legs_from 0 Carry met) leg
kept_legs met leg at = (coming_legs met 0 Carry leg).1 at
