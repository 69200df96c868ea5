-- One activity more: whether an assignment stays legal, what it costs, and what its completions owe.
--
-- The activity has the largest number, so it goes to the end of one route and leaves the others. That route is legal
-- exactly where it was and the activity goes on from its end, and it costs the activity and the connection more. What
-- completes an assignment keeps these routes as fronts, so it is legal only where they are.
use Rattle.std.proofs.Common.{◌≡◌, ◌≢◌, ◌∙◌, ℕ, zero, suc, ℤ, ◌+◌, ◌<◌, ◌≤◌, inl, inr, Bool, true, false, arith, List, [], ◌∷◌, ◌++◌, length, refl, sym, ap, if◌then◌else◌, subst, add_assoc}
use Rattle.std.specs.Prelude.{nat_eq}
use Rattle.std.proofs.lemmas.Bool.{eqb-true, eq-eqb, ne_eqb, both_ways, cases_Bool}
use Rattle.std.proofs.lemmas.List.{append-nil}
use Rattle.std.proofs.lemmas.List.Elements.{All-push}
use Rattle.tail_book.specs.Seen.{BookSeen}
use Rattle.tail_book.specs.declared.place.Place.{Place}
use Rattle.tail_book.specs.declared.place.Place.TheVariants.{Carry, After}
use Rattle.tail_book.specs.Lookup.{activities, aircraft, carry_of}
use Rattle.tail_book.specs.Link.{IsLink}
use Rattle.tail_book.specs.Counters.{step, WithinLimits}
use Rattle.tail_book.specs.Route.{IsLegalFrom, IsLegalRoute}
use Rattle.tail_book.specs.Fliers.{route_by}
use Rattle.tail_book.specs.inside.Route.{counters_from, place_after}
use Rattle.tail_book.specs.Cost.{activity_cost, connection_cost, cost_from, route_cost, cost_of_routes}
use Rattle.plan_enumeration.specs.inside.Assignment.{IsLegalSoFar, IsLegalAssignment, assignment_cost}
use Rattle.plan_enumeration.specs.inside.Enumeration.{GoesOn, next_cost}
use Rattle.tail_book.specs.inside.FlownInTurn.{route_flown_from, routes_from, RoutesAreFlownInTurn}
use Rattle.plan_enumeration.proofs.Assigned.{route_flown_from-push}

-- a route and what follows it
pub route_flown_from-append : (k i : ℕ) (xs ys : List ℕ) → route_flown_from k i (xs ++ ys) ≡ route_flown_from k i xs ++ route_flown_from k (i + length xs) ys
route_flown_from-append k i [] ys = ap (λ (n : ℕ). route_flown_from k n ys) (omega arith)
route_flown_from-append k i (j ∷ xs) ys = either (nat_eq j k) (route_flown_from-append k (i + 1) xs ys ∙ ap (λ (n : ℕ). route_flown_from k (i + 1) xs ++ route_flown_from k n ys) (omega arith))
  where
    either : (b : Bool) → route_flown_from k (i + 1) (xs ++ ys) ≡ route_flown_from k (i + 1) xs ++ route_flown_from k (i + suc (length xs)) ys
        → (if b then i ∷ route_flown_from k (i + 1) (xs ++ ys) else route_flown_from k (i + 1) (xs ++ ys))
        ≡ (if b then i ∷ route_flown_from k (i + 1) xs else route_flown_from k (i + 1) xs) ++ route_flown_from k (i + suc (length xs)) ys
    either true e = ap (λ (t : List ℕ). i ∷ t) e
    either false e = e

module _ (book : BookSeen) (k : ℕ) where
  -- what a legal route says of its front and of the activity behind it
  pub legal_front : (x : Place) (values : List ℤ) (front : List ℕ) (b : ℕ) (rest : List ℕ) → IsLegalFrom book k x values (front ++ b ∷ rest)
      → IsLegalFrom book k x values front × (b < activities book) × IsLink book k (place_after x front) b
      × WithinLimits book.rules.counters (step book k (place_after x front) b (counters_from book k x values front))
  legal_front x values [] b rest h = (tt, h.0, h.1, h.2)
  legal_front x values (c ∷ front) b rest h =
      let more = legal_front (After c) (step book k x c values) front b rest h.3 in
      ((h.0, h.1, h.2, more.0), more.1, more.2, more.3)

  pub legal_push : (x : Place) (values : List ℤ) (front : List ℕ) (b : ℕ) → IsLegalFrom book k x values front → b < activities book → IsLink book k (place_after x front) b
      → WithinLimits book.rules.counters (step book k (place_after x front) b (counters_from book k x values front)) → IsLegalFrom book k x values (front ++ b ∷ [])
  legal_push x values [] b h lt link within = (lt, link, within, tt)
  legal_push x values (c ∷ front) b h lt link within = (h.0, h.1, h.2, legal_push (After c) (step book k x c values) front b h.3 lt link within)

  pub counters_push : (x : Place) (values : List ℤ) (front : List ℕ) (b : ℕ) → counters_from book k x values (front ++ b ∷ []) ≡ step book k (place_after x front) b (counters_from book k x values front)
  counters_push x values [] b = refl
  counters_push x values (c ∷ front) b = counters_push (After c) (step book k x c values) front b

  pub place_push : (x : Place) (front : List ℕ) (b : ℕ) → place_after x (front ++ b ∷ []) ≡ After b
  place_push x [] b = refl
  place_push x (c ∷ front) b = place_push (After c) front b

  pub cost_push : (x : Place) (front : List ℕ) (b : ℕ) → cost_from book k x (front ++ b ∷ []) ≡ cost_from book k x front + (activity_cost book k b + connection_cost book k (place_after x front) b)
  cost_push x [] b = omega arith
  cost_push x (c ∷ front) b = let e = cost_push (After c) front b in
      moved (activity_cost book k c + connection_cost book k x c) _ _ _ e
    where
      moved : (a r s t : ℕ) → r ≡ s + t → a + r ≡ a + s + t
      moved a r s t e = omega arith

module _ (in_turn : RoutesAreFlownInTurn) where
  -- the routes of an assignment with one activity more
  pub route_flown-same : (k : ℕ) (who : List ℕ) → route_by (who ++ k ∷ []) k ≡ route_by who k ++ length who ∷ []
  route_flown-same k who =
      in_turn k (who ++ k ∷ []) ∙ route_flown_from-push k 0 k who
      ∙ rw (eq-eqb k k refl) (ap (λ (n : ℕ). route_flown_from k 0 who ++ n ∷ []) (omega arith))
      ∙ ap (λ (r : List ℕ). r ++ length who ∷ []) (sym (in_turn k who))

  pub route_flown-other : (k j : ℕ) (who : List ℕ) → k ≢ j → route_by (who ++ k ∷ []) j ≡ route_by who j
  route_flown-other k j who ne =
      in_turn j (who ++ k ∷ []) ∙ route_flown_from-push j 0 k who ∙ rw (ne_eqb k j ne) (append-nil (route_flown_from j 0 who)) ∙ sym (in_turn j who)

  -- it stays legal where the activity goes on
  pub legal_more : (book : BookSeen) (who : List ℕ) (k : ℕ) → k < aircraft book → length who < activities book → IsLegalSoFar book who → GoesOn book who k → IsLegalSoFar book (who ++ k ∷ [])
  legal_more book who k lt room h goes = record {
    fliers = All-push (λ (j : ℕ). j < aircraft book) who k h.fliers lt;
    routes = λ j below. elim (cases_Bool (nat_eq k j)) [
      | inl same ↦
          let is : k ≡ j = eqb-true k j same in
          subst (λ (i : ℕ). IsLegalRoute book i (route_by (who ++ k ∷ []) i)) is
          (rw (route_flown-same k who) (legal_push book k Carry (carry_of book k) (route_by who k) (length who) (h.routes k lt) room goes.link goes.limits))
      | inr other ↦
          let ne : k ≢ j = λ e. both_ways (nat_eq k j) other (eq-eqb k j e) in
          rw (route_flown-other k j who ne) (h.routes j below)
    ];
  }

  -- what completes an assignment legally goes on from it
  pub completed : (book : BookSeen) (who : List ℕ) (k : ℕ) (rest : List ℕ) → k < aircraft book → IsLegalAssignment book (who ++ k ∷ rest) → GoesOn book who k
  completed book who k rest lt h =
      let start : 0 + length who ≡ length who = omega arith in
      let split : route_by (who ++ k ∷ rest) k ≡ route_by who k ++ length who ∷ route_flown_from k (length who + 1) rest =
      in_turn k (who ++ k ∷ rest) ∙ route_flown_from-append k 0 who (k ∷ rest) ∙ ap (λ (n : ℕ). route_flown_from k 0 who ++ route_flown_from k n (k ∷ rest)) start ∙ rw (eq-eqb k k refl) refl
      ∙ ap (λ (r : List ℕ). r ++ length who ∷ route_flown_from k (length who + 1) rest) (sym (in_turn k who)) in
      let parts = legal_front book k Carry (carry_of book k) (route_by who k) (length who) (route_flown_from k (length who + 1) rest)
      (subst (λ (route : List ℕ). IsLegalRoute book k route) split (h.legal.routes k lt)) in
      record { link = parts.2; limits = parts.3 }

  -- what the routes of a range of aircraft cost more
  cost_outside : (book : BookSeen) (i count : ℕ) (who : List ℕ) (k : ℕ) → k < i → cost_of_routes book i (routes_from i count (who ++ k ∷ [])) ≡ cost_of_routes book i (routes_from i count who)
  cost_outside book i zero who k out = refl
  cost_outside book i (suc count) who k out =
      let here : route_cost book i (route_by (who ++ k ∷ []) i) ≡ route_cost book i (route_by who i) = ap (route_cost book i) (route_flown-other k i who (λ e. absurd (omega (arith, e, out)))) in
      let rest = cost_outside book (i + 1) count who k (omega arith) in
      rw (here, rest) refl

  cost_inside : (book : BookSeen) (i count : ℕ) (who : List ℕ) (k : ℕ) → i ≤ k → k < i + count
      → cost_of_routes book i (routes_from i count (who ++ k ∷ [])) ≡ cost_of_routes book i (routes_from i count who) + next_cost book who k
  cost_inside book i zero who k low high = absurd (omega arith)
  cost_inside book i (suc count) who k low high = elim (cases_Bool (nat_eq k i)) [
    | inl same ↦
        let is : k ≡ i = eqb-true k i same in
        let more : route_cost book k (route_by (who ++ k ∷ []) k) ≡ route_cost book k (route_by who k) + next_cost book who k = ap (route_cost book k) (route_flown-same k who) ∙ cost_push book k Carry (route_by who k) (length who) in
        let here : route_cost book i (route_by (who ++ k ∷ []) i) ≡ route_cost book i (route_by who i) + next_cost book who k =
        subst (λ (n : ℕ). route_cost book n (route_by (who ++ k ∷ []) n) ≡ route_cost book n (route_by who n) + next_cost book who k) is more in
        let rest = cost_outside book (i + 1) count who k (omega (arith, is)) in
        rw (here, rest) (turned (route_cost book i (route_by who i)) (next_cost book who k) _)
    | inr other ↦
        let ne : k ≢ i = λ e. both_ways (nat_eq k i) other (eq-eqb k i e) in
        let here : route_cost book i (route_by (who ++ k ∷ []) i) ≡ route_cost book i (route_by who i) = ap (route_cost book i) (route_flown-other k i who ne) in
        let rest = cost_inside book (i + 1) count who k (omega (arith, low, ne)) (omega (arith, high)) in
        rw (here, rest) (sym (add_assoc (route_cost book i (route_by who i)) _ _))
  ]
    where
      turned : (r n s : ℕ) → r + n + s ≡ r + s + n
      turned r n s = omega arith

  -- what the assignment costs more
  pub cost_more : (book : BookSeen) (who : List ℕ) (k : ℕ) → k < aircraft book → assignment_cost book (who ++ k ∷ []) ≡ assignment_cost book who + next_cost book who k
  cost_more book who k lt = cost_inside book 0 (aircraft book) who k (omega arith) (omega (arith, lt))

-- an assignment of nothing costs nothing
costs_nothing_from : (book : BookSeen) (i count : ℕ) → cost_of_routes book i (routes_from i count []) ≡ 0
costs_nothing_from book i zero = refl
costs_nothing_from book i (suc count) = let e = costs_nothing_from book (i + 1) count in omega (arith, e)

pub costs_nothing : (book : BookSeen) → assignment_cost book [] ≡ 0
costs_nothing book = costs_nothing_from book 0 (aircraft book)
