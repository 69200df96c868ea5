-- Each rule reads an activity's record alone: what it says of two activities it says in the book that has just these
-- two.
--
-- So routes of the same activities in two books with the same aircraft and rules are legal in both or in neither, and
-- have the same counters and costs. By induction on both routes side by side, from two places that have the same
-- record.
use Rattle.std.specs.Prelude.{⊤, ◌↔◌, IsTrue}
use Rattle.std.proofs.Common.{◌≡◌, ℕ, ℤ, ◌+◌, ◌+ℤ◌, ◌≤ℤ◌, ◌<◌, arith, List, [], ◌∷◌, length, get_or, false, refl, ap, ap₂, sym, subst, ◌∙◌}
use Rattle.std.specs.List.{list_all}
use Rattle.tail_book.specs.Seen.{ActivitySeen, TailSeen, RulesSeen, BookSeen}
use Rattle.tail_book.specs.declared.place.Place.{Place}
use Rattle.tail_book.specs.declared.place.Place.TheVariants.{Carry, After}
use Rattle.tail_book.specs.Numbers.{contains, is_none_or}
use Rattle.tail_book.specs.Lookup.{activities, activity_of, no_activity, carry_of, kind_of, tags_had, avoided, from_port, start_of}
use Rattle.tail_book.specs.Curfew.{covers_type, is_curfewed}
use Rattle.tail_book.specs.Allowed.{IsAllowed}
use Rattle.tail_book.specs.Link.{port, free_from, turn_time, IsLink}
use Rattle.tail_book.specs.Counters.{step, WithinLimits}
use Rattle.tail_book.specs.Route.{IsLegalFrom, IsLegalRoute}
use Rattle.tail_book.specs.inside.Route.{counters_from, counters_after}
use Rattle.tail_book.specs.Cost.{activity_cost, connection_cost, cost_from, route_cost}
use Rattle.tail_book.specs.inside.Renumbered.{HaveSameFleet, IsSameActivity, AreSameActivities}

same_again : (book other : BookSeen) (a b : ℕ) → IsSameActivity book other a b → IsSameActivity other book b a
same_again book other a b same = record { of_book = same.of_other; of_other = same.of_book; alike = sym same.alike }

pub all_same_again : (book other : BookSeen) (route others : List ℕ) → AreSameActivities book other route others → AreSameActivities other book others route
all_same_again book other [] [] same = tt
all_same_again book other [] (b ∷ others) same = absurd same
all_same_again book other (a ∷ route) [] same = absurd same
all_same_again book other (a ∷ route) (b ∷ others) same = (same_again book other a b same.0, all_same_again book other route others same.1)

module _ (first second : List ActivitySeen) (tails : List TailSeen) (rules : RulesSeen) (k : ℕ) where
  abbrev with : List ActivitySeen → BookSeen
  with activities = record { activities = activities; tails = tails; rules = rules }

  -- the book of two activities, the one before and the next
  abbrev pair : ActivitySeen → ActivitySeen → BookSeen
  pair r s = with (r ∷ s ∷ [])

  IsSamePlace : Place → Place → Type 0
  IsSamePlace Carry Carry = ⊤
  IsSamePlace Carry (After y) = ⊥
  IsSamePlace (After x) Carry = ⊥
  IsSamePlace (After x) (After y) = IsSameActivity (with first) (with second) x y

  allowed_alike : (a b : ℕ) → IsSameActivity (with first) (with second) a b → IsAllowed (with first) k a → IsAllowed (with second) k b
  allowed_alike a b same h = record {
    aircraft = h.aircraft;
    activity = same.of_other;
    type = subst (λ (r : ActivitySeen). IsTrue (covers_type r.types (kind_of (with []) k))) same.alike h.type;
    tags = subst (λ (r : ActivitySeen). IsTrue (list_all (contains (tags_had (with []) k)) r.tags)) same.alike h.tags;
    leaves = subst (λ (r : ActivitySeen). contains (avoided (with []) k) r.from ≡ false) same.alike h.leaves;
    arrives = subst (λ (r : ActivitySeen). contains (avoided (with []) k) r.to ≡ false) same.alike h.arrives;
    assigned = subst (λ (r : ActivitySeen). IsTrue (is_none_or r.tail k)) same.alike h.assigned;
    open_hours = subst (λ (r : ActivitySeen). is_curfewed (pair r r) k 0 ≡ false) same.alike h.open_hours;
  }

  link_alike : (x y : Place) (a b : ℕ) → IsSamePlace x y → IsSameActivity (with first) (with second) a b → IsLink (with first) k x a → IsLink (with second) k y b
  unfolding IsSamePlace
  link_alike Carry Carry a b place same h = record {
    place = subst (λ (s : ActivitySeen). port (pair s s) k Carry ≡ from_port (pair s s) 1) same.alike h.place;
    time = subst (λ (s : ActivitySeen). (free_from (pair s s) k Carry +ℤ turn_time (pair s s) k Carry 1) ≤ℤ start_of (pair s s) 1) same.alike h.time;
    before = tt;
    after = allowed_alike a b same h.after;
  }
  link_alike Carry (After y) a b place same h = absurd place
  link_alike (After x) Carry a b place same h = absurd place
  link_alike (After x) (After y) a b place same h = record {
    place = subst (λ (s : ActivitySeen). port (pair (activity_of (with second) y) s) k (After 0) ≡ from_port (pair s s) 1) same.alike
        (subst (λ (r : ActivitySeen). port (pair r r) k (After 0) ≡ from_port (with first) a) place.alike h.place);
    time = subst (λ (s : ActivitySeen). (free_from (pair (activity_of (with second) y) s) k (After 0) +ℤ turn_time (pair (activity_of (with second) y) s) k (After 0) 1) ≤ℤ start_of (pair s s) 1) same.alike
        (subst (λ (r : ActivitySeen). (free_from (pair r (activity_of (with first) a)) k (After 0) +ℤ turn_time (pair r (activity_of (with first) a)) k (After 0) 1) ≤ℤ start_of (with first) a) place.alike h.time);
    before = allowed_alike x y place h.before;
    after = allowed_alike a b same h.after;
  }

  step_alike : (x y : Place) (a b : ℕ) (values : List ℤ) → IsSamePlace x y → IsSameActivity (with first) (with second) a b
      → step (with first) k x a values ≡ step (with second) k y b values
  unfolding IsSamePlace
  step_alike Carry Carry a b values place same = ap (λ (s : ActivitySeen). step (pair s s) k Carry 1 values) same.alike
  step_alike Carry (After y) a b values place same = absurd place
  step_alike (After x) Carry a b values place same = absurd place
  step_alike (After x) (After y) a b values place same = ap₂ (λ (r s : ActivitySeen). step (pair r s) k (After 0) 1 values) place.alike same.alike

  connection_alike : (x y : Place) (a b : ℕ) → IsSamePlace x y → IsSameActivity (with first) (with second) a b
      → connection_cost (with first) k x a ≡ connection_cost (with second) k y b
  unfolding IsSamePlace
  connection_alike Carry Carry a b place same = refl
  connection_alike Carry (After y) a b place same = absurd place
  connection_alike (After x) Carry a b place same = absurd place
  connection_alike (After x) (After y) a b place same = ap₂ (λ (r s : ActivitySeen). connection_cost (pair r s) k (After 0) 1) place.alike same.alike

  activity_alike : (a b : ℕ) → IsSameActivity (with first) (with second) a b → activity_cost (with first) k a ≡ activity_cost (with second) k b
  activity_alike a b same = ap (λ (s : ActivitySeen). activity_cost (pair s s) k 0) same.alike

  after_alike : (a b : ℕ) → IsSameActivity (with first) (with second) a b → IsSamePlace (After a) (After b)
  unfolding IsSamePlace
  after_alike a b same = same

  counters_alike : (x y : Place) (values : List ℤ) (route others : List ℕ) → IsSamePlace x y → AreSameActivities (with first) (with second) route others
      → counters_from (with first) k x values route ≡ counters_from (with second) k y values others
  counters_alike x y values [] [] place same = refl
  counters_alike x y values [] (b ∷ others) place same = absurd same
  counters_alike x y values (a ∷ route) [] place same = absurd same
  counters_alike x y values (a ∷ route) (b ∷ others) place same =
      counters_alike (After a) (After b) (step (with first) k x a values) route others (after_alike a b same.0) same.1
      ∙ ap (λ (vs : List ℤ). counters_from (with second) k (After b) vs others) (step_alike x y a b values place same.0)

  summed : (p q r s t u : ℕ) → p ≡ s → q ≡ t → r ≡ u → p + q + r ≡ s + t + u
  summed p q r s t u e f g = omega (arith, e, f, g)

  cost_alike : (x y : Place) (route others : List ℕ) → IsSamePlace x y → AreSameActivities (with first) (with second) route others
      → cost_from (with first) k x route ≡ cost_from (with second) k y others
  cost_alike x y [] [] place same = refl
  cost_alike x y [] (b ∷ others) place same = absurd same
  cost_alike x y (a ∷ route) [] place same = absurd same
  cost_alike x y (a ∷ route) (b ∷ others) place same =
      summed _ _ _ _ _ _ (activity_alike a b same.0) (connection_alike x y a b place same.0)
      (cost_alike (After a) (After b) route others (after_alike a b same.0) same.1)

  legal_alike : (x y : Place) (values others_values : List ℤ) (route others : List ℕ) → values ≡ others_values → IsSamePlace x y
      → AreSameActivities (with first) (with second) route others
      → IsLegalFrom (with first) k x values route → IsLegalFrom (with second) k y others_values others
  legal_alike x y values others_values [] [] e place same legal = tt
  legal_alike x y values others_values [] (b ∷ others) e place same legal = absurd same
  legal_alike x y values others_values (a ∷ route) [] e place same legal = absurd same
  legal_alike x y values others_values (a ∷ route) (b ∷ others) e place same legal =
      let after : step (with first) k x a values ≡ step (with second) k y b others_values =
      step_alike x y a b values place same.0 ∙ ap (λ (vs : List ℤ). step (with second) k y b vs) e in (
        same.0.of_other,
        link_alike x y a b place same.0 legal.1,
        subst (WithinLimits rules.counters) after legal.2,
        legal_alike (After a) (After b) (step (with first) k x a values) (step (with second) k y b others_values) route others after
            (after_alike a b same.0) same.1 legal.3,
      )

  carried : IsSamePlace Carry Carry
  unfolding IsSamePlace
  carried = tt

  pub routes_legal : (route others : List ℕ) → AreSameActivities (with first) (with second) route others
      → IsLegalRoute (with first) k route → IsLegalRoute (with second) k others
  routes_legal route others same legal = legal_alike Carry Carry (carry_of (with first) k) (carry_of (with second) k) route others refl carried same legal

  pub routes_count : (route others : List ℕ) → AreSameActivities (with first) (with second) route others
      → counters_after (with first) k route ≡ counters_after (with second) k others
  routes_count route others same = counters_alike Carry Carry (carry_of (with first) k) route others carried same

  pub routes_cost : (route others : List ℕ) → AreSameActivities (with first) (with second) route others
      → route_cost (with first) k route ≡ route_cost (with second) k others
  routes_cost route others same = cost_alike Carry Carry route others carried same

abbrev book_with : List ActivitySeen → List TailSeen → RulesSeen → BookSeen
book_with activities tails rules = record { activities = activities; tails = tails; rules = rules }

-- what holds of the other book with the one's aircraft and rules holds of it
moved : (P : BookSeen → Type 0) (book other : BookSeen) → HaveSameFleet book other → P (book_with other.activities book.tails book.rules) → P other
moved P book other fleet h = subst P (ap₂ (λ (t : List TailSeen) (r : RulesSeen). book_with other.activities t r) fleet.tails fleet.rules) h

-- no other part of a book is read of it
refitted : (book other again : BookSeen) → other.activities ≡ again.activities → (route others : List ℕ) → AreSameActivities book other route others
    → AreSameActivities book again route others
refitted book other again e [] [] same = tt
refitted book other again e [] (b ∷ others) same = absurd same
refitted book other again e (a ∷ route) [] same = absurd same
refitted book other again e (a ∷ route) (b ∷ others) same = (
  record {
    of_book = same.0.of_book;
    of_other = subst (λ (them : List ActivitySeen). b < length them) e same.0.of_other;
    alike = subst (λ (them : List ActivitySeen). activity_of book a ≡ get_or them b no_activity) e same.0.alike;
  },
  refitted book other again e route others same.1,
)

module _ (book other : BookSeen) (fleet : HaveSameFleet book other) (k : ℕ) (route others : List ℕ) where
  refit : AreSameActivities book other route others → AreSameActivities book (book_with other.activities book.tails book.rules) route others
  refit same = refitted book other (book_with other.activities book.tails book.rules) refl route others same

  forth : AreSameActivities book other route others → IsLegalRoute book k route → IsLegalRoute other k others
  forth same legal =
      moved (λ (o : BookSeen). IsLegalRoute o k others) book other fleet
      (routes_legal book.activities other.activities book.tails book.rules k route others (refit same) legal)

  pub count_alike : AreSameActivities book other route others → counters_after book k route ≡ counters_after other k others
  count_alike same =
      moved (λ (o : BookSeen). counters_after book k route ≡ counters_after o k others) book other fleet
      (routes_count book.activities other.activities book.tails book.rules k route others (refit same))

  pub route_cost_alike : AreSameActivities book other route others → route_cost book k route ≡ route_cost other k others
  route_cost_alike same =
      moved (λ (o : BookSeen). route_cost book k route ≡ route_cost o k others) book other fleet
      (routes_cost book.activities other.activities book.tails book.rules k route others (refit same))

pub legal_alike_both : (book other : BookSeen) → HaveSameFleet book other → (k : ℕ) (route others : List ℕ) → AreSameActivities book other route others
    → IsLegalRoute book k route ↔ IsLegalRoute other k others
legal_alike_both book other fleet k route others same = (
  forth book other fleet k route others same,
  forth other book (record { tails = sym fleet.tails; rules = sym fleet.rules }) k others route (all_same_again book other route others same),
)
