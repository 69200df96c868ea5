-- Floors never fall while marks grow. In order of the activities: what a place brings with more facts it brought without them,
-- from a floor that was no higher, and so no higher itself; and the floor was no higher than what any place brought.
use Rattle.std.specs.Prelude.{◌&&◌, if◌then◌else◌}
use Rattle.std.proofs.Common.{◌≡◌, ◌∙◌, ℕ, zero, suc, ℤ, ◌+◌, ◌<◌, Bool, true, false, arith, List, [], ◌∷◌, ◌++◌, refl, sym, subst, Option, None, Some}
use Rattle.std.specs.List.{list_all, range_with_len}
use Rattle.std.proofs.lemmas.Bool.{and_parts, and_from}
use Rattle.std.proofs.lemmas.Int.{ints, clamps}
use Rattle.std.proofs.lemmas.List.Folds.{list_all-append}
use Rattle.tail_book.specs.Seen.{BookSeen}
use Rattle.tail_book.specs.declared.place.Place.{Place}
use Rattle.tail_book.specs.declared.place.Place.TheVariants.{Carry, After}
use Rattle.tail_book.specs.Counters.{step}
use Rattle.tail_book.specs.Lookup.{activities, aircraft, carry_of}
use Rattle.tail_book.specs.CounterOrder.{EachAtMost}
use Rattle.tail_book.specs.inside.Order.{EachAtMostChains, StepsKeepOrder, LowerStaysWithin}
use Rattle.tail_book.specs.inside.Sound.{IsBook}
use Rattle.tail_book.specs.LegalTests.{is_allowed, is_link, within_limits}
use Rattle.tail_book.specs.inside.Tests.{LimitsDecide}
use Rattle.branch_marks.specs.declared.fact.Fact.{Fact}
use Rattle.branch_marks.specs.MarkTests.{is_alive, is_alive_at, is_usable, lets_fly, lets_go}
use Rattle.branch_marks.specs.inside.MarkTests.{UsableDecides}
use Rattle.branch_marks.specs.Floors.{lesser, lesser_floor, stepped_floor, floor_at, FloorsAreLow}
use Rattle.floor_rows.specs.inside.LeastOver.{floor_of, least_over, brought, brought_first, FloorsAreLeast}
use Rattle.propagator.specs.inside.Rising.{IsLowFor}

-- what is usable with more facts is so without them
front_holds : (p : Fact → Bool) (marks more : List Fact) → list_all p (marks ++ more) ≡ true → list_all p marks ≡ true
front_holds p marks more t = (and_parts (list_all p marks) (list_all p more) (sym (list_all-append p marks more) ∙ t)).0

module _ (book : BookSeen) (marks more : List Fact) (k : ℕ) where
  alive_before : (a : ℕ) → is_alive book (marks ++ more) k a ≡ true → is_alive book marks k a ≡ true
  unfolding is_alive
  alive_before a t =
      let (allowed, facts) = and_parts (is_allowed book k a) (list_all (lets_fly k a) (marks ++ more)) t in
      and_from (is_allowed book k a) (list_all (lets_fly k a) marks) allowed (front_holds (lets_fly k a) marks more facts)

  alive_at_before : (x : Place) → is_alive_at book (marks ++ more) k x ≡ true → is_alive_at book marks k x ≡ true
  alive_at_before Carry t = refl
  alive_at_before (After x) t = alive_before x t

  usable_before : (x : Place) (b : ℕ) → is_usable book (marks ++ more) k x b ≡ true → is_usable book marks k x b ≡ true
  unfolding is_usable
  usable_before x b t =
      let (link, rest) = and_parts (is_link book k x b) (is_alive_at book (marks ++ more) k x && (is_alive book (marks ++ more) k b && list_all (lets_go k x b) (marks ++ more))) t in
      let (at, both) = and_parts (is_alive_at book (marks ++ more) k x) (is_alive book (marks ++ more) k b && list_all (lets_go k x b) (marks ++ more)) rest in
      let (alive, go) = and_parts (is_alive book (marks ++ more) k b) (list_all (lets_go k x b) (marks ++ more)) both in
      and_from (is_link book k x b) (is_alive_at book marks k x && (is_alive book marks k b && list_all (lets_go k x b) marks)) link
      (and_from (is_alive_at book marks k x) (is_alive book marks k b && list_all (lets_go k x b) marks) (alive_at_before x at)
      (and_from (is_alive book marks k b) (list_all (lets_go k x b) marks) (alive_before b alive) (front_holds (lets_go k x b) marks more go)))

-- what is low for both is low for the lesser
low_for_lesser : (low us vs : List ℤ) → EachAtMost low us → EachAtMost low vs → EachAtMost low (lesser us vs)
low_for_lesser [] [] vs one other = tt
low_for_lesser [] (u ∷ us) vs one other = absurd one
low_for_lesser (l ∷ low) [] vs one other = absurd one
low_for_lesser (l ∷ low) (u ∷ us) [] one other = absurd other
low_for_lesser (l ∷ low) (u ∷ us) (v ∷ vs) one other =
    (let le = one.0 in let le' = other.0 in omega (arith, ints, clamps, le, le'), low_for_lesser low us vs one.1 other.1)

some_same : (low values : List ℤ) → Some low ≡ Some values → low ≡ values
some_same low values e = cc

module _ (floor : Option (List ℤ)) where
  low_for_both : (f g : Option (List ℤ)) → ((v : List ℤ) → f ≡ Some v → IsLowFor floor v) → ((v : List ℤ) → g ≡ Some v → IsLowFor floor v)
      → (v : List ℤ) → lesser_floor f g ≡ Some v → IsLowFor floor v
  low_for_both None g one other v e = other v e
  low_for_both (Some us) None one other v e = one v e
  low_for_both (Some us) (Some vs) one other v e =
      let (low, is, under) = one us refl in
      let (low', is', under') = other vs refl in
      let same : low' ≡ low = some_same low' low (sym is' ∙ is) in (
        low,
        is,
        subst (λ (w : List ℤ). EachAtMost low w) (some_same (lesser us vs) v e)
            (low_for_lesser low us vs under (subst (λ (l : List ℤ). EachAtMost l vs) same under')),
      )

  low_for_all : (h : ℕ → Option (List ℤ)) (x n : ℕ) → ((y : ℕ) → y < x + n → (v : List ℤ) → h y ≡ Some v → IsLowFor floor v)
      → (v : List ℤ) → least_over h (range_with_len x n) ≡ Some v → IsLowFor floor v
  low_for_all h x zero each v e = absurd (cc)
  low_for_all h x (suc n) each v e =
      low_for_both (h x) (least_over h (range_with_len (x + 1) n)) (each x (omega arith))
      (low_for_all h (x + 1) n (λ y lt. each y (omega (arith, lt)))) v e

-- a step that was chosen
chosen : (t : Bool) (u v : List ℤ) → (if t then Some u else None) ≡ Some v → (t ≡ true) × (u ≡ v)
chosen true u v e = (refl, some_same u v e)
chosen false u v e = absurd (cc)

module _ (low : FloorsAreLow) (least : FloorsAreLeast) (chains : EachAtMostChains) (order : StepsKeepOrder) (within : LowerStaysWithin) (usable : UsableDecides) (limits : LimitsDecide)
    (book : BookSeen) (sound : IsBook book) (marks more : List Fact) (k : ℕ) (hk : k < aircraft book) where
  -- what a place brings with more facts is no lower than the floor without them
  brings_no_lower : (x : Place) (b : ℕ) → b < activities book → ((v : List ℤ) → floor_at book (marks ++ more) k x ≡ Some v → IsLowFor (floor_at book marks k x) v)
      → (w v : List ℤ) → floor_at book (marks ++ more) k x ≡ Some w → stepped_floor book (marks ++ more) k x b (Some w) ≡ Some v → IsLowFor (floor_of book marks k b) v
  brings_no_lower x b lt before w v known e =
      let (l, is, under) = before w known in
      let (both, made) = chosen (is_usable book (marks ++ more) k x b && within_limits book.rules.counters (step book k x b w)) (step book k x b w) v e in
      let (link, stays) = and_parts (is_usable book (marks ++ more) k x b) (within_limits book.rules.counters (step book k x b w)) both in
      let ordered = order book k x b l w under in
      let (lowest, there, below) = low book sound marks k hk x b l lt (record {
        usable = (usable book marks k x b).0 (usable_before book marks more k x b link);
        floor = is;
        within = within book.rules.counters (step book k x b l) (step book k x b w) ordered ((limits book.rules.counters (step book k x b w)).0 stays);
      }) in
      (lowest, there, subst (λ (u : List ℤ). EachAtMost lowest u) made (chains lowest (step book k x b l) (step book k x b w) below ordered))

  from_place : (x : Place) (b : ℕ) → b < activities book → ((v : List ℤ) → floor_at book (marks ++ more) k x ≡ Some v → IsLowFor (floor_at book marks k x) v)
      → (f : Option (List ℤ)) → floor_at book (marks ++ more) k x ≡ f → (v : List ℤ) → stepped_floor book (marks ++ more) k x b f ≡ Some v → IsLowFor (floor_of book marks k b) v
  from_place x b lt before None known v e = absurd (cc)
  from_place x b lt before (Some w) known v e = brings_no_lower x b lt before w v known e

  rise_below : (itself : (v : List ℤ) → EachAtMost v v) (n b : ℕ) → b < n → b < activities book → (values : List ℤ) → floor_of book (marks ++ more) k b ≡ Some values
      → IsLowFor (floor_of book marks k b) values
  rise_below itself zero b less lt values e = absurd (omega (arith, less))
  rise_below itself (suc n) b less lt values e =
      low_for_both (floor_of book marks k b) (brought_first book (marks ++ more) k b) (least_over (brought book (marks ++ more) k b (floor_of book (marks ++ more) k)) (range_with_len 0 b))
      (λ v e'. from_place Carry b lt (λ w is. (w, is, itself w)) (Some (carry_of book k)) refl v e')
      (low_for_all (floor_of book marks k b) (brought book (marks ++ more) k b (floor_of book (marks ++ more) k)) 0 b
      (λ y lt' v e'. from_place (After y) b lt (λ w is. rise_below itself n y (omega (arith, less, lt')) (omega (arith, lt, lt')) w is) (floor_of book (marks ++ more) k y) refl v e'))
      values (sym (least book (marks ++ more) k b lt) ∙ e)

  pub floors_rise : (itself : (v : List ℤ) → EachAtMost v v) (b : ℕ) → b < activities book → (values : List ℤ) → floor_of book (marks ++ more) k b ≡ Some values
      → IsLowFor (floor_of book marks k b) values
  floors_rise itself b lt values e = rise_below itself (suc b) b (omega arith) lt values e
