-- The table of floors is at or below what each way brings. A way to b comes from the carry-in or from an activity before b,
-- since links rise; so it was one of those over which the floor at b is the least.
use Rattle.std.proofs.Common.{◌≡◌, ◌∙◌, ℕ, zero, suc, ℤ, ◌+◌, ◌<◌, ◌≤◌, inl, inr, Bool, true, false, arith, List, [], ◌∷◌, length, sym, refl, ap, get_or, subst, Option, Some, None, if◌then◌else◌}
use Rattle.std.proofs.lemmas.Bool.{cond-true, cases_order, and_from}
use Rattle.std.proofs.lemmas.List.{length-append, get_or_append_left}
use Rattle.std.specs.Prelude.{◌&&◌}
use Rattle.tail_book.specs.Seen.{BookSeen}
use Rattle.tail_book.specs.declared.place.Place.{Place}
use Rattle.tail_book.specs.declared.place.Place.TheVariants.{Carry, After}
use Rattle.tail_book.specs.Lookup.{activities, carry_of}
use Rattle.tail_book.specs.Counters.{step, WithinLimits}
use Rattle.tail_book.specs.inside.Order.{EachAtMostItself, EachAtMostChains, StepsKeepCount}
use Rattle.tail_book.specs.inside.Rising.{LinksRise}
use Rattle.tail_book.specs.inside.Sound.{IsBook}
use Rattle.tail_book.specs.LegalTests.{within_limits}
use Rattle.tail_book.specs.inside.Tests.{LimitsDecide}
use Rattle.branch_marks.specs.declared.fact.Fact.{Fact}
use Rattle.branch_marks.specs.Marks.{IsUsable}
use Rattle.branch_marks.specs.MarkTests.{is_usable}
use Rattle.branch_marks.specs.inside.MarkTests.{UsableDecides}
use Rattle.branch_marks.specs.Floors.{stepped_floor, least_from, floor_by, floors_below, floors, floor_at, IsWay}
use Rattle.branch_marks.proofs.LesserFloors.{IsFull, AreFull, full_with_one_more, lesser_full, IsLowFor, low_first, low_second, floor_within, floor_last}

module _ (book : BookSeen) (marks : List Fact) (k : ℕ) where
  pub below_length : (n : ℕ) → length (floors_below book marks k n) ≡ n
  below_length zero = refl
  below_length (suc n) =
      let h = below_length n in
      let e = length-append (floors_below book marks k n) (floor_by book marks k n (floors_below book marks k n) ∷ []) in
      omega (arith, h, e)

  -- a floor stays the same when further ones are added
  pub below_same : (n b x : ℕ) → x < b → b ≤ n → get_or (floors_below book marks k n) x None ≡ get_or (floors_below book marks k b) x None
  below_same zero b x lt le = absurd (omega (arith, lt, le))
  below_same (suc n) b x lt le = elim (cases_order b (suc n)) [
    | inl e ↦ (rw e refl)
    | inr o ↦ elim o [
      | inl less ↦ (let h = below_length n in
          get_or_append_left (floors_below book marks k n) (floor_by book marks k n (floors_below book marks k n) ∷ []) None x (omega (arith, h, lt, less))
          ∙ below_same n b x lt (omega (arith, less)))
      | inr more ↦ absurd (omega (arith, more, le))
    ]
  ]

  pub below_at : (n b : ℕ) → b < n → get_or (floors_below book marks k n) b None ≡ floor_by book marks k b (floors_below book marks k b)
  below_at n b lt =
      below_same n (suc b) b (omega arith) (omega (arith, lt))
      ∙ floor_last (floors_below book marks k b) (floor_by book marks k b (floors_below book marks k b)) b (below_length b)

  module _ (rise : LinksRise) (itself : EachAtMostItself) (chains : EachAtMostChains) (count : StepsKeepCount) (usable : UsableDecides) (limits : LimitsDecide) where
    abbrev width : ℕ
    width = length book.rules.counters

    chosen_full : (t : Bool) (values : List ℤ) → length values ≡ width → IsFull width (if t then Some values else None)
    chosen_full true values e = e
    chosen_full false values e = tt

    stepped_full : (x : Place) (b : ℕ) (floor : Option (List ℤ)) → IsFull width floor → IsFull width (stepped_floor book marks k x b floor)
    stepped_full x b None h = tt
    stepped_full x b (Some values) h =
        chosen_full (is_usable book marks k x b && within_limits book.rules.counters (step book k x b values)) (step book k x b values) (count book k x b values h)

    -- a way brings its step
    stepped_by_way : (x : Place) (b : ℕ) (values : List ℤ) → IsUsable book marks k x b → WithinLimits book.rules.counters (step book k x b values)
        → stepped_floor book marks k x b (Some values) ≡ Some (step book k x b values)
    stepped_by_way x b values u w =
        cond-true (is_usable book marks k x b && within_limits book.rules.counters (step book k x b values)) (Some (step book k x b values)) None
        (and_from (is_usable book marks k x b) (within_limits book.rules.counters (step book k x b values))
        ((usable book marks k x b).1 u) ((limits book.rules.counters (step book k x b values)).1 w))

    least_full : (b x : ℕ) (listed : List (Option (List ℤ))) → AreFull width listed → IsFull width (least_from book marks k b x listed)
    least_full b x [] h = tt
    least_full b x (floor ∷ listed) h = lesser_full width (stepped_floor book marks k (After x) b floor) (least_from book marks k b (x + 1) listed)
        (stepped_full (After x) b floor h.0) (least_full b (x + 1) listed h.1)

    -- the least from x on is low for what comes from any y that is listed
    least_low : (b x : ℕ) (listed : List (Option (List ℤ))) (i y : ℕ) (values brought : List ℤ) → AreFull width listed → y ≡ x + i
        → get_or listed i None ≡ Some values → stepped_floor book marks k (After y) b (Some values) ≡ Some brought
        → IsLowFor (least_from book marks k b x listed) brought
    least_low b x [] i y values brought full e known makes = absurd (omega (arith, floor_within [] i values known))
    least_low b x (floor ∷ listed) zero y values brought full e known makes =
        let here : y ≡ x = omega (arith, e) in
        low_first itself width (stepped_floor book marks k (After x) b floor) (least_from book marks k b (x + 1) listed) brought
        (stepped_full (After x) b floor full.0) (least_full b (x + 1) listed full.1)
        (ap (λ (f : Option (List ℤ)). stepped_floor book marks k (After x) b f) known
        ∙ subst (λ (z : ℕ). stepped_floor book marks k (After z) b (Some values) ≡ Some brought) here makes)
    least_low b x (floor ∷ listed) (suc i) y values brought full e known makes =
        let (low, is, under) = least_low b (x + 1) listed i y values brought full.1 (omega (arith, e)) known makes in
        let (lowest, all, below) = low_second itself width (stepped_floor book marks k (After x) b floor) (least_from book marks k b (x + 1) listed) low
        (stepped_full (After x) b floor full.0) (least_full b (x + 1) listed full.1) is in
        (lowest, all, chains lowest low brought below under)

    module _ (sound : IsBook book) (carried : length (carry_of book k) ≡ length book.rules.counters) where
      below_full : (n : ℕ) → AreFull width (floors_below book marks k n)
      below_full zero = tt
      below_full (suc n) =
          full_with_one_more width (floors_below book marks k n) (floor_by book marks k n (floors_below book marks k n)) (below_full n)
          (lesser_full width (stepped_floor book marks k Carry n (Some (carry_of book k))) (least_from book marks k n 0 (floors_below book marks k n))
          (stepped_full Carry n (Some (carry_of book k)) carried) (least_full n 0 (floors_below book marks k n) (below_full n)))

      by_way : (x : Place) (b : ℕ) (values : List ℤ) → b < activities book → IsWay book marks k x b values
          → IsLowFor (floor_by book marks k b (floors_below book marks k b)) (step book k x b values)
      by_way Carry b values lt way =
          let same : carry_of book k ≡ values = cc (way.floor) in
          low_first itself width (stepped_floor book marks k Carry b (Some (carry_of book k))) (least_from book marks k b 0 (floors_below book marks k b)) (step book k Carry b values)
          (stepped_full Carry b (Some (carry_of book k)) carried) (least_full b 0 (floors_below book marks k b) (below_full b))
          (ap (λ (v : List ℤ). stepped_floor book marks k Carry b (Some v)) same ∙ stepped_by_way Carry b values way.usable way.within)
      by_way (After y) b values lt way =
          let inside = floor_within (floors book marks k) y values way.floor in
          let all = below_length (activities book) in
          let before = rise book sound k y b (omega (arith, inside, all)) lt way.usable.link in
          let (low, is, under) = least_low b 0 (floors_below book marks k b) y y values (step book k (After y) b values) (below_full b) (omega arith)
          (sym (below_same (activities book) b y before (omega (arith, lt))) ∙ way.floor) (stepped_by_way (After y) b values way.usable way.within) in
          let (lowest, joined, below) = low_second itself width (stepped_floor book marks k Carry b (Some (carry_of book k))) (least_from book marks k b 0 (floors_below book marks k b)) low
          (stepped_full Carry b (Some (carry_of book k)) carried) (least_full b 0 (floors_below book marks k b) (below_full b)) is in
          (lowest, joined, chains lowest low (step book k (After y) b values) below under)

      pub floors_low : (x : Place) (b : ℕ) (values : List ℤ) → b < activities book → IsWay book marks k x b values
          → IsLowFor (floor_at book marks k (After b)) (step book k x b values)
      floors_low x b values lt way = let (low, is, under) = by_way x b values lt way in (low, below_at (activities book) b lt ∙ is, under)
