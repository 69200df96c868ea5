-- The least of all floors: taken row by row, and in each row activity by activity. What lowers a floor leaves it no higher than
-- what it was, and than what it is lowered to. And from what is no higher a step passes a limit only where the other one does.
use Rattle.std.proofs.Common.{◌≡◌, ◌∙◌, ℕ, suc, ℤ, ◌<◌, ◌+◌, inl, inr, Bool, true, false, List, [], ◌∷◌, length, get_or, refl, sym, ap, subst, arith, below_more, Option, None, Some}
use Rattle.std.proofs.lemmas.Int.{ints, clamps}
use Rattle.std.proofs.lemmas.Bool.{both_ways}
use Rattle.std.proofs.lemmas.Bool.Decides.{eqb_tells}
use Rattle.tail_book.specs.Seen.{BookSeen, CounterSeen}
use Rattle.tail_book.specs.declared.place.Place.TheVariants.{After}
use Rattle.tail_book.specs.Lookup.{activities, aircraft}
use Rattle.tail_book.specs.Counters.{step, step_one, step_from, WithinLimits}
use Rattle.tail_book.specs.CounterOrder.{EachAtMost}
use Rattle.tail_book.specs.inside.Order.{EachAtMostChains, EachAtMostItself, StepsKeepOrder, LowerStaysWithin}
use Rattle.tail_book.specs.LegalTests.{within_limits}
use Rattle.tail_book.specs.inside.Tests.{LimitsDecide}
use Rattle.branch_marks.specs.Floors.{lesser, lesser_floor}
use Rattle.branch_marks.specs.Following.{CannotGoBy}
use Rattle.floor_rows.specs.inside.FloorRow.{FloorRowSeen, floor_in, IsRowOf, IsSetAt}
use Rattle.propagator.specs.inside.Lowest.{AreWide, StaysLow, IsLowestOf}
use Rattle.propagator.specs.inside.Rising.{IsLowFor}
use Rattle.propagator.specs.inside.Rows.{floors_in}

some_same : (low values : List ℤ) → Some low ≡ Some values → low ≡ values
some_same low values e = cc

none_is_not : (low : List ℤ) → None ≡ Some low → ⊥
none_is_not low e = cc

-- the lesser is as long, and no higher than either
lesser_long : (us vs : List ℤ) → length us ≡ length vs → length (lesser us vs) ≡ length us
lesser_long [] vs e = refl
lesser_long (u ∷ us) [] e = absurd (omega (arith, e))
lesser_long (u ∷ us) (v ∷ vs) e = ap suc (lesser_long us vs (omega (arith, e)))

lesser_under : (us vs : List ℤ) → length us ≡ length vs → EachAtMost (lesser us vs) us × EachAtMost (lesser us vs) vs
lesser_under [] [] e = (tt, tt)
lesser_under [] (v ∷ vs) e = absurd (omega (arith, e))
lesser_under (u ∷ us) [] e = absurd (omega (arith, e))
lesser_under (u ∷ us) (v ∷ vs) e =
    let rest = lesser_under us vs (omega (arith, e)) in
    ((omega (arith, ints, clamps), rest.0), (omega (arith, ints, clamps), rest.1))

-- two floors of one length, of which either may be missing
module _ (width : ℕ) (f g : Option (List ℤ)) (wide : (low : List ℤ) → f ≡ Some low → length low ≡ width) (other_wide : (low : List ℤ) → g ≡ Some low → length low ≡ width) where
  lesser_wide : (low : List ℤ) → lesser_floor f g ≡ Some low → length low ≡ width
  lesser_wide = by_cases f g wide other_wide
    where
      by_cases : (f g : Option (List ℤ)) → ((low : List ℤ) → f ≡ Some low → length low ≡ width) → ((low : List ℤ) → g ≡ Some low → length low ≡ width)
          → (low : List ℤ) → lesser_floor f g ≡ Some low → length low ≡ width
      by_cases None g w w' low e = w' low e
      by_cases (Some us) None w w' low e = w low e
      by_cases (Some us) (Some vs) w w' low e =
          ap length (sym (some_same (lesser us vs) low e)) ∙ lesser_long us vs (w us refl ∙ sym (w' vs refl)) ∙ w us refl

  module _ (chains : EachAtMostChains) (values : List ℤ) where
    stays_left : IsLowFor f values → IsLowFor (lesser_floor f g) values
    stays_left = by_cases f g wide other_wide
      where
        by_cases : (f g : Option (List ℤ)) → ((low : List ℤ) → f ≡ Some low → length low ≡ width) → ((low : List ℤ) → g ≡ Some low → length low ≡ width)
            → IsLowFor f values → IsLowFor (lesser_floor f g) values
        by_cases None g w w' h = absurd (none_is_not h.0 h.1)
        by_cases (Some us) None w w' h = h
        by_cases (Some us) (Some vs) w w' h =
            let (low, is, under) = h in (
              lesser us vs,
              refl,
              chains (lesser us vs) us values (lesser_under us vs (w us refl ∙ sym (w' vs refl))).0
                  (subst (λ (z : List ℤ). EachAtMost z values) (sym (some_same us low is)) under),
            )

    stays_right : IsLowFor g values → IsLowFor (lesser_floor f g) values
    stays_right = by_cases f g wide other_wide
      where
        by_cases : (f g : Option (List ℤ)) → ((low : List ℤ) → f ≡ Some low → length low ≡ width) → ((low : List ℤ) → g ≡ Some low → length low ≡ width)
            → IsLowFor g values → IsLowFor (lesser_floor f g) values
        by_cases None g w w' h = h
        by_cases (Some us) None w w' h = absurd (none_is_not h.0 h.1)
        by_cases (Some us) (Some vs) w w' h =
            let (low, is, under) = h in (
              lesser us vs,
              refl,
              chains (lesser us vs) vs values (lesser_under us vs (w us refl ∙ sym (w' vs refl))).1
                  (subst (λ (z : List ℤ). EachAtMost z values) (sym (some_same vs low is)) under),
            )

-- the least floors are lowered to those of a row at the activities below n
pub record IsLowered (book : BookSeen) (row old new : FloorRowSeen) (n : ℕ) : Type 0 where
  pub room : IsRowOf book new
  pub wide : AreWide book new
  pub under : (a : ℕ) → a < n → (low : List ℤ) → floor_in row a ≡ Some low → IsLowFor (floor_in new a) low
  pub stays : StaysLow old new

pub not_lowered : (book : BookSeen) (row old : FloorRowSeen) → IsRowOf book old → AreWide book old → IsLowered book row old old 0
not_lowered book row old is wide = record {
  room = is;
  wide = wide;
  under = λ a lt. absurd (omega (arith, lt));
  stays = λ a values h. h;
}

module _ (itself : EachAtMostItself) (chains : EachAtMostChains) (book : BookSeen) (row old mid new : FloorRowSeen) (n : ℕ) (within : n < activities book)
    (so_far : IsLowered book row old mid n) (set : IsSetAt n (lesser_floor (floor_in mid n) (floor_in row n)) mid new)
    (wide_here : (low : List ℤ) → floor_in row n ≡ Some low → length low ≡ length book.rules.counters) where
  still_wide : AreWide book new
  still_wide a less low e = elim (eqb_tells a n) [
    | inl here ↦ lesser_wide (length book.rules.counters) (floor_in mid n) (floor_in row n) (so_far.wide n within) wide_here low
        (sym set.here ∙ ap (λ (z : ℕ). floor_in new z) (sym here.1) ∙ e)
    | inr other ↦ so_far.wide a less low (sym (set.others a other.1) ∙ e)
  ]

  still_low : StaysLow mid new
  still_low a values h = elim (eqb_tells a n) [
    | inl here ↦ subst (λ (floor : Option (List ℤ)). IsLowFor floor values) (sym set.here ∙ ap (λ (z : ℕ). floor_in new z) (sym here.1))
        (stays_left (length book.rules.counters) (floor_in mid n) (floor_in row n) (so_far.wide n within) wide_here chains values
        (subst (λ (z : ℕ). IsLowFor (floor_in mid z) values) here.1 h))
    | inr other ↦ subst (λ (floor : Option (List ℤ)). IsLowFor floor values) (sym (set.others a other.1)) h
  ]

  pub lowered_more : IsLowered book row old new (n + 1)
  lowered_more = record {
    room = record { width = set.width ∙ so_far.room.width; count = set.count ∙ so_far.room.count };
    wide = still_wide;
    under = below_more (λ (a : ℕ). (low : List ℤ) → floor_in row a ≡ Some low → IsLowFor (floor_in new a) low) n
        (λ a lt low e. still_low a low (so_far.under a lt low e))
        (λ low e. subst (λ (floor : Option (List ℤ)). IsLowFor floor low) (sym set.here)
        (stays_right (length book.rules.counters) (floor_in mid n) (floor_in row n) (so_far.wide n within) wide_here chains low (low, e, itself low)));
    stays = λ a values h. still_low a values (so_far.stays a values h);
  }

-- the least floors are no higher than those of the aircraft below n
pub record AreLowered (book : BookSeen) (rows : List FloorRowSeen) (lowest : FloorRowSeen) (n : ℕ) : Type 0 where
  pub room : IsRowOf book lowest
  pub wide : AreWide book lowest
  pub under : (k : ℕ) → k < n → (a : ℕ) → a < activities book → (low : List ℤ) → get_or (floors_in rows k) a None ≡ Some low → IsLowFor (floor_in lowest a) low

-- where there is none yet, none of them is asked
pub none_lowered : (book : BookSeen) (rows : List FloorRowSeen) (lowest : FloorRowSeen) → IsRowOf book lowest → ((a : ℕ) → a < activities book → floor_in lowest a ≡ None) → AreLowered book rows lowest 0
none_lowered book rows lowest is none = record {
  room = is;
  wide = λ a less low e. absurd (none_is_not low (sym (none a less) ∙ e));
  under = λ k lt. absurd (omega (arith, lt));
}

-- of all, they are no higher than any
pub all_lowered : (book : BookSeen) (rows : List FloorRowSeen) (lowest : FloorRowSeen) (n : ℕ) → n ≡ aircraft book → AreLowered book rows lowest n → IsLowestOf book rows lowest
all_lowered book rows lowest n e are k lt a less low values is known =
    let (lower, there, under) = are.under k (omega (arith, e, lt)) a less values known in
    subst (λ (z : List ℤ). EachAtMost z values) (some_same lower low (sym there ∙ is)) under

-- a step after an activity is the same for all aircraft
step_from_same : (book : BookSeen) (j k x b c : ℕ) (counters : List CounterSeen) (values : List ℤ) → step_from book j (After x) b c counters values ≡ step_from book k (After x) b c counters values
step_from_same book j k x b c [] values = refl
step_from_same book j k x b c (counter ∷ counters) [] = refl
step_from_same book j k x b c (counter ∷ counters) (value ∷ values) = ap (λ (rest : List ℤ). step_one book j (After x) b c counter value ∷ rest) (step_from_same book j k x b (c + 1) counters values)

-- where the least of all floors does not go on, no floor does
module _ (order : StepsKeepOrder) (within : LowerStaysWithin) (limits : LimitsDecide) (book : BookSeen) (rows : List FloorRowSeen) (lowest : FloorRowSeen) (j a b : ℕ) where
  none_by : IsLowestOf book rows lowest → a < activities book → (low : List ℤ) → floor_in lowest a ≡ Some low → within_limits book.rules.counters (step book j (After a) b low) ≡ false
      → (k : ℕ) → k < aircraft book → (floor : Option (List ℤ)) → get_or (floors_in rows k) a None ≡ floor → CannotGoBy book k a b floor
  none_by least less low is off k lt None e = tt
  none_by least less low is off k lt (Some values) e = λ stays.
      let under = order book k (After a) b low values (least k lt a less low values is e) in
      both_ways (within_limits book.rules.counters (step book j (After a) b low)) off
      ((limits book.rules.counters (step book j (After a) b low)).1
      (subst (λ (z : List ℤ). WithinLimits book.rules.counters z) (step_from_same book k j a b 0 book.rules.counters low)
      (within book.rules.counters (step book k (After a) b low) (step book k (After a) b values) under stays)))

  pub nobody_goes : IsLowestOf book rows lowest → a < activities book → (floor : Option (List ℤ)) → floor_in lowest a ≡ floor → (has goes : Bool)
      → (floor ≡ None → has ≡ false) → has ≡ true → ((low : List ℤ) → floor ≡ Some low → goes ≡ within_limits book.rules.counters (step book j (After a) b low)) → goes ≡ false
      → (k : ℕ) → k < aircraft book → CannotGoBy book k a b (get_or (floors_in rows k) a None)
  nobody_goes least less None is has goes none there some off k lt = absurd (both_ways has (none refl) there)
  nobody_goes least less (Some low) is has goes none there some off k lt = none_by least less low is (sym (some low refl) ∙ off) k lt (get_or (floors_in rows k) a None) refl
