-- Airports from one departure to the next. Where nothing waits, all that waits is as it should be. What has waited long
-- enough has at any later moment too, and activities stand in order of their starts, so moments never fall. While the
-- bucket of an activity grows what waits stays as it is (Staying.antt), and the airport of a departure alone changes,
-- in what waits there. The floor stays but behind a Must of the aircraft, where all lines begin anew with nothing.
use Rattle.std.proofs.Common.{◌≡◌, ◌≢◌, ℕ, zero, suc, ℤ, pos, ◌+◌, ◌≤ℤ◌, ◌<◌, ◌≤◌, inl, inr, Bool, arith, List, [], ◌∷◌, ◌++◌, length, subst, sym, ap, ◌∙◌, get_or}
use Rattle.std.specs.Prelude.{slice_set, int_lt, IsTrue, ◌||◌, ◌&&◌}
use Rattle.std.specs.Int.{int_max}
use Rattle.std.specs.Ordering.{int_eq}
use Rattle.std.specs.List.{Contains}
use Rattle.std.proofs.lemmas.Bool.{cases_lt}
use Rattle.std.proofs.lemmas.Int.{ints}
use Rattle.std.proofs.lemmas.List.{get_or_append_left, get_or-set_same, get_or-set_other, length-append, length-set}
use Rattle.std.proofs.Math.Seq.{get_or-append_seam}
use Rattle.tail_book.specs.Seen.{BookSeen}
use Rattle.tail_book.specs.declared.rules.Band.{Band}
use Rattle.tail_book.specs.Lookup.{activities, aircraft, no_activity, no_tail, no_type, start_of, kind_of, type_turn, port_turn}
use Rattle.tail_book.specs.inside.Sound.{IsBook}
use Rattle.branch_marks.specs.declared.fact.Fact.{Fact}
use Rattle.branch_marks.specs.declared.fact.Fact.TheVariants.{Must}
use Rattle.label_store.specs.Seen.{StoreSeen}
use Rattle.label_store.specs.Store.{IsStore}
use Rattle.pricing.specs.declared.airport.AirportLines.{AirportLines}
use Rattle.pricing.specs.declared.stand.Stand.{Stand}
use Rattle.pricing.specs.declared.window.Window.{Window}
use Rattle.pricing.specs.inside.Growth.{Grows}
use Rattle.pricing.specs.inside.Airports.{AreAirports, AreAirportsTo, AreAlike, AreBusy, AreFresh, AreGrounds, IsAirportOf, IsBusy, IsFloor, IsFreshAirport, IsLikeAirport, stand_at}
use Rattle.pricing.specs.inside.Waiting.{AreFlights, AreWindows}
use Rattle.pricing.proofs.Staying.{all_entered_stay, waiting_stays}

-- an airport that is like one of the book is one
pub like_airport : (bands : List Band) (book : BookSeen) (port : ℕ) (old new : AirportLines) → IsLikeAirport old new → IsAirportOf bands book port old → IsAirportOf bands book port new
like_airport bands book port old new like is = record {
  flights = subst (AreFlights book port) (sym like.flights) is.flights;
  grounds = subst (AreGrounds book port) (sym like.grounds) is.grounds;
  windows = subst (AreWindows bands book.rules.counters port) (sym like.windows) is.windows;
  roomy = record {
    width = like.width ∙ is.roomy.width;
    nodes = like.nodes ∙ is.roomy.nodes ∙ ap (λ (w : List Window). length w) (sym like.windows);
  };
  count = like.count ∙ is.count ∙ ap (λ (w : List Window). length w) (sym like.windows);
}

pub alike_airports : (bands : List Band) (book : BookSeen) (old new : List AirportLines) → AreAlike old new → AreAirports bands book old → AreAirports bands book new
alike_airports bands book old new alike are = record {
  all = alike.all ∙ are.all;
  each = λ p d lt.
      let same = alike.all in
      let within : p < length old = omega (arith, lt, same) in
      like_airport bands book p (get_or old p d) (get_or new p d) (alike.each p d within) (are.each p d within);
}

-- where nothing waits, all that waits is as it should be
pub fresh_is_busy : (bands : List Band) (book : BookSeen) (marks : List Fact) (port : ℕ) (stand : Stand) (store : StoreSeen) (airport : AirportLines)
    → IsAirportOf bands book port airport → IsFreshAirport airport → IsBusy book marks stand store airport
fresh_is_busy bands book marks port stand store airport is fresh = record {
  waiting = record {
    roomy = is.roomy;
    labels = fresh.labels ∙ sym fresh.rows;
    places = fresh.places ∙ sym fresh.rows;
    entries = λ e lt. let none = fresh.rows in absurd (omega (arith, lt, none));
  };
  entered = record {
    count = is.count;
    each = λ i lt. let none = fresh.none i in record {
      some = omega (arith, none);
      gone = λ q less. absurd (omega (arith, less, none));
      held = λ q less. absurd (omega (arith, less, none));
    };
  };
}

pub fresh_are_busy : (bands : List Band) (book : BookSeen) (marks : List Fact) (k floor : ℕ) (moment : ℤ) (store : StoreSeen) (airports : List AirportLines)
    → AreAirports bands book airports → AreFresh airports → AreBusy book marks k floor moment store airports
fresh_are_busy bands book marks k floor moment store airports are fresh p d lt =
    fresh_is_busy bands book marks p (stand_at book k floor moment p) store (get_or airports p d) (are.each p d lt) (fresh p d lt)

-- what has waited long enough has at any later moment
pub busy_later : (book : BookSeen) (marks : List Fact) (k floor port : ℕ) (before after : ℤ) (store : StoreSeen) (airport : AirportLines) → before ≤ℤ after
    → IsBusy book marks (stand_at book k floor before port) store airport → IsBusy book marks (stand_at book k floor after port) store airport
busy_later book marks k floor port before after store airport le busy = record {
  waiting = record {
    roomy = busy.waiting.roomy;
    labels = busy.waiting.labels;
    places = busy.waiting.places;
    entries = λ e lt.
        let entry = busy.waiting.entries e lt in
        let ready = entry.ready in
        record {
          may = record { arrival = entry.may.arrival; behind = entry.may.behind; untied = entry.may.untied };
          label = entry.label;
          ready = omega (arith, ints, ready, le);
          is_key = entry.is_key;
        };
  };
  entered = record {
    count = busy.entered.count;
    each = λ i lt. let had = busy.entered.each i lt in record {
      some = had.some;
      gone = λ q less. let gone = had.gone q less in omega (arith, ints, gone, le);
      held = λ q less may. had.held q less (record { arrival = may.arrival; behind = may.behind; untied = may.untied });
    };
  };
}

-- and stays so while the bucket of an activity grows that starts no earlier
pub busy_stays : (book : BookSeen) (is_book : IsBook book) (marks : List Fact) (stand : Stand) (forward : pos 0 ≤ℤ stand.turn) (b : ℕ) (of_book : b < activities book)
    (before : stand.moment ≤ℤ start_of book b) (old new : StoreSeen) → IsStore old → length old.buckets ≡ activities book → Grows b old new
    → (airport : AirportLines) → IsBusy book marks stand old airport → IsBusy book marks stand new airport
busy_stays book is_book marks stand forward b of_book before old new sound nodes grows airport busy = record {
  waiting = waiting_stays book is_book marks stand forward b of_book before old new sound nodes grows airport.windows.items airport.waiting busy.waiting;
  entered = all_entered_stay book is_book marks stand forward b of_book before old new sound nodes grows airport.windows.items airport.flights.items airport.waiting airport.entered.items busy.entered;
}

at_least : (x y : ℤ) → pos 0 ≤ℤ x → pos 0 ≤ℤ int_max x y
at_least x y least = grind (arith, ints)

-- all of them, when an activity is done
pub are_busy_stay : (book : BookSeen) (is_book : IsBook book) (marks : List Fact) (k floor : ℕ) (forward : pos 0 ≤ℤ type_turn book (kind_of book k)) (b : ℕ) (of_book : b < activities book)
    (before : ℤ) (earlier : before ≤ℤ start_of book b) (old new : StoreSeen) → IsStore old → length old.buckets ≡ activities book → Grows b old new
    → (airports : List AirportLines) → AreBusy book marks k floor before old airports → AreBusy book marks k floor (start_of book b) new airports
are_busy_stay book is_book marks k floor forward b of_book before earlier old new sound nodes grows airports busy p d lt =
    busy_stays book is_book marks (stand_at book k floor (start_of book b) p) (at_least (type_turn book (kind_of book k)) (port_turn book p) forward) b of_book (omega (arith, ints)) old new sound nodes grows
    (get_or airports p d) (busy_later book marks k floor p before (start_of book b) old (get_or airports p d) earlier (busy p d lt))

-- the test of the order, at the starts
no_later : (x y : ℤ) (tied : Bool) → IsTrue (int_lt x y || (int_eq x y && tied)) → x ≤ℤ y
no_later x y tied h = grind (arith, ints, h)

-- activities stand in order of their starts
pub starts_rise : (book : BookSeen) → IsBook book → (i j : ℕ) → i < j → j < activities book → start_of book i ≤ℤ start_of book j
starts_rise book sound i j less lt = no_later (start_of book i) (start_of book j) _ (sound.ordered i j no_activity less lt)

-- a type's turn is not below 0
pub turn_forward : (book : BookSeen) → IsBook book → (k : ℕ) → k < aircraft book → pos 0 ≤ℤ type_turn book (kind_of book k)
turn_forward book sound k hk = (sound.rules.kinds (kind_of book k) no_type (sound.tails k no_tail hk).kind).turn.least

-- with one airport changed in what waits there, all are airports of the book
pub airports_with : (bands : List Band) (book : BookSeen) (airports : List AirportLines) (port : ℕ) (one : AirportLines) → AreAirports bands book airports → port < length airports
    → ((d : AirportLines) → IsLikeAirport (get_or airports port d) one) → AreAirports bands book (slice_set airports port one)
airports_with bands book airports port one are inside like = record {
  all = length-set airports port one ∙ are.all;
  each = λ p d lt. elim (cases_lt p port) [
    | inl less ↦ other p d (within p lt) (omega (arith, less))
    | inr le ↦ elim (cases_lt port p) [
      | inl more ↦ other p d (within p lt) (omega (arith, more))
      | inr ge ↦ let same : port ≡ p = omega (arith, le, ge) in
          subst (λ (q : ℕ). IsAirportOf bands book q (get_or (slice_set airports port one) q d)) same
          (subst (IsAirportOf bands book port) (sym (get_or-set_same airports port one d inside)) (like_airport bands book port (get_or airports port d) one (like d) (are.each port d inside)))
    ]
  ];
}
  where
    within : (p : ℕ) → p < length (slice_set airports port one) → p < length airports
    within p lt = let long = length-set airports port one in omega (arith, lt, long)

    other : (p : ℕ) (d : AirportLines) → p < length airports → p ≢ port → IsAirportOf bands book p (get_or (slice_set airports port one) p d)
    other p d lt apart = subst (IsAirportOf bands book p) (sym (get_or-set_other airports port p one d apart)) (are.each p d lt)

-- and all are busy, where the others were
pub busy_with : (book : BookSeen) (marks : List Fact) (k floor : ℕ) (moment : ℤ) (store : StoreSeen) (airports : List AirportLines) (port : ℕ) (one : AirportLines) → port < length airports
    → AreBusy book marks k floor moment store airports → IsBusy book marks (stand_at book k floor moment port) store one → AreBusy book marks k floor moment store (slice_set airports port one)
busy_with book marks k floor moment store airports port one inside busy here p d lt = elim (cases_lt p port) [
  | inl less ↦ other (omega (arith, less))
  | inr le ↦ elim (cases_lt port p) [
    | inl more ↦ other (omega (arith, more))
    | inr ge ↦ let same : port ≡ p = omega (arith, le, ge) in
        subst (λ (q : ℕ). IsBusy book marks (stand_at book k floor moment q) store (get_or (slice_set airports port one) q d)) same
        (subst (IsBusy book marks (stand_at book k floor moment port) store) (sym (get_or-set_same airports port one d inside)) here)
  ]
]
  where
    other : p ≢ port → IsBusy book marks (stand_at book k floor moment p) store (get_or (slice_set airports port one) p d)
    other apart =
        let long = length-set airports port one in
        subst (IsBusy book marks (stand_at book k floor moment p) store) (sym (get_or-set_other airports port p one d apart)) (busy p d (omega (arith, lt, long)))

-- what rises from each place to the next rises from any to any later one
pub rises : (f : ℕ → ℤ) (n : ℕ) → ((q : ℕ) → q + 1 < n → f q ≤ℤ f (q + 1)) → (q r : ℕ) → q ≤ r → r < n → f q ≤ℤ f r
rises f n next q zero le lt = let same : 0 ≡ q = omega (arith, le) in subst (λ (m : ℕ). f m ≤ℤ f 0) same (omega (arith, ints))
rises f n next q (suc r) le lt = elim (cases_lt q (suc r)) [
  | inl less ↦
      let before = rises f n next q r (omega (arith, less)) (omega (arith, lt)) in
      let up : r + 1 ≡ suc r = omega arith in
      let step : f r ≤ℤ f (suc r) = subst (λ (m : ℕ). f r ≤ℤ f m) up (next r (omega (arith, lt))) in omega (arith, ints, before, step)
  | inr ge ↦ let same : suc r ≡ q = omega (arith, le, ge) in subst (λ (m : ℕ). f m ≤ℤ f (suc r)) same (omega (arith, ints))
]

-- the floor stays where the next activity is no Must
pub floor_stays : (marks : List Fact) (k b floor : ℕ) → (Contains marks (Must k b) → ⊥) → IsFloor marks k b floor → IsFloor marks k (b + 1) floor
floor_stays marks k b floor none is = record {
  musts = λ c lt has. elim (cases_lt c b) [
    | inl less ↦ is.musts c less has
    | inr le ↦ let same : c ≡ b = omega (arith, lt, le) in absurd (none (subst (λ (m : ℕ). Contains marks (Must k m)) same has))
  ];
  least = λ c at. let must = is.least c at in let before = must.1 in (must.0, omega (arith, before));
}

-- one airport more stands behind the others
pub airports_more : (bands : List Band) (book : BookSeen) (n : ℕ) (old new : List AirportLines) (one : AirportLines) → new ≡ old ++ one ∷ [] → AreAirportsTo bands book n old → IsAirportOf bands book n one
    → AreAirportsTo bands book (n + 1) new
airports_more bands book n old new one is before here = record {
  count = ap (λ (l : List AirportLines). length l) is ∙ length-append old (one ∷ []) ∙ ap (λ (m : ℕ). m + 1) before.count;
  each = λ p d lt. elim (cases_lt p n) [
    | inl less ↦ subst (λ (l : List AirportLines). IsAirportOf bands book p (get_or l p d)) (sym is)
        (subst (IsAirportOf bands book p) (sym (get_or_append_left old (one ∷ []) d p (let count = before.count in omega (arith, less, count)))) (before.each p d less))
    | inr le ↦
        let count = before.count in
        let same : length old ≡ p = omega (arith, lt, le, count) in
        subst (λ (l : List AirportLines). IsAirportOf bands book p (get_or l p d)) (sym is)
        (subst (λ (q : ℕ). IsAirportOf bands book q (get_or (old ++ one ∷ []) q d)) same
        (subst (IsAirportOf bands book (length old)) (sym (get_or-append_seam old one [] d)) (subst (λ (q : ℕ). IsAirportOf bands book q one) (sym count) here)))
  ];
}
