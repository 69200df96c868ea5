-- What waits stays as it is while the bucket of a later activity b grows. What waits has ended before b starts, and b
-- ends later than that: so no label that waits is one of b. The bucket that a label is in is then another one than b's,
-- which does not change, and its row keeps its values.
use Rattle.std.proofs.Common.{◌≡◌, ◌≢◌, ℕ, ℤ, pos, ◌+ℤ◌, ◌≤ℤ◌, ◌<◌, arith, List, length, subst, sym, ap, ◌∙◌, get_or}
use Rattle.std.specs.Int.{int_max}
use Rattle.std.specs.List.{Contains}
use Rattle.std.proofs.lemmas.Int.{ints}
use Rattle.tail_book.specs.Seen.{BookSeen}
use Rattle.tail_book.specs.Lookup.{activities, no_activity, start_of, end_of}
use Rattle.tail_book.specs.inside.Sound.{IsBook}
use Rattle.branch_marks.specs.declared.fact.Fact.{Fact}
use Rattle.label_store.specs.Seen.{StoreSeen}
use Rattle.label_store.specs.Buckets.{row_at}
use Rattle.label_store.specs.Store.{bucket_of, IsStore, node_of}
use Rattle.label_store.specs.inside.Laws.{IsCoveredAt}
use Rattle.pricing.specs.declared.stand.Stand.{Stand}
use Rattle.pricing.specs.declared.waiting.Waiting.{Waiting}
use Rattle.pricing.specs.declared.window.Window.{Window}
use Rattle.pricing.specs.inside.Growth.{Grows}
use Rattle.pricing.specs.inside.Lines.{key_row}
use Rattle.pricing.specs.inside.Waiting.{AreEntered, HaveEntered, IsEntryOf, IsWaiting, enters_after, label_at, place_at, window_at}
use Rattle.pricing.proofs.Families.{row_of_bucket}

pub turn_at_most : (lo turn : ℤ) → turn ≤ℤ int_max lo turn
turn_at_most lo turn = grind (arith, ints)

pub lo_at_most : (lo turn : ℤ) → lo ≤ℤ int_max lo turn
lo_at_most lo turn = grind (arith, ints)

module _ (book : BookSeen) (is_book : IsBook book) (marks : List Fact) (stand : Stand) (forward : pos 0 ≤ℤ stand.turn) (b : ℕ) (of_book : b < activities book)
    (before : stand.moment ≤ℤ start_of book b) where
  -- what has waited by then is not the activity itself, which ends later
  pub another : (x : ℕ) (window : Window) → (end_of book x +ℤ enters_after stand.turn window) ≤ℤ stand.moment → x ≢ b
  another x window ready same =
      let lasts = (is_book.activities b no_activity of_book).lasts in
      let waits = turn_at_most window.lo stand.turn in
      let late : (end_of book b +ℤ enters_after stand.turn window) ≤ℤ stand.moment = subst (λ (a : ℕ). (end_of book a +ℤ enters_after stand.turn window) ≤ℤ stand.moment) same ready in
      absurd (omega (arith, ints, lasts, waits, late, before, forward))

  module _ (old new : StoreSeen) (sound : IsStore old) (nodes : length old.buckets ≡ activities book) (grows : Grows b old new) where
    -- a label that waits has its row as before
    pub row_stays : (x j : ℕ) → x < activities book → x ≢ b → Contains (bucket_of old x) j → row_at new.rows j ≡ row_at old.rows j
    row_stays x j place other has = grows.rows.rows j (row_of_bucket old sound x j (omega (arith, place, nodes)) has).kept

    entry_stays : (window : Window) (x j : ℕ) (key : List ℤ) → IsEntryOf book marks stand window old x j key → IsEntryOf book marks stand window new x j key
    entry_stays window x j key entry =
        let other = another x window entry.ready in record {
          may = entry.may;
          label = subst (λ (bucket : List ℕ). Contains bucket j) (sym (grows.others x other)) entry.label;
          ready = entry.ready;
          is_key = entry.is_key ∙ ap (key_row book stand.port window.lo window.lasting x) (sym (row_stays x j entry.may.arrival.place other entry.label));
        }

    pub waiting_stays : (windows : List Window) (waiting : Waiting) → IsWaiting book marks stand windows old waiting → IsWaiting book marks stand windows new waiting
    waiting_stays windows waiting here = record {
      roomy = here.roomy;
      labels = here.labels;
      places = here.places;
      entries = λ e lt. entry_stays (window_at windows (node_of waiting.keys e)) (place_at waiting e) (label_at waiting e) (row_at waiting.keys.rows e) (here.entries e lt);
    }

    pub entered_stays : (windows : List Window) (flights : List ℕ) (waiting : Waiting) (i upto : ℕ) → HaveEntered book marks stand windows flights old waiting i upto
        → HaveEntered book marks stand windows flights new waiting i upto
    entered_stays windows flights waiting i upto here = record {
      some = here.some;
      gone = here.gone;
      held = λ q lt may j has.
          let x = get_or flights q 0 in
          let other = another x (window_at windows i) (here.gone q lt) in
          let had : Contains (bucket_of old x) j = subst (λ (bucket : List ℕ). Contains bucket j) (grows.others x other) has in
          subst (λ (r : List ℤ). IsCoveredAt waiting.keys i (key_row book stand.port (window_at windows i).lo (window_at windows i).lasting x r))
          (sym (row_stays x j may.arrival.place other had)) (here.held q lt may j had);
    }

    pub all_entered_stay : (windows : List Window) (flights : List ℕ) (waiting : Waiting) (entered : List ℕ) → AreEntered book marks stand windows flights old waiting entered
        → AreEntered book marks stand windows flights new waiting entered
    all_entered_stay windows flights waiting entered here = record {
      count = here.count;
      each = λ i lt. entered_stays windows flights waiting i (get_or entered i 0) (here.each i lt);
    }
