-- A label that enters a line. Its key, its row's number and its activity come last in three lists of one length, so all
-- that waited before is where it was, and the new one is an entry as the others are. What was held in any line stays
-- held, since what is covered stays covered while keys come. Flights enter in order of their ends: so once one has not
-- waited long enough, none behind it has.
use Rattle.std.proofs.Common.{◌≡◌, ℕ, ℤ, ◌+◌, ◌+ℤ◌, ◌≤ℤ◌, ◌<ℤ◌, ◌<◌, inl, inr, arith, List, [], ◌∷◌, ◌++◌, length, subst, sym, ap, ◌∙◌, get_or}
use Rattle.std.specs.Prelude.{None}
use Rattle.std.proofs.lemmas.Bool.{cases_lt}
use Rattle.std.proofs.lemmas.Int.{ints}
use Rattle.std.proofs.lemmas.List.{get_or_append_left, length-append}
use Rattle.std.proofs.Math.Seq.{get_or-append_seam}
use Rattle.tail_book.specs.Seen.{BookSeen}
use Rattle.tail_book.specs.Lookup.{end_of}
use Rattle.branch_marks.specs.declared.fact.Fact.{Fact}
use Rattle.label_store.specs.Seen.{StoreSeen}
use Rattle.label_store.specs.Buckets.{row_at}
use Rattle.label_store.specs.Store.{node_of}
use Rattle.label_store.specs.inside.Laws.{KeepsRows, IsEntered}
use Rattle.pricing.specs.declared.stand.Stand.{Stand}
use Rattle.pricing.specs.declared.waiting.Waiting.{Waiting}
use Rattle.pricing.specs.declared.window.Window.{Window}
use Rattle.pricing.specs.inside.Growth.{Grows}
use Rattle.pricing.specs.inside.Waiting.{AreFlights, AreHeld, ArePending, HaveEntered, IsHeld, IsEntryOf, IsEntry, IsWaiting, Joins, MayWait, enters_after, label_at, place_at, window_at}
use Rattle.label_store.proofs.Growing.{grows_trans}

module _ (book : BookSeen) (marks : List Fact) (stand : Stand) (windows : List Window) (store : StoreSeen) where
  -- what is an entry is one where its window, its label, its activity and its key are the same
  moved_entry : (one other : Window) (x y i j : ℕ) (key lock : List ℤ) → one ≡ other → x ≡ y → i ≡ j → key ≡ lock
      → IsEntryOf book marks stand one store x i key → IsEntryOf book marks stand other store y j lock
  moved_entry one other x y i j key lock same_window same_place same_label same_key entry =
      subst (λ (w : Window). IsEntryOf book marks stand w store y j lock) same_window
      (subst (λ (z : ℕ). IsEntryOf book marks stand one store z j lock) same_place
      (subst (λ (m : ℕ). IsEntryOf book marks stand one store x m lock) same_label
      (subst (λ (r : List ℤ). IsEntryOf book marks stand one store x i r) same_key entry)))

  -- a new entry: its key, its label and its activity come last
  pub entered : (old new : Waiting) (i x j : ℕ) (key : List ℤ) → IsWaiting book marks stand windows store old
      → new.keys.width ≡ old.keys.width → length new.keys.buckets ≡ length old.keys.buckets
      → new.keys.rows ≡ old.keys.rows ++ key ∷ [] → new.labels.items ≡ old.labels.items ++ j ∷ [] → new.places.items ≡ old.places.items ++ x ∷ []
      → KeepsRows old.keys new.keys → IsEntered new.keys (length old.keys.rows) i None key
      → IsEntryOf book marks stand (window_at windows i) store x j key
      → IsWaiting book marks stand windows store new
  entered old new i x j key before width nodes is_keys is_labels is_places kept last entry =
      let n = length old.keys.rows in
      let more : length new.keys.rows ≡ n + 1 = ap length is_keys ∙ length-append old.keys.rows (key ∷ []) in
      let last_label : label_at new n ≡ j = ap (λ m. get_or new.labels.items m 0) (sym before.labels) ∙ ap (λ l. get_or l (length old.labels.items) 0) is_labels ∙ get_or-append_seam old.labels.items j [] 0 in
      let last_place : place_at new n ≡ x = ap (λ m. get_or new.places.items m 0) (sym before.places) ∙ ap (λ l. get_or l (length old.places.items) 0) is_places ∙ get_or-append_seam old.places.items x [] 0 in
      record {
        roomy = record { width = width ∙ before.roomy.width; nodes = nodes ∙ before.roomy.nodes };
        labels = ap length is_labels ∙ length-append old.labels.items (j ∷ []) ∙ ap (λ m. m + 1) before.labels ∙ sym more;
        places = ap length is_places ∙ length-append old.places.items (x ∷ []) ∙ ap (λ m. m + 1) before.places ∙ sym more;
        entries = λ e lt. elim (cases_lt e n) [
          | inl less ↦ moved_entry (window_at windows (node_of old.keys e)) (window_at windows (node_of new.keys e)) (place_at old e) (place_at new e) (label_at old e) (label_at new e)
              (row_at old.keys.rows e) (row_at new.keys.rows e)
              (ap (window_at windows) (sym (kept.nodes e less)))
              (sym (ap (λ l. get_or l e 0) is_places ∙ get_or_append_left old.places.items (x ∷ []) 0 e (omega (arith, less, before.places))))
              (sym (ap (λ l. get_or l e 0) is_labels ∙ get_or_append_left old.labels.items (j ∷ []) 0 e (omega (arith, less, before.labels))))
              (sym (kept.rows e less)) (before.entries e less)
          | inr at ↦ let same : n ≡ e = omega (arith, lt, at, more) in
              subst (IsEntry book marks stand windows store new) same
              (moved_entry (window_at windows i) (window_at windows (node_of new.keys n)) x (place_at new n) j (label_at new n) key (row_at new.keys.rows n)
              (ap (window_at windows) (sym last.place)) (sym last_place) (sym last_label) (sym last.values) entry)
        ];
      }

-- more waits, where a row was added behind the others
pub joined : (i x j : ℕ) (old new : Waiting) → Grows i old.keys new.keys → length old.labels.items ≡ length old.keys.rows → length old.places.items ≡ length old.keys.rows
    → new.labels.items ≡ old.labels.items ++ j ∷ [] → new.places.items ≡ old.places.items ++ x ∷ [] → Joins i old new
joined i x j old new grows labels places is_labels is_places = record {
  keys = grows;
  labels = λ e lt. ap (λ l. get_or l e 0) is_labels ∙ get_or_append_left old.labels.items (j ∷ []) 0 e (omega (arith, lt, labels));
  places = λ e lt. ap (λ l. get_or l e 0) is_places ∙ get_or_append_left old.places.items (x ∷ []) 0 e (omega (arith, lt, places));
}

pub joins_trans : (i : ℕ) (one two three : Waiting) → Joins i one two → Joins i two three → Joins i one three
joins_trans i one two three first next =
    let longer = first.keys.rows.longer in record {
      keys = grows_trans one.keys two.keys three.keys first.keys next.keys;
      labels = λ e lt. next.labels e (omega (arith, lt, longer)) ∙ first.labels e lt;
      places = λ e lt. next.places e (omega (arith, lt, longer)) ∙ first.places e lt;
    }

-- what is held stays so, in whichever line more waits
pub held_stays : (book : BookSeen) (stand : Stand) (windows : List Window) (store : StoreSeen) (i v x j : ℕ) (old new : Waiting) → Joins v old new
    → IsHeld book stand windows store old i x j → IsHeld book stand windows store new i x j
held_stays book stand windows store i v x j old new joins held = joins.keys.covered i _ held

-- what holds below i and at i holds below i + 1
pub one_more : (P : ℕ → Type 0) (i : ℕ) → ((q : ℕ) → q < i → P q) → P i → (q : ℕ) → q < i + 1 → P q
one_more P i below at q lt = elim (cases_lt q i) [
  | inl less ↦ below q less
  | inr more ↦ let same : i ≡ q = omega (arith, lt, more) in subst P same at
]

-- one flight more has entered
pub entered_one_more : (book : BookSeen) (marks : List Fact) (stand : Stand) (windows : List Window) (flights : List ℕ) (store : StoreSeen) (i q : ℕ) (old new : Waiting)
    → Joins i old new → HaveEntered book marks stand windows flights store old i q → q < length flights
    → (end_of book (get_or flights q 0) +ℤ enters_after stand.turn (window_at windows i)) ≤ℤ stand.moment
    → (MayWait book marks stand (get_or flights q 0) → AreHeld book stand windows store new i (get_or flights q 0))
    → HaveEntered book marks stand windows flights store new i (q + 1)
entered_one_more book marks stand windows flights store i q old new joins before lt ready held = record {
  some = omega (arith, lt);
  gone = one_more (λ r. (end_of book (get_or flights r 0) +ℤ enters_after stand.turn (window_at windows i)) ≤ℤ stand.moment) q before.gone ready;
  held = one_more (λ r. MayWait book marks stand (get_or flights r 0) → AreHeld book stand windows store new i (get_or flights r 0)) q
      (λ r less may j has. held_stays book stand windows store i i (get_or flights r 0) j old new joins (before.held r less may j has)) held;
}

-- what has not waited long enough at one place has not at those behind it
pub pending_from : (book : BookSeen) (stand : Stand) (windows : List Window) (flights : List ℕ) (port i q : ℕ) → AreFlights book port flights
    → stand.moment <ℤ (end_of book (get_or flights q 0) +ℤ enters_after stand.turn (window_at windows i)) → ArePending book stand windows flights i q
pending_from book stand windows flights port i q are late r le lt =
    let order = are.order q r le lt in omega (arith, ints, late, order)
