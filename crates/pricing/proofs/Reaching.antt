-- Why the lines are enough at a departure.
-- A label is held in the line of the window that its wait falls in: some entry there is at most it in key. Where that entry
-- has outlived the window it waits in the line of a later one, and there, by induction on the windows that are left, its own
-- row was tried. Else it was tried here. In both cases its row over the link is covered, and by the law of waiting it covers
-- the label's row.
use Rattle.std.proofs.Common.{◌≡◌, ℕ, suc, zero, ℤ, pos, ◌+◌, ◌+ℤ◌, ◌≤ℤ◌, ◌<ℤ◌, ◌<◌, inl, inr, arith, List, [], ◌∷◌, length, subst, sym, ap, ◌∙◌, ◌-◌}
use Rattle.std.specs.Prelude.{◌⊎◌}
use Rattle.std.specs.Int.{int_max}
use Rattle.std.specs.List.{Contains}
use Rattle.std.proofs.lemmas.Int.{ints}
use Rattle.tail_book.specs.Seen.{BookSeen}
use Rattle.tail_book.specs.TableSeen.{CostTableSeen}
use Rattle.tail_book.specs.declared.limits.TheConstants.{LAST_MOMENT}
use Rattle.tail_book.specs.declared.place.Place.TheVariants.{After}
use Rattle.tail_book.specs.Counters.{step}
use Rattle.tail_book.specs.Link.{gap}
use Rattle.tail_book.specs.Lookup.{activities, from_port, start_of, end_of}
use Rattle.tail_book.specs.CounterOrder.{EachAtMost}
use Rattle.tail_book.specs.inside.Order.{EachAtMostChains, LowerStaysWithin}
use Rattle.branch_marks.specs.declared.fact.Fact.{Fact}
use Rattle.branch_marks.specs.Weights.{arc_weight}
use Rattle.label_store.specs.Seen.{StoreSeen}
use Rattle.label_store.specs.Buckets.{row_at}
use Rattle.label_store.specs.Store.{bucket_of, IsStore, node_of}
use Rattle.pricing.specs.Rows.{counters_of}
use Rattle.pricing.specs.declared.stand.Stand.{Stand}
use Rattle.pricing.specs.declared.waiting.Waiting.{Waiting}
use Rattle.pricing.specs.declared.window.Window.{Window}
use Rattle.pricing.specs.inside.Growth.{Tried}
use Rattle.pricing.specs.inside.Lines.{IsRow, IsWindow, key_row}
use Rattle.pricing.specs.inside.Truth.{row_after}
use Rattle.pricing.specs.inside.Waiting.{AreAllHeld, AreTriedIn, AreWindows, IsReadable, IsWaiting, MayWait, enters_after, label_at, place_at, window_at}
use Rattle.pricing.proofs.Ahead.{waiting_keeps_order}
use Rattle.pricing.proofs.Families.{row_of_bucket}
use Rattle.pricing.proofs.Staying.{turn_at_most, lo_at_most}

in_order : (z w : ℤ) → (z <ℤ w) ⊎ (w ≤ℤ z)
in_order z w = grind (arith, ints)

both_at_most : (lo turn wait : ℤ) → lo ≤ℤ wait → turn ≤ℤ wait → int_max lo turn ≤ℤ wait
both_at_most lo turn wait one other = grind (arith, ints)

is_row : (row : List ℤ) (n : ℕ) → length row ≡ n + 1 → IsRow row
is_row [] n long = absurd (omega (arith, long))
is_row (w ∷ values) n long = tt

-- where its row over the link is at most another's, what was tried of the one was tried of the other
tried_over : (chains : EachAtMostChains) (lower : LowerStaysWithin) (book : BookSeen) (k : ℕ) (store : StoreSeen) (arc other_arc : ℤ) (x y b : ℕ) (row other : List ℤ)
    → EachAtMost (row_after book k arc (After x) b row) (row_after book k other_arc (After y) b other)
    → Tried book k store arc (After x) b row → Tried book k store other_arc (After y) b other
tried_over chains lower book k store arc other_arc x y b row other order tried within =
    let covered = tried (lower book.rules.counters (step book k (After x) b (counters_of row)) (step book k (After y) b (counters_of other)) order.1 within) in
    (covered.0, (covered.1.0, chains (row_at store.rows covered.0) (row_after book k arc (After x) b row) (row_after book k other_arc (After y) b other) covered.1.1 order))

module _ (chains : EachAtMostChains) (lower : LowerStaysWithin) (table : CostTableSeen) (book : BookSeen) (k : ℕ) (marks : List Fact) (duals : List ℤ) (stand : Stand) (b : ℕ)
    (airport : from_port book b ≡ stand.port) (moment : start_of book b ≡ stand.moment) (windows : List Window) (are : AreWindows table.bands book.rules.counters stand.port windows)
    (old new : StoreSeen) (sound : IsStore old) (read : IsReadable book old) (waiting : Waiting) (keys_sound : IsStore waiting.keys)
    (here : IsWaiting book marks stand windows old waiting)
    (most : (x : ℕ) → x < activities book → gap book k (After x) b ≤ℤ LAST_MOMENT)
    (held : (i : ℕ) → i < length windows → AreAllHeld book marks k stand windows old waiting b i)
    (tried : (i : ℕ) → i < length windows → AreTriedIn table book k duals old new windows b waiting i) where
  abbrev pub Goes : ℕ → ℕ → Type 0
  Goes x j = Tried book k new (arc_weight table book k duals (After x) b) (After x) b (row_at old.rows j)

  -- a label of a flight that may wait is a row of counts
  kept : (x j : ℕ) → MayWait book marks stand x → Contains (bucket_of old x) j → j < length old.rows
  kept x j may has = (row_of_bucket old sound x j (let place = may.arrival.place in let nodes = read.nodes in omega (arith, place, nodes)) has).kept

  row_is : (j : ℕ) → j < length old.rows → IsRow (row_at old.rows j)
  row_is j lt = is_row (row_at old.rows j) (length book.rules.counters) (sound.wide j [] lt ∙ read.width)

  -- one window: an entry that was tried, or was tried further on, answers for the label
  over_one : (i : ℕ) → i < length windows → (e y j : ℕ) → e < length waiting.keys.rows → node_of waiting.keys e ≡ i
      → MayWait book marks stand y → Contains (bucket_of old y) j
      → (window_at windows i).lo ≤ℤ gap book k (After (place_at waiting e)) b → (window_at windows i).lo ≤ℤ gap book k (After y) b → gap book k (After y) b <ℤ (window_at windows i).hi
      → EachAtMost (row_at waiting.keys.rows e) (key_row book stand.port (window_at windows i).lo (window_at windows i).lasting y (row_at old.rows j))
      → Goes (place_at waiting e) (label_at waiting e) → Goes y j
  over_one i lt e y j inside at may has after_x after_y below covers goes =
      let entry = here.entries e inside in
      let x = place_at waiting e in
      let one = label_at waiting e in
      let window = window_at windows i in
      let key : row_at waiting.keys.rows e ≡ key_row book stand.port window.lo window.lasting x (row_at old.rows one) =
      entry.is_key ∙ ap (λ (v : ℕ). key_row book stand.port (window_at windows v).lo (window_at windows v).lasting x (row_at old.rows one)) at in
      tried_over chains lower book k new (arc_weight table book k duals (After x) b) (arc_weight table book k duals (After y) b) x y b (row_at old.rows one) (row_at old.rows j)
      (waiting_keeps_order table book k duals window.lo window.hi window.lasting x y b (row_at old.rows one) (row_at old.rows j)
      (subst (λ (p : ℕ). IsWindow table.bands book.rules.counters p window.lo window.hi window.lasting) (sym airport) (are.each i lt).alike)
      after_x after_y below (row_is one (kept x one entry.may entry.label)) (row_is j (kept y j may has)) (read.counts j (kept y j may has))
      (subst (λ (p : ℕ). EachAtMost (key_row book p window.lo window.lasting x (row_at old.rows one)) (key_row book p window.lo window.lasting y (row_at old.rows j))) (sym airport)
      (subst (λ (r : List ℤ). EachAtMost r (key_row book stand.port window.lo window.lasting y (row_at old.rows j))) key covers)))
      goes

  -- one window, where what has outlived it was tried: each label of a flight that has waited for its shortest stay was tried
  reach_step : (i : ℕ) → i < length windows
      → ((x j : ℕ) → MayWait book marks stand x → Contains (bucket_of old x) j → (window_at windows i).hi ≤ℤ gap book k (After x) b → stand.turn ≤ℤ gap book k (After x) b → Goes x j)
      → (y j : ℕ) → MayWait book marks stand y → Contains (bucket_of old y) j
      → (window_at windows i).lo ≤ℤ gap book k (After y) b → stand.turn ≤ℤ gap book k (After y) b → Goes y j
  reach_step i lt beyond y j may has long turned = elim (in_order (gap book k (After y) b) (window_at windows i).hi) [
    | inr past ↦ beyond y j may has past turned
    | inl below ↦
        let window = window_at windows i in
        let entered : enters_after stand.turn window ≤ℤ gap book k (After y) b = both_at_most window.lo stand.turn (gap book k (After y) b) long turned in
        let (e, (counts, covers)) = held i lt y may entered j has in
        let node : i < length waiting.keys.buckets = let nodes = here.roomy.nodes in omega (arith, lt, nodes) in
        let row = row_of_bucket waiting.keys keys_sound i e node counts in
        let entry = here.entries e row.kept in
        let x = place_at waiting e in
        let at = row.place in
        let ready : (end_of book x +ℤ enters_after stand.turn window) ≤ℤ stand.moment = subst (λ (v : ℕ). (end_of book x +ℤ enters_after stand.turn (window_at windows v)) ≤ℤ stand.moment) at entry.ready in
        let lo_most = lo_at_most window.lo stand.turn in
        let turn_most = turn_at_most window.lo stand.turn in
        let long_x : window.lo ≤ℤ gap book k (After x) b = omega (arith, ints, ready, moment, lo_most) in
        let turned_x : stand.turn ≤ℤ gap book k (After x) b = omega (arith, ints, ready, moment, turn_most) in
        let goes : Goes x (label_at waiting e) = elim (in_order (gap book k (After x) b) window.hi) [
          | inl counting ↦ tried i lt e counts counting
          | inr outlived ↦ beyond x (label_at waiting e) entry.may entry.label outlived turned_x
        ] in
        over_one i lt e y j row.kept at may has long_x long below covers goes
  ]

  -- from window i on, with so many left behind it
  reach_from : (left i : ℕ) → i + left + 1 ≡ length windows → (y j : ℕ) → MayWait book marks stand y → Contains (bucket_of old y) j
      → (window_at windows i).lo ≤ℤ gap book k (After y) b → stand.turn ≤ℤ gap book k (After y) b → Goes y j
  reach_from zero i is = reach_step i (omega (arith, is)) (λ x j may has past turned.
      let last = are.last i (omega (arith, is)) in
      let below = most x may.arrival.place in absurd (omega (arith, ints, last, below, past)))
  reach_from (suc left) i is = reach_step i (omega (arith, is)) (λ x j may has past turned.
      let join = are.join i (omega (arith, is)) in
      reach_from left (i + 1) (omega (arith, is)) x j may has (omega (arith, ints, join, past)) turned)

  -- so each label of a flight that may wait and has waited for the turn was tried
  pub lines_reach : pos 0 ≤ℤ stand.turn → (y j : ℕ) → MayWait book marks stand y → Contains (bucket_of old y) j → stand.turn ≤ℤ gap book k (After y) b → Goes y j
  lines_reach forward y j may has turned =
      let first = are.first in
      let some = are.some in
      reach_from (length windows - 1) 0 (omega (arith, some)) y j may has (omega (arith, ints, first, forward, turned)) turned
