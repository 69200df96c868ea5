-- An open departure: each activity before it, from which its link is usable, was tried by the lines or as ground time.
-- A flight from which it may be flown may wait, and has waited for the turn. It has entered the line of each window
-- that it has waited for, as those that have not entered have not waited long enough; and the windows reach further
-- than anyone can wait. So each of its labels was tried, or one that stands for it (Reaching.antt). All else that ends
-- there is ground time, which was tried link by link.
use Rattle.std.proofs.Common.{◌≡◌, ◌≢◌, ℕ, ℤ, ◌+◌, ◌+ℤ◌, ◌≤ℤ◌, ◌<ℤ◌, ◌<◌, inl, inr, Bool, true, false, arith, refl, List, length, subst, sym, ◌∙◌, get_or}
use Rattle.std.specs.Prelude.{slice_set}
use Rattle.std.specs.List.{Contains}
use Rattle.std.proofs.lemmas.Bool.{cases_lt}
use Rattle.std.proofs.lemmas.Int.{ints}
use Rattle.std.proofs.lemmas.List.{get_or_default, get_or-set_same, get_or-set_other, length-set}
use Rattle.tail_book.specs.Seen.{BookSeen}
use Rattle.tail_book.specs.TableSeen.{CostTableSeen}
use Rattle.tail_book.specs.declared.limits.TheConstants.{LAST_MOMENT}
use Rattle.tail_book.specs.declared.place.Place.TheVariants.{After}
use Rattle.tail_book.specs.Link.{gap}
use Rattle.tail_book.specs.Lookup.{activities, is_flight, no_activity, end_of}
use Rattle.tail_book.specs.inside.Order.{EachAtMostChains, LowerStaysWithin}
use Rattle.tail_book.specs.inside.Sound.{IsBook}
use Rattle.branch_marks.specs.declared.fact.Fact.{Fact}
use Rattle.label_store.specs.Seen.{StoreSeen}
use Rattle.label_store.specs.Store.{IsStore}
use Rattle.pricing.specs.declared.stand.Stand.{Stand}
use Rattle.pricing.specs.declared.waiting.Waiting.{Waiting}
use Rattle.pricing.specs.declared.window.Window.{Window}
use Rattle.pricing.specs.inside.Filled.{IsReached}
use Rattle.pricing.specs.inside.Growth.{Grows}
use Rattle.pricing.specs.inside.Airports.{AreGrounds}
use Rattle.pricing.specs.inside.Waiting.{AreAllHeld, AreEntered, AreFlights, AreHeld, ArePending, AreTriedIn, AreWindows, HaveEntered, IsOpen, IsReadable, IsWaiting, Joins, MayWait, enters_after, window_at}
use Rattle.pricing.proofs.Filling.{reached_here, reached_stays}
use Rattle.pricing.proofs.Reaching.{lines_reach}
use Rattle.pricing.proofs.Standing.{has_waited, may_wait}
use Rattle.pricing.proofs.Waiters.{held_stays}

-- what has entered the other lines is there still, and in line i so many flights are now
pub entered_with : (book : BookSeen) (marks : List Fact) (stand : Stand) (windows : List Window) (flights : List ℕ) (store : StoreSeen) (i now : ℕ) (old new : Waiting) (entered : List ℕ)
    → Joins i old new → AreEntered book marks stand windows flights store old entered → i < length windows → HaveEntered book marks stand windows flights store new i now
    → AreEntered book marks stand windows flights store new (slice_set entered i now)
entered_with book marks stand windows flights store i now old new entered joins before inside here =
    let count = before.count in record {
      count = length-set entered i now ∙ count;
      each = λ v lt. elim (cases_lt v i) [
        | inl less ↦ other v lt (omega (arith, less))
        | inr le ↦ elim (cases_lt i v) [
          | inl more ↦ other v lt (omega (arith, more))
          | inr ge ↦ let same : i ≡ v = omega (arith, le, ge) in
              subst (λ (m : ℕ). HaveEntered book marks stand windows flights store new m (get_or (slice_set entered i now) m 0)) same
              (subst (λ (n : ℕ). HaveEntered book marks stand windows flights store new i n) (sym (get_or-set_same entered i now 0 (omega (arith, inside, count)))) here)
        ]
      ];
    }
  where
    other : (v : ℕ) → v < length windows → v ≢ i → HaveEntered book marks stand windows flights store new v (get_or (slice_set entered i now) v 0)
    other v lt apart =
        let had = before.each v lt in
        subst (λ (n : ℕ). HaveEntered book marks stand windows flights store new v n) (sym (get_or-set_other entered i v now 0 apart)) (record {
          some = had.some;
          gone = had.gone;
          held = λ q less may j has. held_stays book stand windows store v i (get_or flights q 0) j old new joins (had.held q less may j has);
        })

-- and none of those behind it has waited long enough
pub pending_with : (book : BookSeen) (stand : Stand) (windows : List Window) (flights : List ℕ) (i now : ℕ) (entered : List ℕ) → i < length entered
    → ((v : ℕ) → v < i → ArePending book stand windows flights v (get_or entered v 0)) → ArePending book stand windows flights i now
    → (v : ℕ) → v < i + 1 → ArePending book stand windows flights v (get_or (slice_set entered i now) v 0)
pending_with book stand windows flights i now entered inside before here v lt = elim (cases_lt v i) [
  | inl less ↦ subst (λ (n : ℕ). ArePending book stand windows flights v n) (sym (get_or-set_other entered i v now 0 (omega (arith, less)))) (before v less)
  | inr le ↦ let same : i ≡ v = omega (arith, lt, le) in
      subst (λ (m : ℕ). ArePending book stand windows flights m (get_or (slice_set entered i now) m 0)) same
      (subst (λ (n : ℕ). ArePending book stand windows flights i n) (sym (get_or-set_same entered i now 0 inside)) here)
]

module _ (chains : EachAtMostChains) (lower : LowerStaysWithin) (table : CostTableSeen) (book : BookSeen) (marks : List Fact) (k : ℕ) (duals : List ℤ) (stand : Stand) (b : ℕ)
    (is_book : IsBook book) (of_book : b < activities book) (leaves : IsOpen book marks k stand b)
    (windows : List Window) (are : AreWindows table.bands book.rules.counters stand.port windows)
    (flights : List ℕ) (all : AreFlights book stand.port flights) (grounds : List ℕ) (others : AreGrounds book stand.port grounds) where
  -- nobody waits for longer than time has gone on
  most : (x : ℕ) → x < activities book → gap book k (After x) b ≤ℤ LAST_MOMENT
  most x lt =
      let late = (is_book.activities b no_activity of_book).start.most in
      let early = (is_book.activities x no_activity lt).end.least in omega (arith, ints, late, early)

  -- what has waited long enough has entered, or is among those that have not
  all_held : (store : StoreSeen) (waiting : Waiting) (entered : List ℕ) → AreEntered book marks stand windows flights store waiting entered
      → ((i : ℕ) → i < length windows → ArePending book stand windows flights i (get_or entered i 0))
      → (i : ℕ) → i < length windows → AreAllHeld book marks k stand windows store waiting b i
  all_held store waiting entered have pending i lt x may waited =
      let (q, within, is) = all.every x may.arrival in
      let here : get_or flights q 0 ≡ x = sym (get_or_default flights q x 0 within) ∙ is in
      elim (cases_lt q (get_or entered i 0)) [
        | inl less ↦ subst (AreHeld book stand windows store waiting i) here ((have.each i lt).held q less (subst (MayWait book marks stand) (sym here) may))
        | inr le ↦
            let late = pending i lt q le within in
            let late_x : stand.moment <ℤ (end_of book x +ℤ enters_after stand.turn (window_at windows i)) =
            subst (λ (y : ℕ). stand.moment <ℤ (end_of book y +ℤ enters_after stand.turn (window_at windows i))) here late in
            let moment = leaves.moment in absurd (omega (arith, ints, late_x, waited, moment))
      ]

  module _ (one two three : StoreSeen) (sound_one : IsStore one) (sound_two : IsStore two) (read : IsReadable book two) (nodes : length one.buckets ≡ activities book)
      (first : Grows b one two) (next : Grows b two three) (waiting : Waiting) (keys_sound : IsStore waiting.keys) (here : IsWaiting book marks stand windows two waiting)
      (entered : List ℕ) (have : AreEntered book marks stand windows flights two waiting entered)
      (pending : (i : ℕ) → i < length windows → ArePending book stand windows flights i (get_or entered i 0))
      (by_ground : (x : ℕ) → Contains grounds x → x < b → IsReached table book marks k duals one x b two)
      (tried : (i : ℕ) → i < length windows → AreTriedIn table book k duals two three windows b waiting i) where
    by_kind : (x : ℕ) (flight : Bool) → is_flight book x ≡ flight → x < b → IsReached table book marks k duals one x b three
    by_kind x true is later usable =
        let place : x < activities book = omega (arith, later, of_book) in
        let may = may_wait book k marks stand b leaves x place is usable in
        let turned = has_waited book k marks stand b leaves x may.arrival usable in
        reached_here table book marks k duals one two three x b sound_one (omega (arith, place, nodes)) later first
        (λ usable_too j has. lines_reach chains lower table book k marks duals stand b leaves.airport leaves.moment windows are two three sound_two read waiting keys_sound here most
        (all_held two waiting entered have pending) tried leaves.forward x j may has turned)
        usable
    by_kind x false is later usable =
        let place : x < activities book = omega (arith, later, of_book) in
        reached_stays table book marks k duals one two three x b b next
        (by_ground x (others.every x (record { place = place; there = usable.link.place ∙ leaves.airport; ground = is })) later) usable

    pub open_reached : (x : ℕ) → x < b → IsReached table book marks k duals one x b three
    open_reached x later = by_kind x (is_flight book x) refl later
