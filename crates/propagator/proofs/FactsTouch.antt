-- What each kind of fact leaves of an aircraft's row that was right but for flags. Its own Bar, and the Must of
-- another, take one activity: the floor there goes, the floors of its successors become due, and its predecessors are
-- to be asked; where it had no floor and was not to be asked it was not alive, and nothing changes. A Cut takes a link,
-- and a Tie all links from its first activity and to its second but the one between: the floors behind these become
-- due, and what lies before them is to be asked. A Must of its own takes the links over it and the ends before it: all
-- floors behind it become due, and all is to be asked. What has no flag keeps its links.
use Rattle.std.specs.Prelude.{◌≢◌, ◌&&◌, ◌||◌, not, nat_eq, nat_le}
use Rattle.std.proofs.Common.{◌≡◌, ◌∙◌, ℕ, ℤ, ◌<◌, ◌≤◌, ◌+◌, Bool, true, false, inl, inr, arith, List, [], ◌∷◌, ◌++◌, length, refl, sym, ap, subst, Option, None}
use Rattle.std.proofs.lemmas.Bool.{both_ways, false_from_ne_true, ne_eqb, eq-eqb, le-leb, or_left, or_right}
use Rattle.std.proofs.lemmas.Bool.Decides.{eqb_tells}
use Rattle.tail_book.specs.Seen.{BookSeen}
use Rattle.tail_book.specs.declared.place.Place.{Place}
use Rattle.tail_book.specs.declared.place.Place.TheVariants.{Carry, After}
use Rattle.tail_book.specs.Lookup.{activities}
use Rattle.tail_book.specs.Numbers.{contains}
use Rattle.connection_net.specs.inside.Laws.{PredecessorsAreLinks, SuccessorsAreLinks}
use Rattle.connection_net.specs.Net.{net_of, predecessors_in, successors_in}
use Rattle.branch_marks.specs.declared.fact.Fact.{Fact}
use Rattle.branch_marks.specs.declared.fact.Fact.TheVariants.{Bar, Must, Cut, Tie}
use Rattle.branch_marks.specs.MarkTests.{is_alive, is_before, is_usable, lets_go}
use Rattle.branch_marks.specs.inside.MarkTests.{UsableDecides, MayEndDecides}
use Rattle.branch_marks.specs.Floors.{stepped_floor}
use Rattle.branch_marks.specs.Following.{IsDeadBy}
use Rattle.floor_rows.specs.inside.FloorRow.{FloorRowSeen, floor_in, IsSetAt}
use Rattle.floor_rows.specs.inside.LeastOver.{brought, least_at, BroughtTells}
use Rattle.propagator.specs.inside.SameFor.{SameFor}
use Rattle.propagator.specs.inside.Touching.{is_set, AreSetToo, AreSetFrom, IsTouched, LosesOnly}
use Rattle.propagator.proofs.MoreMarks.{alive_more, alive_kept, alive_at_kept, usable_more, usable_kept, end_kept, same_brings, barred, elsewhere_alive}
use Rattle.propagator.proofs.RightRows.{least_kept, no_successor, no_predecessor, dead_back, touched_same}

-- what is not among one number is another
pub apart_from : (x c : ℕ) → contains (c ∷ []) x ≡ false → x ≢ c
apart_from x c out same = both_ways (contains (c ∷ []) x) out (or_left (nat_eq x c) false (eq-eqb x c same))

no_and : (p t : Bool) → t ≡ false → not (p && t) ≡ true
no_and true t e = ap not e
no_and false t e = refl

-- so it is with its own Bar, and with the Must of another
pub bar_loses : (book : BookSeen) (marks : List Fact) (k c : ℕ) → LosesOnly book marks (Bar k c) k c
bar_loses book marks k c = record {
  gone = barred book marks k c;
  rest = λ a ne. elsewhere_alive book marks k c a ne;
  go = λ x b. refl;
  end = λ x. refl;
}

and_false : (p : Bool) → (p && false) ≡ false
and_false true = refl
and_false false = refl

pub must_loses : (book : BookSeen) (marks : List Fact) (k c j : ℕ) → j ≢ k → LosesOnly book marks (Must j c) k c
must_loses book marks k c j ne = record {
  gone = alive_more book marks (Must j c) k c
      ∙ ap (λ (t : Bool). is_alive book marks k c && (not t || nat_eq j k)) (eq-eqb c c refl)
      ∙ ap (λ (t : Bool). is_alive book marks k c && t) (ne_eqb j k ne)
      ∙ and_false (is_alive book marks k c);
  rest = λ a apart. alive_kept book marks (Must j c) k a (ap (λ (t : Bool). not t || nat_eq j k) (ne_eqb c a (λ e. apart (sym e))));
  go = λ x b. ap (λ (t : Bool). not (t && is_before x c) || nat_le b c) (ne_eqb j k ne);
  end = λ x. ap (λ (t : Bool). not (t && is_before x c)) (ne_eqb j k ne);
}

-- a Tie lets go what neither begins at its first end nor ends at its second
pub lets_past : (p q : Bool) → p ≡ false → q ≡ false → ((not p || q) && (not q || p)) ≡ true
lets_past true q e f = absurd (both_ways true e refl)
lets_past false true e f = absurd (both_ways true f refl)
lets_past false false e f = refl

module _ (tells : BroughtTells) (usable : UsableDecides) (ends : MayEndDecides) (book : BookSeen) (marks : List Fact) (fact : Fact) (k c : ℕ) (loses : LosesOnly book marks fact k c) where
  rest_usable : (x b : ℕ) → x ≢ c → b ≢ c → is_usable book (marks ++ fact ∷ []) k (After x) b ≡ is_usable book marks k (After x) b
  rest_usable x b nx nb = usable_kept book marks fact k (After x) b (loses.rest x nx) (loses.rest b nb) (loses.go (After x) b)

  first_kept : (b : ℕ) → b ≢ c → is_usable book (marks ++ fact ∷ []) k Carry b ≡ is_usable book marks k Carry b
  first_kept b nb = usable_kept book marks fact k Carry b refl (loses.rest b nb) (loses.go Carry b)

  -- what was not alive is not lost
  pub loses_nothing : is_alive book marks k c ≡ false → SameFor book k marks (marks ++ fact ∷ [])
  loses_nothing dead = record { alive = same; usable = λ x b. usable_kept book marks fact k x b (alive_at_kept book marks fact k same x) (same b) (loses.go x b); ends = λ x. end_kept book marks fact k x (loses.end x) }
    where
      same : (a : ℕ) → is_alive book (marks ++ fact ∷ []) k a ≡ is_alive book marks k a
      same a = elim (eqb_tells a c) [
        | inl here ↦ (ap (λ (z : ℕ). is_alive book (marks ++ fact ∷ []) k z) here.1 ∙ loses.gone ∙ sym (ap (λ (z : ℕ). is_alive book marks k z) here.1 ∙ dead))
        | inr other ↦ loses.rest a other.1
      ]

  -- where there is no floor, and the activity is not to be asked, it was not alive
  pub lost_before : (row : FloorRowSeen) (due ask : List Bool) → c < activities book → floor_in row c ≡ None → is_set ask c ≡ false
      → IsTouched book marks k row due ask → IsTouched book (marks ++ fact ∷ []) k row due ask
  lost_before row due ask lt none off was =
      touched_same tells usable ends book k marks (marks ++ fact ∷ []) row due ask
      (loses_nothing (false_from_ne_true (is_alive book marks k c)
      (λ t. was.asked c lt off t (subst (λ (floor : Option (List ℤ)). IsDeadBy book marks k c floor) (sym none) tt)))) was

  module _ (succ : SuccessorsAreLinks) (pred : PredecessorsAreLinks) where
    -- the floor is taken away: those of the successors are due, and the predecessors are to be asked
    pub lost_now : (row next : FloorRowSeen) (due due' ask ask' : List Bool) → IsSetAt c None row next
        → AreSetToo (successors_in (net_of book) c) due due' → AreSetToo (predecessors_in (net_of book) c) ask ask'
        → IsTouched book marks k row due ask → IsTouched book (marks ++ fact ∷ []) k next due' ask'
    lost_now row next due due' ask ask' set more also was = record { floors = floors_left; asked = asked_left }
      where
        brings_left : (b x : ℕ) → b ≢ c → contains (successors_in (net_of book) c) b ≡ false
            → brought book (marks ++ fact ∷ []) k b (floor_in next) x ≡ brought book marks k b (floor_in row) x
        brings_left b x nb out = elim (eqb_tells x c) [
          | inl here ↦ (
              ap (λ (f : Option (List ℤ)). stepped_floor book (marks ++ fact ∷ []) k (After x) b f) (ap (λ (z : ℕ). floor_in next z) here.1 ∙ set.here)
              ∙ sym (tells.unusable book marks k (After x) b (floor_in row x)
              (ap (λ (z : ℕ). is_usable book marks k (After z) b) here.1 ∙ no_successor succ usable book marks k c b out)))
          | inr other ↦ (
              ap (λ (f : Option (List ℤ)). stepped_floor book (marks ++ fact ∷ []) k (After x) b f) (set.others x other.1)
              ∙ same_brings book marks (marks ++ fact ∷ []) k (After x) b (floor_in row x) (rest_usable x b other.1 nb))
        ]

        floors_left : (b : ℕ) → b < activities book → is_set due' b ≡ false → floor_in next b ≡ least_at book (marks ++ fact ∷ []) k (floor_in next) b
        floors_left b lt e = elim (eqb_tells b c) [
          | inl here ↦ (ap (λ (z : ℕ). floor_in next z) here.1 ∙ set.here
              ∙ sym (tells.without book (marks ++ fact ∷ []) k b (floor_in next) (ap (λ (z : ℕ). is_alive book (marks ++ fact ∷ []) k z) here.1 ∙ loses.gone)))
          | inr other ↦ (let (e', out) = more b e in
              set.others b other.1 ∙ was.floors b lt e'
              ∙ sym (least_kept tells book marks (marks ++ fact ∷ []) k b (floor_in row) (floor_in next) (first_kept b other.1) (λ x less. brings_left b x other.1 out)))
        ]

        goes_left : (a : ℕ) → a ≢ c → contains (predecessors_in (net_of book) c) a ≡ false → (b : ℕ) → b < activities book
            → is_usable book marks k (After a) b ≡ true → is_usable book (marks ++ fact ∷ []) k (After a) b ≡ true
        goes_left a apart out b lt t = elim (eqb_tells b c) [
          | inl here ↦ absurd (both_ways (is_usable book marks k (After a) b)
              (ap (λ (z : ℕ). is_usable book marks k (After a) z) here.1 ∙ no_predecessor pred usable book marks k a c out) t)
          | inr other ↦ rest_usable a b apart other.1 ∙ t
        ]

        asked_left : (a : ℕ) → a < activities book → is_set ask' a ≡ false → is_alive book (marks ++ fact ∷ []) k a ≡ true → ¬ IsDeadBy book (marks ++ fact ∷ []) k a (floor_in next a)
        asked_left a lt e on d =
            let (e', out) = also a e in
            let apart : a ≢ c = λ same. both_ways (is_alive book (marks ++ fact ∷ []) k a) (ap (λ (z : ℕ). is_alive book (marks ++ fact ∷ []) k z) same ∙ loses.gone) on in
            was.asked a lt e' (sym (loses.rest a apart) ∙ on)
            (dead_back usable ends book marks (marks ++ fact ∷ []) k a (end_kept book marks fact k (After a) (loses.end (After a))) (goes_left a apart out) (floor_in row a)
            (subst (λ (floor : Option (List ℤ)). IsDeadBy book (marks ++ fact ∷ []) k a floor) (set.others a apart) d))

module _ (tells : BroughtTells) (usable : UsableDecides) (ends : MayEndDecides) (book : BookSeen) (marks : List Fact) (k c : ℕ) where
  keeps_alive : (a : ℕ) → is_alive book (marks ++ Must k c ∷ []) k a ≡ is_alive book marks k a
  keeps_alive a = alive_kept book marks (Must k c) k a (or_right (not (nat_eq c a)) (nat_eq k k) (eq-eqb k k refl))

  up_to : (x : Place) (b : ℕ) → b ≤ c → is_usable book (marks ++ Must k c ∷ []) k x b ≡ is_usable book marks k x b
  up_to x b le = usable_kept book marks (Must k c) k x b (alive_at_kept book marks (Must k c) k keeps_alive x) (keeps_alive b)
      (or_right (not (nat_eq k k && is_before x c)) (nat_le b c) (le-leb b c le))

  -- with a Must of its own the floors behind it are due, and all is to be asked
  pub must_touches : (row : FloorRowSeen) (due due' ask ask' : List Bool) → AreSetFrom (c + 1) due due' → activities book ≤ length due'
      → ((i : ℕ) → i < activities book → is_set ask' i ≡ true)
      → IsTouched book marks k row due ask → IsTouched book (marks ++ Must k c ∷ []) k row due' ask'
  must_touches row due due' ask ask' more all every was = record {
    floors = λ b lt e.
        let (e', less) = more b (omega (arith, lt, all)) e in
        was.floors b lt e' ∙ sym (least_kept tells book marks (marks ++ Must k c ∷ []) k b (floor_in row) (floor_in row) (up_to Carry b (omega (arith, less)))
        (λ x under. same_brings book marks (marks ++ Must k c ∷ []) k (After x) b (floor_in row x) (up_to (After x) b (omega (arith, less)))));
    asked = λ a lt e on d. absurd (both_ways (is_set ask' a) e (every a lt));
  }

module _ (tells : BroughtTells) (usable : UsableDecides) (ends : MayEndDecides) (book : BookSeen) (marks : List Fact) (k c d : ℕ) where
  cut_usable : (x : Place) (b : ℕ) → lets_go k x b (Cut c d) ≡ true → is_usable book (marks ++ Cut c d ∷ []) k x b ≡ is_usable book marks k x b
  cut_usable x b e = usable_kept book marks (Cut c d) k x b (alive_at_kept book marks (Cut c d) k (λ a. alive_kept book marks (Cut c d) k a refl) x)
      (alive_kept book marks (Cut c d) k b refl) e

  -- with a Cut the floor behind it is due, and what lies before it is to be asked
  pub cut_touches : (row : FloorRowSeen) (due due' ask ask' : List Bool) → AreSetToo (d ∷ []) due due' → AreSetToo (c ∷ []) ask ask'
      → IsTouched book marks k row due ask → IsTouched book (marks ++ Cut c d ∷ []) k row due' ask'
  cut_touches row due due' ask ask' more also was = record {
    floors = λ b lt e.
        let (e', out) = more b e in
        let apart : nat_eq d b ≡ false = ne_eqb d b (λ same. apart_from b d out (sym same)) in
        was.floors b lt e' ∙ sym (least_kept tells book marks (marks ++ Cut c d ∷ []) k b (floor_in row) (floor_in row) (cut_usable Carry b refl)
        (λ x less. same_brings book marks (marks ++ Cut c d ∷ []) k (After x) b (floor_in row x) (cut_usable (After x) b (no_and (nat_eq x c) (nat_eq d b) apart))));
    asked = λ a lt e on dead.
        let (e', out) = also a e in
        was.asked a lt e' (sym (alive_kept book marks (Cut c d) k a refl) ∙ on)
        (dead_back usable ends book marks (marks ++ Cut c d ∷ []) k a (end_kept book marks (Cut c d) k (After a) refl)
        (λ b less t. cut_usable (After a) b (ap (λ (p : Bool). not (p && nat_eq d b)) (ne_eqb a c (apart_from a c out))) ∙ t) (floor_in row a) dead);
  }

  tie_usable : (x : Place) (b : ℕ) → lets_go k x b (Tie c d) ≡ true → is_usable book (marks ++ Tie c d ∷ []) k x b ≡ is_usable book marks k x b
  tie_usable x b e = usable_kept book marks (Tie c d) k x b (alive_at_kept book marks (Tie c d) k (λ a. alive_kept book marks (Tie c d) k a refl) x)
      (alive_kept book marks (Tie c d) k b refl) e

  never_usable : (x : Place) (b : ℕ) → is_usable book marks k x b ≡ false → is_usable book (marks ++ Tie c d ∷ []) k x b ≡ false
  never_usable x b e =
      usable_more book marks (Tie c d) k x b (alive_at_kept book marks (Tie c d) k (λ a. alive_kept book marks (Tie c d) k a refl) x) (alive_kept book marks (Tie c d) k b refl)
      ∙ ap (λ (t : Bool). t && lets_go k x b (Tie c d)) e

  -- with a Tie the floors behind both ends are due, and what lies before them is to be asked
  pub tie_touches : SuccessorsAreLinks → PredecessorsAreLinks → (row : FloorRowSeen) (due mid due' ask half ask' : List Bool)
      → AreSetToo (successors_in (net_of book) c) due mid → AreSetToo (d ∷ []) mid due' → AreSetToo (predecessors_in (net_of book) d) ask half → AreSetToo (c ∷ []) half ask'
      → IsTouched book marks k row due ask → IsTouched book (marks ++ Tie c d ∷ []) k row due' ask'
  tie_touches succ pred row due mid due' ask half ask' first more also last was = record { floors = floors_left; asked = asked_left }
    where
      links_left : (b x : ℕ) → b ≢ d → contains (successors_in (net_of book) c) b ≡ false → is_usable book (marks ++ Tie c d ∷ []) k (After x) b ≡ is_usable book marks k (After x) b
      links_left b x nb out = elim (eqb_tells x c) [
        | inl here ↦ (
            let none = ap (λ (z : ℕ). is_usable book marks k (After z) b) here.1 ∙ no_successor succ usable book marks k c b out in
            never_usable (After x) b none ∙ sym none)
        | inr other ↦ tie_usable (After x) b (lets_past (nat_eq x c) (nat_eq d b) other.0 (ne_eqb d b (λ same. nb (sym same))))
      ]

      floors_left : (b : ℕ) → b < activities book → is_set due' b ≡ false → floor_in row b ≡ least_at book (marks ++ Tie c d ∷ []) k (floor_in row) b
      floors_left b lt e =
          let (e', out') = more b e in
          let (e'', out) = first b e' in
          was.floors b lt e'' ∙ sym (least_kept tells book marks (marks ++ Tie c d ∷ []) k b (floor_in row) (floor_in row)
          (tie_usable Carry b (lets_past false (nat_eq d b) refl (ne_eqb d b (λ same. apart_from b d out' (sym same)))))
          (λ x less. same_brings book marks (marks ++ Tie c d ∷ []) k (After x) b (floor_in row x) (links_left b x (apart_from b d out') out)))

      goes_left : (a : ℕ) → a ≢ c → contains (predecessors_in (net_of book) d) a ≡ false → (b : ℕ) → b < activities book
          → is_usable book marks k (After a) b ≡ true → is_usable book (marks ++ Tie c d ∷ []) k (After a) b ≡ true
      goes_left a na out b lt t = elim (eqb_tells b d) [
        | inl here ↦ absurd (both_ways (is_usable book marks k (After a) b)
            (ap (λ (z : ℕ). is_usable book marks k (After a) z) here.1 ∙ no_predecessor pred usable book marks k a d out) t)
        | inr other ↦ (tie_usable (After a) b (lets_past (nat_eq a c) (nat_eq d b) (ne_eqb a c na) (ne_eqb d b (λ same. other.1 (sym same)))) ∙ t)
      ]

      asked_left : (a : ℕ) → a < activities book → is_set ask' a ≡ false → is_alive book (marks ++ Tie c d ∷ []) k a ≡ true → ¬ IsDeadBy book (marks ++ Tie c d ∷ []) k a (floor_in row a)
      asked_left a lt e on dead =
          let (e', out') = last a e in
          let (e'', out) = also a e' in
          was.asked a lt e'' (sym (alive_kept book marks (Tie c d) k a refl) ∙ on)
          (dead_back usable ends book marks (marks ++ Tie c d ∷ []) k a
          (end_kept book marks (Tie c d) k (After a) (ap not (ne_eqb a c (apart_from a c out'))))
          (goes_left a (apart_from a c out') out) (floor_in row a) dead)

-- a fact that says nothing of the aircraft leaves it the same
pub bar_touches_not : BroughtTells → UsableDecides → MayEndDecides → (book : BookSeen) (marks : List Fact) (k j c : ℕ) (row : FloorRowSeen) (due ask : List Bool)
    → SameFor book k marks (marks ++ Bar j c ∷ []) → IsTouched book marks k row due ask → IsTouched book (marks ++ Bar j c ∷ []) k row due ask
bar_touches_not tells usable ends book marks k j c row due ask same was = touched_same tells usable ends book k marks (marks ++ Bar j c ∷ []) row due ask same was
