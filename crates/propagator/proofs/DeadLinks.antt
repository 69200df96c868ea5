-- Judging a link by going over the aircraft, and cutting links one after the other. A connection is dead where some
-- aircraft may use it and none that may can go on over it. Of the aircraft that were asked both parts are kept: whether
-- one may use it, and that none goes on. One that goes on ends the question. From a Cut nothing follows that did not follow before, so what was shut
-- stays shut while links are cut.
use Rattle.std.proofs.lemmas.List.Elements.{Contains-push}
use Rattle.tail_book.specs.Numbers.{contains}
use Rattle.connection_net.specs.inside.Laws.{RowsAreTheirPlaces, SuccessorsAreLinks}
use Rattle.connection_net.specs.Net.{net_of, successors_in}
use Rattle.std.proofs.Common.{◌≡◌, ◌∙◌, ℕ, ℤ, ◌<◌, ◌≤◌, ◌+◌, inl, inr, Bool, true, false, List, [], ◌∷◌, ◌++◌, length, get_or, sym, ap, subst, arith, below_more, Option, None}
use Rattle.std.proofs.lemmas.List.{get_or_default, ext_get_or}
use Rattle.std.proofs.lemmas.Bool.{both_ways, cases_lt}
use Rattle.tail_book.specs.Seen.{BookSeen}
use Rattle.tail_book.specs.declared.place.Place.TheVariants.{After}
use Rattle.tail_book.specs.Lookup.{aircraft}
use Rattle.branch_marks.specs.declared.fact.Fact.{Fact}
use Rattle.branch_marks.specs.declared.fact.Fact.TheVariants.{Bar, Must, Cut, Tie}
use Rattle.branch_marks.specs.Marks.{IsUsable}
use Rattle.branch_marks.specs.MarkTests.{is_alive}
use Rattle.branch_marks.specs.inside.MarkTests.{AliveDecides}
use Rattle.branch_marks.specs.MarksSeen.{MarksSeen}
use Rattle.branch_marks.specs.inside.MarkTables.{AreMarksOf}
use Rattle.branch_marks.specs.Floors.{floors, FloorsCount}
use Rattle.branch_marks.specs.Following.{CannotGoBy, IsDeadConnection, IsShutForFloors}
use Rattle.floor_rows.specs.inside.FloorRow.{FloorRowSeen, floor_in}
use Rattle.propagator.specs.inside.Rows.{no_row}
use Rattle.propagator.specs.InTurn.{GrowInTurn}
use Rattle.floor_rows.specs.inside.AskedLinks.{AreAsked}
use Rattle.floor_rows.specs.inside.LeastOver.{floor_of}
use Rattle.propagator.specs.inside.OneMore.{CutsTakeNoFloor}
use Rattle.propagator.specs.inside.Cutting.{AreFloorsOf, NothingNewFollows}
use Rattle.propagator.proofs.InTurn.{grow_both}

-- the row of an aircraft has its floors
pub row_floor : (book : BookSeen) (marks : List Fact) (rows : List FloorRowSeen) (k a : ℕ) (row : FloorRowSeen) → AreFloorsOf book marks rows → k < aircraft book
    → k < length rows → row ≡ get_or rows k row → floor_in row a ≡ floor_of book marks k a
row_floor book marks rows k a row are lt within is =
    ap (λ (r : FloorRowSeen). floor_in r a) (is ∙ get_or_default rows k row no_row within)
    ∙ ap (λ (listed : List (Option (List ℤ))). get_or listed a None) (are k lt)

-- one more aircraft is asked: where one may use the link already, only whether it goes on
pub asked_still : (book : BookSeen) (marks : List Fact) (a b n : ℕ) (used now : Bool) → AreAsked book marks a b n used
    → (IsUsable book marks n (After a) b → CannotGoBy book n a b (floor_of book marks n a)) → used ≡ true → now ≡ true → AreAsked book marks a b (n + 1) now
asked_still book marks a b n used now asked cannot was e = record {
  some = λ _. asked.some was;
  none = λ off. absurd (both_ways now off e);
  dead = below_more (λ (k : ℕ). IsUsable book marks k (After a) b → CannotGoBy book k a b (floor_of book marks k a)) n asked.dead cannot;
}

-- and else whether it may use the link too
pub asked_now : (book : BookSeen) (marks : List Fact) (a b n : ℕ) (used now may : Bool) → AreAsked book marks a b n used → n < aircraft book
    → (IsUsable book marks n (After a) b → CannotGoBy book n a b (floor_of book marks n a)) → used ≡ false
    → (may ≡ true → IsUsable book marks n (After a) b) → (IsUsable book marks n (After a) b → may ≡ true) → now ≡ may → AreAsked book marks a b (n + 1) now
asked_now book marks a b n used now may asked lt cannot not link test e = record {
  some = λ on. (n, lt, link (sym e ∙ on));
  none = λ off. below_more (λ (k : ℕ). ¬ IsUsable book marks k (After a) b) n (asked.none not) (λ usable. both_ways may (sym e ∙ off) (test usable));
  dead = below_more (λ (k : ℕ). IsUsable book marks k (After a) b → CannotGoBy book k a b (floor_of book marks k a)) n asked.dead cannot;
}

-- those from n to m are not alive at a, so none of them may use the link
module _ (alive : AliveDecides) (book : BookSeen) (marks : List Fact) (a b n m : ℕ) (gap : (k : ℕ) → n ≤ k → k < m → is_alive book marks k a ≡ false) where
  not_there : (k : ℕ) → n ≤ k → k < m → ¬ IsUsable book marks k (After a) b
  not_there k le lt link = both_ways (is_alive book marks k a) (gap k le lt) ((alive book marks k a).1 link.before)

  pub unused_on : ((k : ℕ) → k < n → ¬ IsUsable book marks k (After a) b) → (k : ℕ) → k < m → ¬ IsUsable book marks k (After a) b
  unused_on none k lt = elim (cases_lt k n) [
    | inl before ↦ none k before
    | inr from ↦ not_there k (omega (arith, from)) lt
  ]

pub nothing_itself : (book : BookSeen) (marks : List Fact) → NothingNewFollows book marks marks
nothing_itself book marks fact f = f

-- what is shut for floors stays so where nothing new follows
pub shut_kept : (book : BookSeen) (old new : List Fact) → IsShutForFloors book old → NothingNewFollows book old new → IsShutForFloors book new
shut_kept book old new shut nothing (Bar k a) of f = shut (Bar k a) of (nothing (Bar k a) f)
shut_kept book old new shut nothing (Must k a) of f = f
shut_kept book old new shut nothing (Cut a b) of f = f
shut_kept book old new shut nothing (Tie a b) of f = f

-- a Cut that follows leaves the rows right
pub cut_floors : CutsTakeNoFloor → FloorsCount → (book : BookSeen) (marks : List Fact) (c d : ℕ) (rows : List FloorRowSeen) → IsDeadConnection book marks c d
    → AreFloorsOf book marks rows → AreFloorsOf book (marks ++ Cut c d ∷ []) rows
cut_floors take count book marks c d rows dead are k lt =
    let more = count book (marks ++ Cut c d ∷ []) k in
    let same = count book marks k in
    are k lt ∙ sym (ext_get_or None (floors book (marks ++ Cut c d ∷ []) k) (floors book marks k) (omega (arith, more, same))
    (λ i less. take book marks c d dead k i (omega (arith, more, less))))

-- a connection that is cut is not dead any more: it is there
pub cut_once : (book : BookSeen) (marks : List Fact) (c d : ℕ) → ¬ IsDeadConnection book (marks ++ Cut c d ∷ []) c d
cut_once book marks c d dead = dead.new (Contains-push marks (Cut c d))

-- links have been cut, from old marks to new ones
pub record AreCut (book : BookSeen) (old new : MarksSeen) (listed listing : List Fact) (rows : List FloorRowSeen) : Type 0 where
  pub marks : AreMarksOf book new
  pub grows : GrowInTurn book old.facts new.facts listed listing
  pub floors : AreFloorsOf book new.facts rows
  pub nothing : NothingNewFollows book old.facts new.facts

pub cut_more : (book : BookSeen) (a b c : MarksSeen) (l m o : List Fact) (rows : List FloorRowSeen) → AreCut book a b l m rows → AreMarksOf book c
    → GrowInTurn book b.facts c.facts m o → AreFloorsOf book c.facts rows → NothingNewFollows book b.facts c.facts → AreCut book a c l o rows
cut_more book a b c l m o rows so_far marks grows floors nothing = record {
  marks = marks;
  grows = grow_both book a.facts b.facts c.facts l m o so_far.grows grows;
  floors = floors;
  nothing = λ fact f. so_far.nothing fact (nothing fact f);
}

-- what is not dead stays so
pub never_new : (book : BookSeen) (old new : List Fact) (a b : ℕ) → NothingNewFollows book old new → ¬ IsDeadConnection book old a b → ¬ IsDeadConnection book new a b
never_new book old new a b nothing not dead = not (nothing (Cut a b) dead)

-- where no successor is dead to come to, no connection is
pub none_dead : RowsAreTheirPlaces → SuccessorsAreLinks → (book : BookSeen) (marks : List Fact) (a : ℕ) (items : List ℕ) → items ≡ successors_in (net_of book) a
    → ((i : ℕ) → i < length items → ¬ IsDeadConnection book marks a (get_or items i 0)) → (b : ℕ) → ¬ IsDeadConnection book marks a b
none_dead places links book marks a items are none b dead =
    let (k, lt, link) = dead.usable in
    let (i, within, e) = places.stands items b (ap (λ (xs : List ℕ). contains xs b) are ∙ (links book a b).1 (k, lt, link.link)) in
    none i within (subst (λ (z : ℕ). IsDeadConnection book marks a z) (sym e) dead)
