-- Going over the floors of an aircraft in order. What is kept: the floors below b are those of the marks, and the rest
-- of the row is right but where flags say that it may not be. A floor that is not due is the least of what comes from
-- the floors below it, which are right, and so it is right too. One that is due is made anew: where it comes out as it
-- was, nothing else is touched, and where it is another one, its successors become due, which lie ahead. At the end all
-- floors are those of the marks, and what is dead is flagged.
use Rattle.std.specs.Prelude.{◌≢◌}
use Rattle.std.proofs.Common.{◌≡◌, ◌≤◌, ◌∙◌, ℕ, ℤ, ◌<◌, ◌+◌, Bool, true, false, inl, inr, arith, List, [], ◌∷◌, refl, sym, ap, subst, below_more, Option, None}
use Rattle.std.proofs.lemmas.Bool.{true_from_ne_false}
use Rattle.std.proofs.lemmas.Bool.Decides.{eqb_tells}
use Rattle.std.proofs.lemmas.List.{ext_get_or}
use Rattle.tail_book.specs.Seen.{BookSeen}
use Rattle.tail_book.specs.declared.place.Place.TheVariants.{After}
use Rattle.tail_book.specs.Lookup.{activities}
use Rattle.connection_net.specs.inside.Laws.{PredecessorsAreLinks, SuccessorsAreLinks}
use Rattle.connection_net.specs.Net.{net_of, successors_in}
use Rattle.branch_marks.specs.declared.fact.Fact.{Fact}
use Rattle.branch_marks.specs.inside.MarkTests.{AliveDecides, UsableDecides, MayEndDecides}
use Rattle.branch_marks.specs.Floors.{stepped_floor, floors, FloorsCount}
use Rattle.branch_marks.specs.Following.{IsDeadBy}
use Rattle.floor_rows.specs.inside.FloorRow.{FloorRowSeen, floor_in, IsSetAt, IsRowOf}
use Rattle.floor_rows.specs.inside.LeastOver.{floor_of, FloorsAreLeast, BroughtTells}
use Rattle.propagator.specs.inside.Touching.{is_set, AreSetToo, IsRenewing, IsAskedBelow}
use Rattle.propagator.proofs.RightRows.{least_kept, touched_row, touched_floor}

module _ (book : BookSeen) (marks : List Fact) (k b : ℕ) where
  set_room : (floor : Option (List ℤ)) (row next : FloorRowSeen) → IsSetAt b floor row next → IsRowOf book row → IsRowOf book next
  set_room floor row next set room = record { width = set.width ∙ room.width; count = set.count ∙ room.count }

  set_below : (row next : FloorRowSeen) → IsSetAt b (floor_of book marks k b) row next → ((a : ℕ) → a < b → floor_in row a ≡ floor_of book marks k a)
      → (a : ℕ) → a < b + 1 → floor_in next a ≡ floor_of book marks k a
  set_below row next set below = below_more (λ (a : ℕ). floor_in next a ≡ floor_of book marks k a) b
      (λ a lt. let apart : a ≢ b = omega (arith, lt) in set.others a apart ∙ below a lt) set.here

  -- a floor that is not due is right, since those before it are
  pub renew_not : BroughtTells → FloorsAreLeast → (row : FloorRowSeen) (due ask : List Bool) → b < activities book → is_set due b ≡ false
      → IsRenewing book marks k b row due ask → IsRenewing book marks k (b + 1) row due ask
  renew_not tells least row due ask lt off so_far = record {
    room = so_far.room;
    below = below_more (λ (a : ℕ). floor_in row a ≡ floor_of book marks k a) b so_far.below
        (so_far.touched.floors b lt off
        ∙ least_kept tells book marks marks k b (floor_of book marks k) (floor_in row) refl
        (λ x less. ap (λ (f : Option (List ℤ)). stepped_floor book marks k (After x) b f) (so_far.below x less))
        ∙ sym (least book marks k b lt));
    touched = so_far.touched;
  }

  -- one that comes out as it was leaves the rest
  pub renew_same : BroughtTells → UsableDecides → MayEndDecides → (row next : FloorRowSeen) (due ask : List Bool) → IsSetAt b (floor_of book marks k b) row next
      → floor_in next b ≡ floor_in row b → IsRenewing book marks k b row due ask → IsRenewing book marks k (b + 1) next due ask
  renew_same tells usable ends row next due ask set same so_far = record {
    room = set_room (floor_of book marks k b) row next set so_far.room;
    below = set_below row next set so_far.below;
    touched = touched_row tells usable ends book k marks row next due ask (λ a. each a) so_far.touched;
  }
    where
      each : (a : ℕ) → floor_in next a ≡ floor_in row a
      each a = elim (eqb_tells a b) [
        | inl here ↦ (ap (λ (z : ℕ). floor_in next z) here.1 ∙ same ∙ sym (ap (λ (z : ℕ). floor_in row z) here.1))
        | inr other ↦ set.others a other.1
      ]

  -- one that is another touches its successors
  pub renew_other : BroughtTells → SuccessorsAreLinks → PredecessorsAreLinks → UsableDecides → MayEndDecides → (row next : FloorRowSeen) (due due' ask ask' : List Bool)
      → is_set due b ≡ true → IsSetAt b (floor_of book marks k b) row next → AreSetToo (successors_in (net_of book) b) due due' → AreSetToo (b ∷ []) ask ask'
      → IsRenewing book marks k b row due ask → IsRenewing book marks k (b + 1) next due' ask'
  renew_other tells succ pred usable ends row next due due' ask ask' on set more also so_far = record {
    room = set_room (floor_of book marks k b) row next set so_far.room;
    below = set_below row next set so_far.below;
    touched = touched_floor succ pred tells usable ends book k marks b (floor_of book marks k b) row next due due' ask ask' on set more also so_far.touched;
  }

-- at the end the row has all floors, and what is dead is to be asked
pub renewed_floors : FloorsCount → (book : BookSeen) (marks : List Fact) (k n : ℕ) (row : FloorRowSeen) (due ask : List Bool) → activities book ≤ n
    → IsRenewing book marks k n row due ask → row.floors ≡ floors book marks k
renewed_floors count book marks k n row due ask all so_far =
    let these = count book marks k in
    let room = so_far.room.count in
    ext_get_or None row.floors (floors book marks k) (omega (arith, these, room)) (λ i lt. so_far.below i (omega (arith, lt, all, room)))

pub renewed_asked : AliveDecides → (book : BookSeen) (marks : List Fact) (k n : ℕ) (row : FloorRowSeen) (due ask : List Bool) → activities book ≤ n
    → IsRenewing book marks k n row due ask → IsAskedBelow book marks k (activities book) ask
renewed_asked alive book marks k n row due ask all so_far a dead =
    let lt = dead.of_book.1 in (
      true_from_ne_false (is_set ask a) (λ off. so_far.touched.asked a lt off ((alive book marks k a).1 dead.alive)
          (subst (λ (floor : Option (List ℤ)). IsDeadBy book marks k a floor) (sym (so_far.below a (omega (arith, lt, all)))) dead.dead)),
      lt,
    )
