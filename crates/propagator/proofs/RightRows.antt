-- What a new fact leaves of an aircraft's row. A floor depends on the links that come to its activity and on the floors behind
-- them; whether an activity is dead, on its floor, on the links that go from it and on whether the aircraft may end there. So
-- only where one of these changes is a floor due, or an activity to be asked again.
use Rattle.std.specs.Prelude.{◌≢◌, nat_eq}
use Rattle.std.proofs.Common.{◌≡◌, ◌∙◌, ℕ, ℤ, ◌<◌, Bool, true, false, inl, inr, List, [], ◌∷◌, refl, sym, ap, subst, Option, None, Some}
use Rattle.std.proofs.lemmas.Bool.{both_ways, false_from_ne_true, eq-eqb, or_left}
use Rattle.std.proofs.lemmas.Bool.Decides.{eqb_tells}
use Rattle.tail_book.specs.Seen.{BookSeen}
use Rattle.tail_book.specs.declared.place.Place.TheVariants.{Carry, After}
use Rattle.tail_book.specs.Lookup.{activities, carry_of}
use Rattle.tail_book.specs.Numbers.{contains}
use Rattle.connection_net.specs.inside.Laws.{PredecessorsAreLinks, SuccessorsAreLinks}
use Rattle.connection_net.specs.Net.{net_of, predecessors_in, successors_in}
use Rattle.branch_marks.specs.declared.fact.Fact.{Fact}
use Rattle.branch_marks.specs.MarkTests.{is_usable, may_end}
use Rattle.branch_marks.specs.inside.MarkTests.{UsableDecides, MayEndDecides}
use Rattle.branch_marks.specs.Floors.{stepped_floor}
use Rattle.branch_marks.specs.Following.{IsDeadBy}
use Rattle.floor_rows.specs.inside.FloorRow.{FloorRowSeen, floor_in, IsSetAt}
use Rattle.floor_rows.specs.inside.LeastOver.{brought, least_at, BroughtTells}
use Rattle.propagator.specs.inside.SameFor.{SameFor}
use Rattle.propagator.specs.inside.Touching.{is_set, AreSetToo, IsTouched}
use Rattle.propagator.proofs.MoreMarks.{same_brings}

-- where the links from the carry-in are as usable as before, and the same is brought, the least is the same
pub least_kept : BroughtTells → (book : BookSeen) (old new : List Fact) (k b : ℕ) (f g : ℕ → Option (List ℤ)) → is_usable book new k Carry b ≡ is_usable book old k Carry b
    → ((x : ℕ) → x < b → brought book new k b g x ≡ brought book old k b f x) → least_at book new k g b ≡ least_at book old k f b
least_kept tells book old new k b f g first each = tells.same book old new k b f g (same_brings book old new k Carry b (Some (carry_of book k)) first) each

-- a usable link is one of the network
pub no_successor : SuccessorsAreLinks → UsableDecides → (book : BookSeen) (marks : List Fact) (k a b : ℕ) → contains (successors_in (net_of book) a) b ≡ false
    → is_usable book marks k (After a) b ≡ false
no_successor links usable book marks k a b out = false_from_ne_true (is_usable book marks k (After a) b) (λ t.
    let link = (usable book marks k (After a) b).0 t in
    both_ways (contains (successors_in (net_of book) a) b) out ((links book a b).1 (k, link.after.allowed.aircraft, link.link)))

pub no_predecessor : PredecessorsAreLinks → UsableDecides → (book : BookSeen) (marks : List Fact) (k a b : ℕ) → contains (predecessors_in (net_of book) b) a ≡ false
    → is_usable book marks k (After a) b ≡ false
no_predecessor links usable book marks k a b out = false_from_ne_true (is_usable book marks k (After a) b) (λ t.
    let link = (usable book marks k (After a) b).0 t in
    both_ways (contains (predecessors_in (net_of book) b) a) out ((links book a b).1 (k, link.after.allowed.aircraft, link.link)))

-- what is dead by its floor with fewer links was so before, where no link from it was lost, nor its end
pub dead_back : UsableDecides → MayEndDecides → (book : BookSeen) (old new : List Fact) (k a : ℕ) → may_end new k (After a) ≡ may_end old k (After a)
    → ((b : ℕ) → b < activities book → is_usable book old k (After a) b ≡ true → is_usable book new k (After a) b ≡ true)
    → (floor : Option (List ℤ)) → IsDeadBy book new k a floor → IsDeadBy book old k a floor
dead_back usable ends book old new k a end go None d = tt
dead_back usable ends book old new k a end go (Some low) d = (
  (λ may. d.0 ((ends new k (After a)).0 (end ∙ (ends old k (After a)).1 may))),
  (λ b lt link. d.1 b lt ((usable book new k (After a) b).0 (go b lt ((usable book old k (After a) b).1 link)))),
)

-- both rows have the same floor
on_floor : (book : BookSeen) (marks : List Fact) (k a : ℕ) (f g : Option (List ℤ)) → g ≡ f → IsDeadBy book marks k a g → IsDeadBy book marks k a f
on_floor book marks k a f g e d = subst (λ (floor : Option (List ℤ)). IsDeadBy book marks k a floor) e d

module _ (tells : BroughtTells) (usable : UsableDecides) (ends : MayEndDecides) (book : BookSeen) (k : ℕ) where
  -- marks that leave the aircraft the same leave its row as right as it was
  pub touched_same : (old new : List Fact) (row : FloorRowSeen) (due ask : List Bool) → SameFor book k old new → IsTouched book old k row due ask → IsTouched book new k row due ask
  touched_same old new row due ask same was = record {
    floors = λ b lt e. was.floors b lt e ∙ sym (least_kept tells book old new k b (floor_in row) (floor_in row) (same.usable Carry b)
        (λ x less. same_brings book old new k (After x) b (floor_in row x) (same.usable (After x) b)));
    asked = λ a lt e on d. was.asked a lt e (sym (same.alive a) ∙ on)
        (dead_back usable ends book old new k a (same.ends (After a)) (λ b less t. same.usable (After a) b ∙ t) (floor_in row a) d);
  }

  -- and so does another row with the same floors
  pub touched_row : (marks : List Fact) (row next : FloorRowSeen) (due ask : List Bool) → ((a : ℕ) → floor_in next a ≡ floor_in row a)
      → IsTouched book marks k row due ask → IsTouched book marks k next due ask
  touched_row marks row next due ask same was = record {
    floors = λ b lt e. same b ∙ was.floors b lt e ∙ sym (least_kept tells book marks marks k b (floor_in row) (floor_in next) refl
        (λ x less. ap (λ (f : Option (List ℤ)). stepped_floor book marks k (After x) b f) (same x)));
    asked = λ a lt e on d. was.asked a lt e on (on_floor book marks k a (floor_in row a) (floor_in next a) (same a) d);
  }

module _ (succ : SuccessorsAreLinks) (pred : PredecessorsAreLinks) (tells : BroughtTells) (usable : UsableDecides) (ends : MayEndDecides) (book : BookSeen) (k : ℕ) where
  -- one floor is another: those of its successors are due, and it is to be asked
  pub touched_floor : (marks : List Fact) (b : ℕ) (floor : Option (List ℤ)) (row next : FloorRowSeen) (due due' ask ask' : List Bool) → is_set due b ≡ true
      → IsSetAt b floor row next → AreSetToo (successors_in (net_of book) b) due due' → AreSetToo (b ∷ []) ask ask'
      → IsTouched book marks k row due ask → IsTouched book marks k next due' ask'
  touched_floor marks b floor row next due due' ask ask' on set more also was = record {
    floors = λ a lt e.
        let (e', out) = more a e in
        let apart : a ≢ b = λ same. both_ways (is_set due a) e' (ap (λ (z : ℕ). is_set due z) same ∙ on) in
        set.others a apart ∙ was.floors a lt e' ∙ sym (least_kept tells book marks marks k a (floor_in row) (floor_in next) refl (λ x less. same_from a x out));
    asked = λ a lt e alive d.
        let (e', out) = also a e in
        was.asked a lt e' alive (on_floor book marks k a (floor_in row a) (floor_in next a) (set.others a (apart_from a b out)) d);
  }
    where
      apart_from : (x c : ℕ) → contains (c ∷ []) x ≡ false → x ≢ c
      apart_from x c out same = both_ways (contains (c ∷ []) x) out (or_left (nat_eq x c) false (eq-eqb x c same))

      same_from : (a x : ℕ) → contains (successors_in (net_of book) b) a ≡ false → brought book marks k a (floor_in next) x ≡ brought book marks k a (floor_in row) x
      same_from a x out = elim (eqb_tells x b) [
        | inl here ↦ (
            let none = no_successor succ usable book marks k b a out in
            let none' : is_usable book marks k (After x) a ≡ false = ap (λ (z : ℕ). is_usable book marks k (After z) a) here.1 ∙ none in
            tells.unusable book marks k (After x) a (floor_in next x) none' ∙ sym (tells.unusable book marks k (After x) a (floor_in row x) none'))
        | inr other ↦ ap (λ (f : Option (List ℤ)). stepped_floor book marks k (After x) a f) (set.others x other.1)
      ]
