-- An arrival is dead where there is no floor, or where the aircraft may neither end there nor go on from the floor.
use Rattle.std.specs.Prelude.{IsTrue, not, is_some}
use Rattle.std.proofs.Common.{◌≡◌, ◌∙◌, ℕ, ℤ, ◌<◌, Bool, true, false, List, refl, sym, ap, subst, Option, None, Some}
use Rattle.std.proofs.lemmas.Bool.{both_ways, false_from_ne_true}
use Rattle.tail_book.specs.Seen.{BookSeen}
use Rattle.tail_book.specs.declared.place.Place.TheVariants.{After}
use Rattle.tail_book.specs.Lookup.{activities, aircraft}
use Rattle.branch_marks.specs.declared.fact.Fact.{Fact}
use Rattle.branch_marks.specs.Marks.{IsAlive, MayEnd}
use Rattle.branch_marks.specs.Following.{IsDeadBy, IsDead}
use Rattle.floor_rows.specs.inside.LeastOver.{floor_of}
use Rattle.floor_rows.specs.inside.Neighbours.{goes_on_from, SuccessorsTell}

pub none_of : (floor : Option (List ℤ)) → is_some floor ≡ false → floor ≡ None
none_of None e = refl
none_of (Some values) e = absurd (both_ways true e refl)

-- what is alive and has no floor is dead
pub dead_arrival : (book : BookSeen) (marks : List Fact) (k a : ℕ) → k < aircraft book → a < activities book → IsAlive book marks k a
    → is_some (floor_of book marks k a) ≡ false → IsDead book marks k a
dead_arrival book marks k a hk ha alive none = record {
  of_book = (hk, ha);
  alive = alive;
  dead = subst (λ (floor : Option (List ℤ)). IsDeadBy book marks k a floor) (sym (none_of (floor_of book marks k a) none)) tt;
}

not_true : (g : Bool) → IsTrue (not g) → g ≡ false
not_true true h = sym h
not_true false h = refl

true_not : (g : Bool) → g ≡ false → IsTrue (not g)
true_not g e = ap not e

-- what is alive, has a floor and may not end is dead exactly where nothing goes on
pub end_tells : (book : BookSeen) (marks : List Fact) (k a : ℕ) → k < aircraft book → a < activities book → IsAlive book marks k a → ¬ MayEnd marks k (After a)
    → (floor : Option (List ℤ)) → floor_of book marks k a ≡ floor → is_some floor ≡ true → ((low : List ℤ) → SuccessorsTell book marks k a low)
    → (g : Bool) → ((low : List ℤ) → floor_of book marks k a ≡ Some low → g ≡ goes_on_from book marks k a low)
    → (IsTrue (not g) → IsDead book marks k a) × (IsDead book marks k a → IsTrue (not g))
end_tells book marks k a hk ha alive stays None e some tell g goes = absurd (both_ways false refl some)
end_tells book marks k a hk ha alive stays (Some low) e some tell g goes = (
  (λ h. record {
    of_book = (hk, ha);
    alive = alive;
    dead = subst (λ (floor : Option (List ℤ)). IsDeadBy book marks k a floor) (sym e) (stays, (tell low).none (sym (goes low e) ∙ not_true g h));
  }),
  (λ d. true_not g (goes low e ∙ false_from_ne_true (goes_on_from book marks k a low)
      (λ t. (tell low).goes t (subst (λ (floor : Option (List ℤ)). IsDeadBy book marks k a floor) e d.dead).1))),
)
