-- Where marks leave an aircraft the same links, its floors are built from the same parts, and so is what is dead for it.
use Rattle.std.specs.Prelude.{◌&&◌, ◌||◌, not, nat_le, ◌≢◌}
use Rattle.std.proofs.Common.{◌≡◌, ◌∙◌, ℕ, zero, suc, ℤ, ◌+◌, Bool, true, false, List, [], ◌∷◌, ◌++◌, refl, sym, ap, subst, get_or, Option, None, Some}
use Rattle.std.proofs.lemmas.Bool.{ne_eqb}
use Rattle.tail_book.specs.Seen.{BookSeen}
use Rattle.tail_book.specs.declared.place.Place.{Place}
use Rattle.tail_book.specs.declared.place.Place.TheVariants.{Carry, After}
use Rattle.tail_book.specs.Lookup.{activities, carry_of}
use Rattle.branch_marks.specs.declared.fact.Fact.{Fact}
use Rattle.branch_marks.specs.declared.fact.Fact.TheVariants.{Bar, Must}
use Rattle.branch_marks.specs.MarkTests.{is_alive, is_before, lets_go, lets_end}
use Rattle.branch_marks.specs.inside.MarkTests.{AliveDecides, UsableDecides, MayEndDecides}
use Rattle.branch_marks.specs.Floors.{lesser_floor, stepped_floor, least_from, floor_by, floors_below, floors, floor_at}
use Rattle.branch_marks.specs.Following.{IsDeadBy, IsDead}
use Rattle.propagator.specs.inside.SameFor.{SameFor}
use Rattle.propagator.proofs.MoreMarks.{alive_at_kept, usable_kept, end_kept, same_brings, others_alive, must_alive}

module _ (book : BookSeen) (k : ℕ) (old new : List Fact) (same : SameFor book k old new) where
  least_kept : (b x : ℕ) (listed : List (Option (List ℤ))) → least_from book new k b x listed ≡ least_from book old k b x listed
  least_kept b x [] = refl
  least_kept b x (floor ∷ listed) =
      ap (λ (one : Option (List ℤ)). lesser_floor one (least_from book new k b (x + 1) listed)) (same_brings book old new k (After x) b floor (same.usable (After x) b))
      ∙ ap (λ (rest : Option (List ℤ)). lesser_floor (stepped_floor book old k (After x) b floor) rest) (least_kept b (x + 1) listed)

  floor_kept : (b : ℕ) (before : List (Option (List ℤ))) → floor_by book new k b before ≡ floor_by book old k b before
  floor_kept b before =
      ap (λ (one : Option (List ℤ)). lesser_floor one (least_from book new k b 0 before)) (same_brings book old new k Carry b (Some (carry_of book k)) (same.usable Carry b))
      ∙ ap (λ (rest : Option (List ℤ)). lesser_floor (stepped_floor book old k Carry b (Some (carry_of book k))) rest) (least_kept b 0 before)

  floors_kept : (n : ℕ) → floors_below book new k n ≡ floors_below book old k n
  floors_kept zero = refl
  floors_kept (suc n) =
      ap (λ (before : List (Option (List ℤ))). before ++ floor_by book new k n before ∷ []) (floors_kept n)
      ∙ ap (λ (floor : Option (List ℤ)). floors_below book old k n ++ floor ∷ []) (floor_kept n (floors_below book old k n))

  pub all_floors_kept : floors book new k ≡ floors book old k
  all_floors_kept = floors_kept (activities book)

  module _ (alive : AliveDecides) (usable : UsableDecides) (ends : MayEndDecides) where
    dead_by_kept : (a : ℕ) (floor : Option (List ℤ)) → IsDeadBy book new k a floor → IsDeadBy book old k a floor
    dead_by_kept a None d = tt
    dead_by_kept a (Some low) d = (
      (λ may. d.0 ((ends new k (After a)).0 (same.ends (After a) ∙ (ends old k (After a)).1 may))),
      (λ b lt step. d.1 b lt ((usable book new k (After a) b).0 (same.usable (After a) b ∙ (usable book old k (After a) b).1 step))),
    )

    pub dead_kept : (a : ℕ) → IsDead book new k a → IsDead book old k a
    dead_kept a d = record {
      of_book = d.of_book;
      alive = (alive book old k a).0 (sym (same.alive a) ∙ (alive book new k a).1 d.alive);
      dead = dead_by_kept a (floor_at book old k (After a))
          (subst (λ (listed : List (Option (List ℤ))). IsDeadBy book new k a (get_or listed a None)) all_floors_kept d.dead);
    }

-- a fact that lets an aircraft go everywhere, and lets it end everywhere, leaves it the same where all stays alive
left_same : (book : BookSeen) (marks : List Fact) (fact : Fact) (k : ℕ)
    → ((a : ℕ) → is_alive book (marks ++ fact ∷ []) k a ≡ is_alive book marks k a)
    → ((x : Place) (b : ℕ) → lets_go k x b fact ≡ true) → ((x : Place) → lets_end k x fact ≡ true)
    → SameFor book k marks (marks ++ fact ∷ [])
left_same book marks fact k alive go end = record {
  alive = alive;
  usable = λ x b. usable_kept book marks fact k x b (alive_at_kept book marks fact k alive x) (alive b) (go x b);
  ends = λ x. end_kept book marks fact k x (end x);
}

pub bar_leaves : (book : BookSeen) (marks : List Fact) (k a j : ℕ) → j ≢ k → SameFor book j marks (marks ++ Bar k a ∷ [])
bar_leaves book marks k a j ne = left_same book marks (Bar k a) j (λ c. others_alive book marks k a j c ne) (λ x b. refl) (λ x. refl)

pub must_leaves : (book : BookSeen) (marks : List Fact) (k a j : ℕ) → j ≢ k → is_alive book marks j a ≡ false → SameFor book j marks (marks ++ Must k a ∷ [])
must_leaves book marks k a j ne dead = left_same book marks (Must k a) j (λ c. must_alive book marks k a j c ne dead)
    (λ x b. ap (λ (t : Bool). not (t && is_before x a) || nat_le b a) (ne_eqb k j (λ e. ne (sym e))))
    (λ x. ap (λ (t : Bool). not (t && is_before x a)) (ne_eqb k j (λ e. ne (sym e))))
