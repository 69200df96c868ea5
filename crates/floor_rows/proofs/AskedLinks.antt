-- Who is not alive at the first activity of a link may not use it, so what is known of those below n is known of those up to
-- the next one that is alive.
use Rattle.std.proofs.Common.{◌≡◌, ℕ, ◌<◌, ◌≤◌, false, inl, inr, Bool, List, refl, arith}
use Rattle.std.proofs.lemmas.Bool.{both_ways, cases_order}
use Rattle.tail_book.specs.Seen.{BookSeen}
use Rattle.tail_book.specs.declared.place.Place.TheVariants.{After}
use Rattle.branch_marks.specs.declared.fact.Fact.{Fact}
use Rattle.branch_marks.specs.Marks.{IsUsable}
use Rattle.branch_marks.specs.MarkTests.{is_alive}
use Rattle.branch_marks.specs.inside.MarkTests.{AliveDecides}
use Rattle.floor_rows.specs.inside.AskedLinks.{AreAsked}

module _ (alive : AliveDecides) (book : BookSeen) (marks : List Fact) (a b n m : ℕ) (gap : (k : ℕ) → n ≤ k → k < m → is_alive book marks k a ≡ false) where
  not_there : (k : ℕ) → n ≤ k → k < m → ¬ IsUsable book marks k (After a) b
  not_there k le lt link = both_ways (is_alive book marks k a) (gap k le lt) ((alive book marks k a).1 link.before)

  pub asked_on : (used : Bool) → AreAsked book marks a b n used → AreAsked book marks a b m used
  asked_on used asked = record {
    some = asked.some;
    none = λ off k lt. elim (cases_order k n) [
      | inl same ↦ not_there k (omega (arith, same)) lt
      | inr o ↦ elim o [
        | inl less ↦ asked.none off k less
        | inr more ↦ not_there k (omega (arith, more)) lt
      ]
    ];
    dead = λ k lt link. elim (cases_order k n) [
      | inl same ↦ absurd (not_there k (omega (arith, same)) lt link)
      | inr o ↦ elim o [
        | inl less ↦ asked.dead k less link
        | inr more ↦ absurd (not_there k (omega (arith, more)) lt link)
      ]
    ];
  }

pub asked_none : (book : BookSeen) (marks : List Fact) (a b : ℕ) → AreAsked book marks a b 0 false
asked_none book marks a b = record {
  some = λ on. absurd (both_ways false refl on);
  none = λ _ k lt. absurd (omega (arith, lt));
  dead = λ k lt. absurd (omega (arith, lt));
}
