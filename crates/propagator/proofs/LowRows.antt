-- Rows whose floors are no higher than those of the marks. A row of fewer facts is one, since floors never fall while
-- marks grow; so is one that loses floors, and one whose floor at an activity becomes that of the marks. A floor that
-- is lowered step by step is the marks' own at the latest when it is again what it was in such a row.
use Rattle.std.proofs.Common.{◌≡◌, ◌∙◌, ◌++◌, ℕ, ℤ, ◌<◌, inl, inr, List, take, drop, get_or, sym, ap, subst, Option, None, Some}
use Rattle.std.proofs.lemmas.Bool.Decides.{eqb_tells}
use Rattle.std.proofs.lemmas.List.{take-append-drop}
use Rattle.tail_book.specs.Seen.{BookSeen}
use Rattle.tail_book.specs.Lookup.{aircraft}
use Rattle.tail_book.specs.CounterOrder.{EachAtMost}
use Rattle.tail_book.specs.inside.Order.{EachAtMostItself}
use Rattle.tail_book.specs.inside.Sound.{IsBook}
use Rattle.branch_marks.specs.declared.fact.Fact.{Fact}
use Rattle.branch_marks.specs.Floors.{floors}
use Rattle.floor_rows.specs.inside.FloorRow.{FloorRowSeen, floor_in, IsSetAt}
use Rattle.floor_rows.specs.inside.LeastOver.{floor_of}
use Rattle.propagator.specs.inside.Moves.{LosesFloors}
use Rattle.propagator.specs.inside.Rising.{FloorsRise, IsLowRow}

some_same : (low values : List ℤ) → Some low ≡ Some values → low ≡ values
some_same low values e = cc

module _ (book : BookSeen) (marks : List Fact) (k : ℕ) where
  -- floors of fewer facts are no higher
  pub front_low : FloorsRise → IsBook book → k < aircraft book → (row : FloorRowSeen) (n : ℕ) → row.floors ≡ floors book (take n marks) k → IsLowRow book marks k row
  front_low rise sound hk row n same b lt low values e e' =
      let all : floor_of book (take n marks ++ drop n marks) k b ≡ Some values
      = ap (λ (facts : List Fact). floor_of book facts k b) (take-append-drop n marks) ∙ e' in
      let (l, is, under) = rise book sound (take n marks) (drop n marks) k hk b lt values all in
      let here : low ≡ l = some_same low l (sym e ∙ ap (λ (listed : List (Option (List ℤ))). get_or listed b None) same ∙ is) in
      subst (λ (z : List ℤ). EachAtMost z values) (sym here) under

  pub losing_low : (row next : FloorRowSeen) → LosesFloors row next → IsLowRow book marks k row → IsLowRow book marks k next
  losing_low row next loses low b lt l values e e' = elim (loses b) [
    | inl same ↦ low b lt l values (sym same ∙ e) e'
    | inr none ↦ absurd (none_is_not (floor_in next b) none e)
  ]
    where
      none_is_not : (f : Option (List ℤ)) → f ≡ None → f ≡ Some l → ⊥
      none_is_not f is e = cc

  -- a floor that is right is not too high
  pub set_low : EachAtMostItself → (b : ℕ) (row next : FloorRowSeen) → IsSetAt b (floor_of book marks k b) row next → IsLowRow book marks k row → IsLowRow book marks k next
  set_low itself b row next set low a lt l values e e' = elim (eqb_tells a b) [
    | inl here ↦ (
        let made : floor_in next a ≡ floor_of book marks k a
        = ap (λ (z : ℕ). floor_in next z) here.1 ∙ set.here ∙ ap (λ (z : ℕ). floor_of book marks k z) (sym here.1) in
        let same : l ≡ values = some_same l values (sym e ∙ made ∙ e') in
        subst (λ (z : List ℤ). EachAtMost z values) (sym same) (itself values))
    | inr other ↦ low a lt l values (sym (set.others a other.1) ∙ e) e'
  ]
