-- What a step on a node leaves of the open places: it only adds facts to the marks, and the marks of each branch behind begin with a
-- front of those that were there before.
use Rattle.std.proofs.Common.{◌≡◌, ◌∙◌, true, List, ◌∷◌, ◌++◌, length, reverse, sym, ap, subst}
use Rattle.std.specs.Prelude.{Bool, if◌then◌else◌}
use Rattle.tail_book.specs.Seen.{BookSeen}
use Rattle.tail_book.specs.TableSeen.{DualsSeen}
use Rattle.branch_marks.specs.declared.fact.Fact.{Fact}
use Rattle.branch_marks.specs.inside.MarkTables.{AreMarksOf}
use Rattle.open_branches.specs.declared.branches.Owed.{Owed}
use Rattle.open_branches.specs.Branches.{AreBehind, behind_of, owed_behind}
use Rattle.open_branches.proofs.BranchLists.{behind_more, owed_more}
use Rattle.branch_tree.specs.declared.open_places.OpenPlaces.{OpenPlaces}
use Rattle.branch_tree.specs.inside.OpenPlaces.{AreOpenPlaces, place_here, places_behind, places_of, places_with}

-- a place that is owed comes first
pub here_first : (places : OpenPlaces) → places.branches.owes ≡ true → places_of places ≡ place_here places ∷ places_behind places
here_first places owes = ap (λ (owed : Bool). if owed then place_here places ∷ places_behind places else places_behind places) owes

-- where going on to a place changes none, it is the first of those before
pub first_before : (before after : OpenPlaces) → places_of after ≡ places_of before → after.branches.owes ≡ true
    → places_of before ≡ place_here after ∷ places_behind after
first_before before after same owes = sym same ∙ here_first after owes

module _ (book : BookSeen) (before after : OpenPlaces) (added : List Fact) (kept : AreOpenPlaces book before)
    (grown : after.branches.marks.facts ≡ before.branches.marks.facts ++ added) (owed : after.branches.behind.items ≡ before.branches.behind.items)
    (under : after.behind.items ≡ before.behind.items) where
  same_branches : behind_of after.branches ≡ behind_of before.branches
  same_branches =
      ap (λ (z : List Owed). owed_behind after.branches.marks.facts (reverse z)) owed
      ∙ ap (λ (z : List Fact). owed_behind z (reverse before.branches.behind.items)) grown
      ∙ owed_more book before.branches.marks.facts added (reverse before.branches.behind.items) kept.branches.behind

  pub same_behind : places_behind after ≡ places_behind before
  same_behind =
      ap (λ (z : List (List Fact)). places_with z (reverse after.behind.items)) same_branches
      ∙ ap (λ (z : List DualsSeen). places_with (behind_of before.branches) (reverse z)) under

  pub still_open : AreMarksOf book after.branches.marks → AreOpenPlaces book after
  still_open marks = record {
    branches = record {
      marks = marks;
      behind = subst (λ (z : List Owed). AreBehind book after.branches.marks.facts (reverse z)) (sym owed)
          (subst (λ (z : List Fact). AreBehind book z (reverse before.branches.behind.items)) (sym grown)
          (behind_more book before.branches.marks.facts added (reverse before.branches.behind.items) kept.branches.behind));
    };
    count = ap (λ (z : List DualsSeen). length z) under ∙ kept.count ∙ sym (ap (λ (z : List (List Fact)). length z) same_branches);
  }
