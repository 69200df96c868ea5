-- What a node leaves of the open branches: it only adds facts to the marks, and each branch behind begins with a front of those that were
-- there before.
use Rattle.std.proofs.Common.{◌≡◌, ◌∙◌, true, List, ◌∷◌, ◌++◌, reverse, sym, ap, subst}
use Rattle.std.specs.Prelude.{Bool, if◌then◌else◌}
use Rattle.tail_book.specs.Seen.{BookSeen}
use Rattle.branch_marks.specs.declared.fact.Fact.{Fact}
use Rattle.branch_marks.specs.inside.MarkTables.{AreMarksOf}
use Rattle.open_branches.specs.declared.branches.Branches.{Branches}
use Rattle.open_branches.specs.declared.branches.Owed.{Owed}
use Rattle.open_branches.specs.Branches.{AreBehind, AreBranchesOf, behind_of, owed_behind, owed_of}
use Rattle.open_branches.proofs.BranchLists.{behind_more, owed_more}

-- a node that is owed comes first
pub here_first : (branches : Branches) → branches.owes ≡ true → owed_of branches ≡ branches.marks.facts ∷ behind_of branches
here_first branches owes = ap (λ (owed : Bool). if owed then branches.marks.facts ∷ behind_of branches else behind_of branches) owes

module _ (book : BookSeen) (before after : Branches) (added : List Fact) (kept : AreBranchesOf book before)
    (grown : after.marks.facts ≡ before.marks.facts ++ added) (owed : after.behind.items ≡ before.behind.items) where
  pub same_behind : behind_of after ≡ behind_of before
  same_behind =
      ap (λ (z : List Owed). owed_behind after.marks.facts (reverse z)) owed
      ∙ ap (λ (z : List Fact). owed_behind z (reverse before.behind.items)) grown
      ∙ owed_more book before.marks.facts added (reverse before.behind.items) kept.behind

  pub still_open : AreMarksOf book after.marks → AreBranchesOf book after
  still_open marks = record {
    marks = marks;
    behind = subst (λ (z : List Owed). AreBehind book after.marks.facts (reverse z)) (sym owed)
        (subst (λ (z : List Fact). AreBehind book z (reverse before.behind.items)) (sym grown)
        (behind_more book before.marks.facts added (reverse before.behind.items) kept.behind));
  }
