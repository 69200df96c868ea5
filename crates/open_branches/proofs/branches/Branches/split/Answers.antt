use Rattle.std.proofs.Common.{◌≡◌, ◌∷◌, List, [], sym, subst}
use Rattle.std.specs.Prelude.{◌++◌, reverse}
use Rattle.branch_marks.specs.declared.fact.Fact.{Fact}
use Rattle.std.proofs.Common.{length, rules, refl}
use Rattle.branch_marks.specs.Branches.{first_branch, second_branch}
use Rattle.open_branches.specs.declared.branches.Owed.{Owed}
use Rattle.open_branches.specs.Branches.{AreBehind}
use Rattle.open_branches.proofs.BranchLists.{split_behind}
use Rattle.open_branches.proofs.branches.Branches.split.Goals as goal

-- the second branch begins with the marks before the first one
pub returns-clause-branches : goal.returns-clause-branches
returns-clause-branches c =
    let book = c.args.book.now in
    let facts = c.args.self.now.marks.facts in
    let items = c.args.self.now.behind.items in
    let first = first_branch c.args.pair in
    let new = c.branches_are_new.ensures book facts c.args.pair c.requires.undecided in
    let is : c.add_new.new.marks.facts ≡ facts ++ first ∷ [] = search rules in
    let owed : Owed = record { count = length facts; fact = second_branch c.args.pair } in
    let put : c.push.new.self.items ≡ items ++ owed ∷ [] = search rules in
    record {
      marks = c.in_ok-add_new.ensures.marks;
      behind = subst (λ (z : List Fact). AreBehind book z (reverse c.push.new.self.items)) (sym is)
          (subst (λ (z : List Owed). AreBehind book (facts ++ first ∷ []) (reverse z)) (sym put)
          (split_behind book facts items first owed refl new.second_of_book new.second_new c.requires.branches.behind));
    }
