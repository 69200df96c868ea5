use Rattle.std.proofs.Common.{◌∙◌, ◌∷◌, List, [], sym, subst, ap}
use Rattle.std.specs.Prelude.{reverse}
use Rattle.branch_marks.specs.declared.fact.Fact.{Fact}
use Rattle.open_branches.specs.Branches.{AreBehind, owed_behind}
use Rattle.open_branches.proofs.BranchLists.{behind_more, owed_more}
use Rattle.open_branches.proofs.branches.Branches.add.Goals as goal

-- what is owed begins with a front of the marks, which stays
pub returns-clause-branches : goal.returns-clause-branches
returns-clause-branches c =
    let facts = c.args.self.now.marks.facts in
    let owed = reverse c.args.self.now.behind.items in
    let is = c.in_ok-add_new.ensures.facts in
    record {
      marks = c.in_ok-add_new.ensures.marks;
      behind = subst (λ (z : List Fact). AreBehind c.args.book.now z owed) (sym is) (behind_more c.args.book.now facts (c.args.fact ∷ []) owed c.requires.branches.behind);
    }

pub returns-clause-behind : goal.returns-clause-behind
returns-clause-behind c =
    let owed = reverse c.args.self.now.behind.items in
    ap (λ (z : List Fact). owed_behind z owed) c.in_ok-add_new.ensures.facts
    ∙ owed_more c.args.book.now c.args.self.now.marks.facts (c.args.fact ∷ []) owed c.requires.branches.behind
