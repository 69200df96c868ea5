use Rattle.std.proofs.Common.{◌≡◌, ◌∙◌, ◌∷◌, List, [], sym, subst, ap, take}
use Rattle.std.specs.Prelude.{◌++◌, reverse}
use Rattle.branch_marks.specs.declared.fact.Fact.{Fact}
use Rattle.std.proofs.Common.{rules, Bool}
use Rattle.std.specs.Prelude.{if◌then◌else◌}
use Rattle.open_branches.specs.Branches.{AreBehind, behind_of, owed_behind}
use Rattle.open_branches.proofs.BranchLists.{next_is}
use Rattle.open_branches.proofs.branches.Branches.next.Goals as goal

-- the marks of the next branch are made of a front of those that were here
pub returns-clause-branches : goal.returns-clause-branches
returns-clause-branches c =
    let book = c.args.book.now in
    let facts = c.args.self.now.marks.facts in
    let items = c.args.self.now.behind.items in
    let owed = c.in-Some.owed in
    let popped : items ≡ c.pop.new.self.items ++ owed ∷ [] = search rules in
    let next = next_is book facts c.pop.new.self.items items owed popped c.requires.behind in
    let is : c.add_new.new.marks.facts ≡ take owed.count facts ++ owed.fact ∷ [] = search rules in
    record {
      marks = c.in_ok-add_new.ensures.marks;
      behind = subst (λ (z : List Fact). AreBehind book z (reverse c.pop.new.self.items)) (sym is) next.behind;
    }

pub returns-clause-owed : goal.returns-clause-owed
returns-clause-owed c =
    let book = c.args.book.now in
    let facts = c.args.self.now.marks.facts in
    let items = c.args.self.now.behind.items in
    let owed = c.in-Some.owed in
    let popped : items ≡ c.pop.new.self.items ++ owed ∷ [] = search rules in
    let next = next_is book facts c.pop.new.self.items items owed popped c.requires.behind in
    let is : c.add_new.new.marks.facts ≡ take owed.count facts ++ owed.fact ∷ [] = search rules in
    ap (λ (z : List Fact). z ∷ owed_behind z (reverse c.pop.new.self.items)) is ∙ sym next.owed_is
    ∙ sym (ap (λ (owes : Bool). if owes then facts ∷ behind_of c.args.self.now else behind_of c.args.self.now) c.if-self.false)
