use Rattle.std.proofs.Common.{◌∙◌, List, sym, subst}
use Rattle.std.specs.Prelude.{All}
use Rattle.branch_marks.specs.declared.fact.Fact.{Fact}
use Rattle.branch_marks.specs.Facts.{IsFactOf}
use Rattle.branch_marks.specs.inside.Once.{AreOnce}
use Rattle.best_first.proofs.SlotsTold.{last_of_book, last_once}
use Rattle.best_first.proofs.node_telling.go_to_node.Goals as goal

-- its facts are those of its place and steps that follow there
pub go_to-requires-clause-once : goal.go_to-requires-clause-once
go_to-requires-clause-once c =
    let same = c.deref.ensures.value ∙ c.in_ok-facts.ensures in
    subst AreOnce (sym same)
    (last_once c.requires.slot.0 c.args.book.now 0 c.args.links.now c.args.slot.now c.args.kept.now c.requires.kept c.requires.slot.1
    c.has_fact_decides.ensures c.following_facts_are_new.ensures c.following_facts_are_of_book.ensures)

pub go_to-requires-clause-of_book : goal.go_to-requires-clause-of_book
go_to-requires-clause-of_book c =
    let same = c.deref.ensures.value ∙ c.in_ok-facts.ensures in
    subst (λ (m : List Fact). All (IsFactOf c.args.book.now) m) (sym same)
    (last_of_book c.requires.slot.0 c.args.book.now 0 c.args.links.now c.args.slot.now c.args.kept.now c.requires.kept c.requires.slot.1
    c.has_fact_decides.ensures c.following_facts_are_new.ensures c.following_facts_are_of_book.ensures)
