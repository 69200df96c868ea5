use Rattle.std.proofs.Common.{◌∙◌, List, sym, subst}
use Rattle.std.specs.Prelude.{All}
use Rattle.branch_marks.specs.declared.fact.Fact.{Fact}
use Rattle.branch_marks.specs.Facts.{IsFactOf}
use Rattle.branch_marks.specs.inside.Once.{AreOnce}
use Rattle.best_first.proofs.SlotPlaces.{slot_of_book, slot_once}
use Rattle.best_first.proofs.placing.go_to_slot.Goals as goal

pub facts_to-requires-clause-end : goal.facts_to-requires-clause-end
facts_to-requires-clause-end c = c.requires.slot.1.2.within

-- the facts of its place
pub go_to-requires-clause-once : goal.go_to-requires-clause-once
go_to-requires-clause-once c =
    let same = c.deref.ensures.value ∙ c.in_ok-facts.ensures in
    subst AreOnce (sym same) (slot_once c.requires.slot.0 c.args.book.now c.args.links.now c.args.slot.now c.requires.slot.1)

pub go_to-requires-clause-of_book : goal.go_to-requires-clause-of_book
go_to-requires-clause-of_book c =
    let same = c.deref.ensures.value ∙ c.in_ok-facts.ensures in
    subst (λ (m : List Fact). All (IsFactOf c.args.book.now) m) (sym same)
    (slot_of_book c.requires.slot.0 c.args.book.now c.args.links.now c.args.slot.now c.requires.slot.1)
