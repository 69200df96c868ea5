use Rattle.std.proofs.Common.{◌≡◌, ◌∙◌, ◌<◌, false, List, [], ◌∷◌, ◌++◌, length, get_or, rules, sym, ap, subst}
use Rattle.std.proofs.lemmas.List.{take_more}
use Rattle.std.proofs.lemmas.List.Elements.{All-get_or}
use Rattle.branch_marks.specs.declared.fact.Fact.{Fact}
use Rattle.branch_marks.specs.declared.fact.Fact.TheVariants.{Bar}
use Rattle.branch_marks.specs.Facts.{IsFactOf}
use Rattle.branch_marks.specs.FactTests.{has_fact}
use Rattle.best_first.proofs.PlaceFacts.{once_at}
use Rattle.best_first.proofs.placing.go_to.Goals as goal

pub add_new-requires-clause-fact : goal.add_new-requires-clause-fact
add_new-requires-clause-fact c =
    let less : c.loop-i.i < length c.args.facts.now = search rules in
    All-get_or (IsFactOf c.args.book.now) c.args.facts.now c.loop-i.i (Bar 0 0) less c.requires.of_book

-- it is new behind those before it
pub add_new-requires-clause-new : goal.add_new-requires-clause-new
add_new-requires-clause-new c =
    let less : c.loop-i.i < length c.args.facts.now = search rules in
    subst (λ (m : List Fact). has_fact m (get_or c.args.facts.now c.loop-i.i (Bar 0 0)) ≡ false) (sym c.loop-i.invariant.facts)
    (once_at c.args.facts.now (Bar 0 0) c.loop-i.i less c.requires.once)

pub loop-i-preserved : goal.loop-i-preserved
loop-i-preserved c =
    let less : c.loop-i.i < length c.args.facts.now = search rules in
    record {
      facts = c.in_ok-add_new.ensures.facts ∙ ap (λ (m : List Fact). m ++ get_or c.args.facts.now c.loop-i.i (Bar 0 0) ∷ []) c.loop-i.invariant.facts
          ∙ sym (take_more c.args.facts.now c.loop-i.i (Bar 0 0) less);
      marks = c.add_new.ensures.marks;
    }
