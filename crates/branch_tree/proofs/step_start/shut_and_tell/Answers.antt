use Rattle.std.proofs.Common.{arith, ◌≡◌, ◌∙◌, List, ◌++◌, sym, ap, subst}
use Rattle.std.specs.Prelude.{All}
use Rattle.branch_marks.specs.declared.fact.Fact.{Fact}
use Rattle.branch_marks.specs.Events.{IsLineFact}
use Rattle.branch_tree.proofs.LineFacts.{line_facts}
use Rattle.branch_tree.proofs.step_start.shut_and_tell.Goals as goal

-- what was added follows, so a line spells it
pub note_steps-requires : goal.note_steps-requires
note_steps-requires g c =
    let sound = c.every_book_is_sound.ensures in
    let grows = c.close.ensures.grows in
    let is : c.deref.result.now ≡ grows.added =
    c.deref.ensures.value ∙ grows.list ∙ ap (λ (facts : List Fact). facts ++ grows.added) c.new-steps.ensures.items in
    subst (λ (facts : List Fact). All IsLineFact facts) (sym is)
    (line_facts c.following_facts_are_of_book.ensures c.args.book.now (omega (arith, sound.few_activities)) (omega (arith, sound.few_tails)) c.args.marks.now.facts grows.added grows.follow)
