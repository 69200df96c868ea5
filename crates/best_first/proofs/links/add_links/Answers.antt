use Rattle.std.proofs.Common.{◌<◌, [], ◌∷◌, List, length, rules, sym, subst, take, get_or}
use Rattle.std.proofs.lemmas.List.{take_more}
use Rattle.branch_marks.specs.declared.fact.Fact.{Fact}
use Rattle.branch_marks.specs.declared.fact.Fact.TheVariants.{Bar}
use Rattle.best_first.specs.inside.Links.{IsLinked}
use Rattle.best_first.proofs.FactChains.{linked_none, linked_then}
use Rattle.best_first.proofs.links.add_links.Goals as goal

-- none was added
pub loop-i-init : goal.loop-i-init
loop-i-init c = linked_none c.args.links.now.items c.args.end c.requires.links c.requires.end

pub add_link-requires-clause-links : goal.add_link-requires-clause-links
add_link-requires-clause-links c = c.loop-i.invariant.links

pub add_link-requires-clause-end : goal.add_link-requires-clause-end
add_link-requires-clause-end c = c.loop-i.invariant.within

-- one fact more
pub loop-i-preserved : goal.loop-i-preserved
loop-i-preserved c =
    let facts = c.args.facts.now in let i = c.loop-i.i in
    let less : i < length facts = search rules in
    subst (λ (fs : List Fact). IsLinked c.args.links.now.items c.add_link.new.links.items c.args.end fs c.in_ok-last.last) (sym (take_more facts i (Bar 0 0) less))
    (linked_then c.args.links.now.items c.loop-i.links.items c.add_link.new.links.items c.args.end c.loop-i.last c.in_ok-last.last (take i facts)
    (get_or facts i (Bar 0 0) ∷ []) c.loop-i.invariant c.in_ok-last.ensures)
