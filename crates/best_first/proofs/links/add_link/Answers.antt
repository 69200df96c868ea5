use Rattle.std.proofs.Common.{◌≡◌, [], ◌∷◌, ◌++◌, List, length, rules, sym, subst, ap, ◌∙◌}
use Rattle.best_first.specs.declared.links.Link.{Link}
use Rattle.best_first.specs.inside.Links.{IsLinked}
use Rattle.best_first.proofs.FactChains.{linked_one}
use Rattle.best_first.proofs.links.add_link.Goals as goal

-- the fact is the last one
pub returns : goal.returns
returns c =
    let old = c.args.links.now.items in let new = c.push.new.self.items in
    let items : new ≡ old ++ record { fact = c.args.fact; before = c.args.end } ∷ [] = search rules in
    let last : c.len.result ≡ length new = search rules in
    subst (λ (l : List Link). IsLinked old l c.args.end (c.args.fact ∷ []) c.len.result) (sym items)
    (linked_one old c.args.end c.args.fact c.requires.links c.requires.end c.len.result (last ∙ ap (λ (l : List Link). length l) items))
