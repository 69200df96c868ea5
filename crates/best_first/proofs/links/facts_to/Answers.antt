use Rattle.std.proofs.Common.{◌≡◌, ◌∙◌, ◌≤◌, ◌<◌, ◌-◌, ℕ, suc, List, [], ◌∷◌, ◌++◌, length, reverse, rules, sym, ap, append_assoc, arith}
use Rattle.std.proofs.lemmas.List.{reverse-append}
use Rattle.branch_marks.specs.declared.fact.Fact.{Fact}
use Rattle.best_first.specs.inside.Links.{link_at, facts_at}
use Rattle.best_first.proofs.FactChains.{facts_end, facts_none}
use Rattle.best_first.proofs.links.facts_to.Goals as goal

-- one fact more is read
pub back-preserved : goal.back-preserved
back-preserved c =
    let links = c.args.links.now in let i = c.back.at - 1 in let read = c.back.facts.items in
    let link = link_at links i in
    let some : 0 < c.back.at = search rules in
    let same : c.back.at ≡ suc i = omega (arith, some) in
    let less : i < length links = omega (arith, some, c.back.invariant.within) in
    let behind : link.before ≤ i = c.requires.links i less in
    let step : facts_at links c.back.at ≡ facts_at links link.before ++ link.fact ∷ [] = ap (λ (e : ℕ). facts_at links e) same ∙ facts_end links i behind in
    let items : c.push.new.self.items ≡ read ++ link.fact ∷ [] = search rules in
    let turned : reverse c.push.new.self.items ≡ link.fact ∷ reverse read =
    ap (λ (fs : List Fact). reverse fs) items ∙ reverse-append read (link.fact ∷ []) in
    record {
      within = omega (arith, behind, less);
      facts = c.back.invariant.facts ∙ ap (λ (fs : List Fact). fs ++ reverse read) step ∙ append_assoc (facts_at links link.before) (link.fact ∷ []) (reverse read)
          ∙ ap (λ (fs : List Fact). facts_at links link.before ++ fs) (sym turned);
    }

-- all are read
pub returns : goal.returns
returns c =
    let links = c.args.links.now in let read = c.back.facts.items in
    let none : c.back.at ≡ 0 = omega arith in
    let turned : c.reverse.new.self.items ≡ reverse read = search rules in
    turned ∙ sym (c.back.invariant.facts ∙ ap (λ (e : ℕ). facts_at links e ++ reverse read) none ∙ ap (λ (fs : List Fact). fs ++ reverse read) (facts_none links))
