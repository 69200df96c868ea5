use Rattle.std.proofs.Common.{rules, ◌≡◌, ℤ, List, [], subst, sym, w64, to_z, of_z}
use Rattle.tail_book.specs.TableSeen.{CostTableSeen}
use Rattle.branch_marks.specs.declared.fact.Fact.{Fact}
use Rattle.branch_marks.specs.Settled.{AreDuals}
use Rattle.pricing.specs.Price.{IsPriceOf}
use Rattle.pricing.specs.declared.priced.Priced.{Priced}
use Rattle.pricing.specs.declared.priced.Priced.TheVariants as priced
use Rattle.plan_shortage.specs.Shortage.{IsMost, surplus}
use Rattle.plan_shortage.specs.inside.Pricing.{costless}
use Rattle.plan_shortage.proofs.Weighed.{duals_in_box, lightest_has_most, never_stuck}
use Rattle.plan_shortage.proofs.surplus_pricer.SurplusPricer.most.Goals as goal

pub price-requires-clause-duals : goal.price-requires-clause-duals
price-requires-clause-duals c =
    let book = c.args.book.now in
    subst (λ (t : CostTableSeen). AreDuals t book c.args.duals.now.values) (sym c.requires.kept.table)
    (subst (λ (duals : List ℤ). AreDuals (costless book) book duals) (sym c.requires.duals) (duals_in_box book c.args.asked.now c.args.brought.now))

-- the route weighs least, with no mark and where nothing costs anything
pub returns-in-Best-clause-most : goal.returns-in-Best-clause-most
returns-in-Best-clause-most c =
    let book = c.args.book.now in let k = c.args.k in let asked = c.args.asked.now in let brought = c.args.brought.now in
    let found = subst (λ (p : Priced). IsPriceOf c.args.self.now.table book c.args.self.now.marks.facts k c.args.duals.now.values p) c.in-Best.is c.in_ok-priced.ensures.price in
    let by_table = subst (λ (t : CostTableSeen). IsPriceOf t book c.args.self.now.marks.facts k c.args.duals.now.values (priced.Best c.in-Best.value c.in-Best.route)) c.requires.kept.table found in
    let unmarked = subst (λ (facts : List Fact). IsPriceOf (costless book) book facts k c.args.duals.now.values (priced.Best c.in-Best.value c.in-Best.route)) c.requires.kept.facts by_table in
    let price = subst (λ (duals : List ℤ). IsPriceOf (costless book) book [] k duals (priced.Best c.in-Best.value c.in-Best.route)) c.requires.duals unmarked in
    let fits : to_z w64 (of_z w64 c.surplus.result) ≡ surplus asked brought c.in-Best.route = search rules in
    subst (IsMost book k asked brought) (sym fits) (lightest_has_most book k asked brought c.in-Best.value c.in-Best.route price.0 price.1)

-- no aircraft is stuck
pub returns-in-Stuck-clause-most : goal.returns-in-Stuck-clause-most
returns-in-Stuck-clause-most c =
    let book = c.args.book.now in let k = c.args.k in
    let found = subst (λ (p : Priced). IsPriceOf c.args.self.now.table book c.args.self.now.marks.facts k c.args.duals.now.values p) c.in-Stuck.is c.in_ok-priced.ensures.price in
    absurd (never_stuck book k (subst (λ (facts : List Fact). IsPriceOf c.args.self.now.table book facts k c.args.duals.now.values priced.Stuck) c.requires.kept.facts found))
