use Rattle.std.proofs.Common.{◌≡◌, ◌∙◌, ℤ, [], ◌∷◌, ◌++◌, rules, ap, subst, to_z, of_z}
use Rattle.std.proofs.lemmas.Int.{to_z-of_z}
use Rattle.std.specs.Int.{w64}
use Rattle.pricing.specs.declared.priced.Priced.{Priced}
use Rattle.fee_pricing.specs.Price.{IsFeePriceOf}
use Rattle.quota_node.proofs.FirstPriced.{with_one_more}
use Rattle.quota_node.proofs.fee_prices.price_one.Goals as goal

-- the least weight of aircraft k, and its route, come behind those before it
pub returns-in_ok-push-in-Best-2-clause-more : goal.returns-in_ok-push-in-Best-2-clause-more
returns-in_ok-push-in-Best-2-clause-more c =
    let table = c.args.table.now in let book = c.args.book.now in let quotas = c.args.quotas.now in
    let facts = c.args.marks.now.facts in let duals = c.args.duals.now.values in let fees = c.args.fees.now.values in let k = c.args.k in
    let found = subst (λ (p : Priced). IsFeePriceOf table book quotas facts k duals fees p) c.in-Best.is c.in_ok-priced.ensures.price in
    let value : to_z w64 (of_z w64 c.in-Best.value) ≡ c.in-Best.value = to_z-of_z w64 c.in-Best.value (search rules) in
    let values = c.args.values.now.items in let new_values = c.push.new.self.items in
    let routes = c.args.routes.now.items in let new_routes = c.push-in-Best.new.self.items in
    let values_are : new_values ≡ values ++ c.in-Best.value ∷ [] =
    c.in_ok-push-in-Best.ensures.items ∙ ap (λ (z : ℤ). values ++ z ∷ []) value in
    with_one_more table book quotas facts duals fees k values new_values routes new_routes c.in-Best.value c.in-Best.route c.requires.before
    values_are c.in_ok-push-in-Best-2.ensures.items found.0 found.1
