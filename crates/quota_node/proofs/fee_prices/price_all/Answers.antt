use Rattle.std.proofs.Common.{◌≡◌, Bool, true, rules, subst, refl, arith, length}
use Rattle.tail_book.specs.Seen.{BookSeen}
use Rattle.tail_book.specs.Lookup.{aircraft}
use Rattle.quota_node.specs.inside.FeePrices.{PricesOneMore}
use Rattle.quota_node.proofs.FirstPriced.{all_attained, all_least}
use Rattle.quota_node.proofs.fee_prices.price_all.Goals as goal

-- one aircraft more
pub loop-k-preserved : goal.loop-k-preserved
loop-k-preserved c =
    let table = c.args.table.now in let book = c.args.book.now in let quotas = c.args.quotas.now in
    let facts = c.args.marks.now.facts in let duals = c.args.duals.now.values in let fees = c.args.fees.now.values in let k = c.loop-k.k in
    let is : c.in_ok-found.found ≡ true = search rules in
    record {
      priced = subst (λ (b : Bool). PricesOneMore table book quotas facts duals fees k c.price_one.new.values.items c.price_one.new.routes.items b) is
          c.in_ok-found.ensures.more;
      tools = search rules;
    }

-- all aircraft are priced
pub returns-clause-priced : goal.returns-clause-priced
returns-clause-priced c =
    let table = c.args.table.now in let book = c.args.book.now in let quotas = c.args.quotas.now in
    let facts = c.args.marks.now.facts in let duals = c.args.duals.now.values in let fees = c.args.fees.now.values in
    let priced = c.loop-k.invariant.priced in
    let tails : length c.book.inside.tails.items ≡ aircraft c.args.book.now =
    subst (λ (b : BookSeen). length c.book.inside.tails.items ≡ aircraft b) c.book.view_is refl in
    let all : c.loop-k.k ≡ aircraft c.args.book.now = omega (arith, tails, priced.count) in
    record {
      least = all_least table book quotas facts duals fees c.loop-k.k c.loop-k.values.items c.loop-k.routes.items priced all;
      attained = all_attained table book quotas facts duals fees c.loop-k.k c.loop-k.values.items c.loop-k.routes.items priced all;
      sum = search rules;
    }
