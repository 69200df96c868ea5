use Rattle.std.proofs.Common.{◌∙◌, ℕ, List, [], ap, length}
use Rattle.std.proofs.lemmas.List.{length-replicate}
use Rattle.label_store.specs.Seen.{StoreSeen}
use Rattle.fee_pricing.specs.inside.ForAsked.{arc_for}
use Rattle.fee_pricing.proofs.Prices.{spelled}
use Rattle.fee_pricing.proofs.fee_pricer.fill_from_empty.Goals as goal

-- all buckets are done
pub returns-clause-closed : goal.returns-clause-closed
returns-clause-closed c =
    let empty : List ℕ = [] in
    let nodes = c.in_ok-fill_all.ensures.wide.nodes ∙ ap (λ (s : StoreSeen). length s.buckets) c.clear.ensures
    ∙ length-replicate (length c.args.store.now.buckets) empty ∙ c.requires.nodes in
    c.filled_stores_are_closed.ensures (arc_for c.args.asked.now) c.args.asked.now.book.now c.args.asked.now.marks.now.facts c.args.asked.now.k c.fill_all.new.store
    c.every_book_is_sound.ensures c.every_store_is_sound.ensures nodes c.in_ok-fill_all.ensures.state.truths c.in_ok-fill_all.ensures.filled

-- what each row's links add up to is its weight with fees
pub returns-clause-spelled : goal.returns-clause-spelled
returns-clause-spelled c =
    spelled c.fee_weight_is_by_arcs.ensures c.args.asked.now.table.now c.args.asked.now.book.now c.args.asked.now.quotas.now c.args.asked.now.marks.now.facts
    c.args.asked.now.k c.args.asked.now.duals.now.values c.args.asked.now.fees.now.values c.fill_all.new.store c.in_ok-fill_all.ensures.state.truths
