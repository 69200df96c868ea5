use Rattle.fee_pricing.proofs.arc.links_are_fair.Goals as goal

pub returns : goal.returns
returns c =
    let asked = c.args.asked.now in
    c.fee_arcs_are_fair.ensures asked.table.now asked.book.now asked.quotas.now asked.k asked.duals.now.values asked.fees.now.values
    c.every_book_is_sound.ensures c.every_cost_table_is_sound.ensures c.requires.table c.requires.duals c.requires.few c.requires.fees
