use Rattle.node_leaves.proofs.covers.family_of.Goals as goal

-- a line spells each label
pub list_labels-requires-clause-labels : goal.list_labels-requires-clause-labels
list_labels-requires-clause-labels c =
    c.priced_labels_are_spelled.ensures c.args.table.now c.args.book.now c.every_book_is_sound.ensures c.every_cost_table_is_sound.ensures c.requires.ready.pricer.costs
    c.args.marks.now.facts c.args.k c.args.duals.now.values c.fill.new.self.store c.requires.aircraft c.requires.duals c.every_store_is_sound.ensures c.in_ok-fill.ensures.labels

-- their family shows what every route weighs at least
pub returns-clause-shows : goal.returns-clause-shows
returns-clause-shows c =
    let table = c.args.table.now in let book = c.args.book.now in let facts = c.args.marks.now.facts in let duals = c.args.duals.now.values in let store = c.fill.new.self.store in
    λ low least. record {
      family = c.priced_families_are_shown.ensures table book facts c.args.k duals store c.every_store_is_sound.ensures c.in_ok-fill.ensures.labels;
      ends = c.priced_ends_are_low.ensures table book facts c.args.k duals store low c.every_store_is_sound.ensures c.in_ok-fill.ensures.labels least;
    }
