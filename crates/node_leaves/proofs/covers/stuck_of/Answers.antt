use Rattle.std.proofs.Common.{List, ℤ, subst, sym}
use Rattle.branch_marks.specs.ProofTree.{zero_duals}
use Rattle.branch_marks.specs.Settled.{AreDuals}
use Rattle.node_leaves.specs.inside.PricedStore.{IsPricedStore}
use Rattle.node_leaves.proofs.covers.stuck_of.Goals as goal

-- a line spells each label
pub list_labels-requires-clause-labels : goal.list_labels-requires-clause-labels
list_labels-requires-clause-labels c =
    let zeros = subst (λ (us : List ℤ). AreDuals c.args.table.now c.args.book.now us) (sym c.requires.zeros) (c.zeros_are_duals.ensures c.args.table.now c.args.book.now) in
    c.priced_labels_are_spelled.ensures c.args.table.now c.args.book.now c.every_book_is_sound.ensures c.every_cost_table_is_sound.ensures c.requires.ready.pricer.costs
    c.args.marks.now.facts c.args.k c.args.zeros.now.values c.fill.new.self.store c.requires.aircraft zeros c.every_store_is_sound.ensures c.in_ok-fill.ensures.labels

-- the family of the labels has no end
pub returns-clause-shown : goal.returns-clause-shown
returns-clause-shown c =
    let table = c.args.table.now in let book = c.args.book.now in let facts = c.args.marks.now.facts in let k = c.args.k in let store = c.fill.new.self.store in
    let priced = subst (λ (us : List ℤ). IsPricedStore table book facts k us store) c.requires.zeros c.in_ok-fill.ensures.labels in
    record {
      aircraft = c.requires.aircraft;
      shown = c.priced_families_are_shown.ensures table book facts k (zero_duals book) store c.every_store_is_sound.ensures priced;
      endless = c.stuck_have_no_end.ensures table book facts k (zero_duals book) store c.every_store_is_sound.ensures priced c.requires.stuck;
    }
