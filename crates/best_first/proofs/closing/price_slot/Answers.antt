use Rattle.std.proofs.Common.{◌≡◌, [], ◌∷◌, rules}
use Rattle.branch_tree.proofs.Stopping.{stops_first}
use Rattle.best_first.specs.inside.Links.{facts_at}
use Rattle.best_first.proofs.SlotsTold.{priced_told}
use Rattle.best_first.proofs.closing.price_slot.Goals as goal

-- nothing was told
pub returns-then-is_err-clause-stopped : goal.returns-then-is_err-clause-stopped
returns-then-is_err-clause-stopped g c = λ here opened at. stops_first c.args.table.now c.args.book.now (g.L.TreeLog.shows c.args.log.now) (here.place ∷ [])

-- the leaf of its place
pub returns-clause-told : goal.returns-clause-told
returns-clause-told g c =
    let same : c.go_to_slot.new.marks.facts ≡ facts_at c.args.links.now c.args.slot.now.end = search rules in
    priced_told c.args.table.now c.args.book.now c.args.target c.args.links.now c.args.slot.now c.requires.none c.requires.slot c.args.low c.lower.result
    c.in-Ok.priced (g.L.TreeLog.shows c.args.log.now) (g.L.TreeLog.shows c.price_leaf.new.log) c.lower.ensures c.go_to_slot.new.marks.facts same
    c.in-Ok.ensures.priced
