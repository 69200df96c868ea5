use Rattle.tail_book.proofs.TableBounds.{bands_most}
use Rattle.tail_book.proofs.cost_table.CostTable.connection_cost.Goals as goal

pub returns-clause-most : goal.returns-clause-most
returns-clause-most c =
    rw (c.band_cost.ensures.value, c.deref.ensures.value, ← c.self.view_is) (bands_most c.self.inside.bands.items c.self.inside.band_max c.self.invariant.bands _)
