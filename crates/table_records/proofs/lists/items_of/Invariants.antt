use Rattle.std.proofs.Common.{length}
use Rattle.tail_text.specs.Parts.{parts_of, space}
use Rattle.table_records.proofs.ListLemmas.{AreRead}
use Rattle.table_records.proofs.lists.items_of.Given as goal

-- the parts so far are items, and the first of them are kept
abbrev pub invariant-loop-part : goal.invariant-loop-part
invariant-loop-part g l = AreRead g.T.Item.item_of g.T.Item.holds (parts_of space l.field) l.parts l.list.items l.too_many

abbrev pub decreases-loop-part : goal.decreases-loop-part
decreases-loop-part g l = length l.parts
