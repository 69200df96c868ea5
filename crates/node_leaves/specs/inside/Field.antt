-- What passes look for routes in: tables, network and marks are of the book. For src/passes.rt and src/lightest.rt.
use Rattle.std.specs.Prelude.{◌≡◌}
use Rattle.tail_book.specs.CostTable.{IsTableFor}
use Rattle.connection_net.specs.Net.{net_of}
use Rattle.branch_marks.specs.inside.MarkTables.{AreMarksOf}
use Rattle.node_leaves.specs.declared.lightest.Field.{Field}

-- table, network and marks are of the book
pub record IsField (field : Field) : Type 0 where
  pub table : IsTableFor field.book.now field.table.now
  pub net : field.net.now ≡ net_of field.book.now
  pub marks : AreMarksOf field.book.now field.marks.now
