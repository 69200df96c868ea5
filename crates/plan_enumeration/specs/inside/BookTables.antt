-- What the enumeration asks of the book once: costs and permissions, which depend on no assignment.
use Rattle.std.specs.Prelude.{◌≡◌}
use Rattle.tail_book.specs.Seen.{BookSeen}
use Rattle.tail_book.specs.CostTable.{costs_of}
use Rattle.turn_rules.specs.inside.PermissionTable.{ArePermissionsOf}
use Rattle.plan_enumeration.specs.declared.book_tables.BookTables.{BookTables}

-- the book's own costs, and who may fly what in it
pub record AreTablesOf (book : BookSeen) (tables : BookTables) : Type 0 where
  pub costs : tables.costs ≡ costs_of book
  pub permissions : ArePermissionsOf book tables.permissions
