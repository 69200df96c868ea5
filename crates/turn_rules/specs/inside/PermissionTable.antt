-- Who may fly what, as a table: a row for each aircraft, one behind the other.
use Rattle.std.specs.Prelude.{ℕ, ◌+◌, ◌*◌, ◌<◌, ◌≡◌, List, Bool, false, length, map, slice_index_or}
use Rattle.std.specs.List.{range_with_len}
use Rattle.tail_book.specs.Seen.{BookSeen}
use Rattle.tail_book.specs.Lookup.{activities, aircraft}
use Rattle.tail_book.specs.LegalTests.{is_allowed}
use Rattle.turn_rules.specs.declared.permission_table.PermissionTable.{PermissionTable}

-- whether aircraft k may fly each activity, in the book's order
abbrev pub allowed_to : BookSeen → ℕ → List Bool
allowed_to book k = map (is_allowed book k) (range_with_len 0 (activities book))

-- the table says of each aircraft and each activity of the book whether it may fly it
pub record ArePermissionsOf (book : BookSeen) (table : PermissionTable) : Type 0 where
  pub width : table.n ≡ activities book
  pub entries : length table.allowed.items ≡ activities book * aircraft book
  pub each : (k a : ℕ) → k < aircraft book → a < activities book → slice_index_or table.allowed.items (k * table.n + a) false ≡ is_allowed book k a
