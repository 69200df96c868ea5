-- A list of names in one field, at most 20 of them.
use Rattle.std.specs.Prelude.{ℕ, List, Result}
use Rattle.table_records.specs.Lists.{list_of}
use Rattle.table_records.specs.Values.{name_in}

-- the names of a field, with exactly one space between each two
abbrev pub names_of : List ℕ → Result (List (List ℕ)) ℕ
names_of field = list_of name_in field
