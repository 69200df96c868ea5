use Rattle.std.proofs.Common.{◌≡◌, map, drop}
use Rattle.std.specs.List.{AllPass}
use Rattle.toml.specs.View.{view}
use Rattle.tail_book.specs.Name.{is_name}
use Rattle.tail_text.specs.Checks.{look_each}
use Rattle.tail_text.specs.inside.Joined.{joined}
use Rattle.fleet_rules.specs.TomlValues.{name_of_value}
use Rattle.fleet_rules.proofs.toml_values.names_among.Given as goal

-- the names so far stand before what the values give that are left
abbrev pub invariant-loop-value : goal.invariant-loop-value
invariant-loop-value l = AllPass is_name l.names.items
    × (look_each name_of_value (map view l.values) ≡ joined l.names.items (look_each name_of_value (map view (drop l.value-index l.values))))
