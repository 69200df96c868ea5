use Rattle.std.proofs.Common.{◌≡◌, map, string_bytes}
use Rattle.std.specs.List.{list_all, list_any}
use Rattle.std.specs.Str.{bytes_eq}
use Rattle.toml.specs.View.{table_view}
use Rattle.fleet_rules.specs.TomlValues.{has_only}
use Rattle.fleet_rules.proofs.toml_values.has_only.Given as goal

-- the keys that are left decide
abbrev pub invariant-loop-key : goal.invariant-loop-key
invariant-loop-key l = has_only (map (λ key. key.now) l.listed) (table_view l.fn.table)
    ≡ list_all (λ key. list_any (bytes_eq (string_bytes key)) (map (λ key. key.now) l.listed)) l.key-iterator
