use Rattle.std.proofs.Common.{refl}
use Rattle.fleet_rules.proofs.TomlLemmas.{data_of-items_of}
use Rattle.fleet_rules.proofs.toml_values.values_of.Goals as goal

-- the array's values are those of its items
pub returns-in-Some : goal.returns-in-Some
returns-in-Some c = rw (← c.in-Some.ensures, data_of-items_of, c.as_slice.ensures.value) refl
