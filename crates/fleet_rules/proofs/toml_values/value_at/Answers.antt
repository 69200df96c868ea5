use Rattle.toml.proofs.Views.{table_get}
use Rattle.fleet_rules.proofs.toml_values.value_at.Goals as goal

-- the map finds what its members hold
pub returns : goal.returns
returns c = table_get c.get.result c.args.key.now c.args.table.now.entries c.get.ensures.value
