use Rattle.std.proofs.Common.{map, sym}
use Rattle.std.specs.List.{list_any}
use Rattle.std.specs.Str.{bytes_eq}
use Rattle.fleet_rules.proofs.TomlLemmas.{list_all-keys}
use Rattle.fleet_rules.proofs.toml_values.has_only.Goals as goal

-- at first all keys are left
pub loop-key-init : goal.loop-key-init
loop-key-init c =
    rw (c.into_iter-key-iterator.ensures.into_iter_gives, c.keys-key-items.ensures.rest)
    (sym (list_all-keys (λ key. list_any (bytes_eq key) (map (λ key. key.now) c.args.listed.now)) c.args.table.now.entries))
