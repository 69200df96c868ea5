use Rattle.std.proofs.Common.{◌≡◌, map, drop}
use Rattle.std.specs.List.{list_any}
use Rattle.std.specs.Str.{bytes_eq}
use Rattle.fleet_rules.proofs.toml_values.is_listed.Given as goal

-- the listed keys that are left decide
abbrev pub invariant-loop-other : goal.invariant-loop-other
invariant-loop-other l = list_any (bytes_eq l.key) (map (λ key. key.now) l.listed)
    ≡ list_any (bytes_eq l.key) (map (λ key. key.now) (drop l.other-index l.listed))
