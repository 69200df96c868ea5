-- The rules of a trial are read as they are written, computed by the definitions.
use Rattle.std.proofs.Common.{◌≡◌, Ok, refl}
use Rattle.std.specs.Str.{chars, is_utf8}
use Rattle.toml.proofs.OnLiterals.{toml_on_literals}
use Rattle.fleet_rules.specs.Entries.{entries_from}
use Rattle.fleet_rules.specs.RulesTable.{rules_in, rules_of}
use Rattle.seed_tables.specs.Trial.{rules_text}
use Rattle.seed_tables.specs.inside.RawTrial.{raw_rules}

pub rules-read : rules_of rules_text ≡ Ok raw_rules
unfolding chars is_utf8 toml_on_literals entries_from rules_in
rules-read = refl
