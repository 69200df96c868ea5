-- The rules at the texts that a reader tries first.
--
-- The rows show rules without entries, two spellings of one array, what is refused as a whole, and that refusals come
-- in the order of the keys and not of the text.
use Rattle.std.proofs.Common.{◌≡◌, [], ◌∷◌, Ok, Err, pos, refl}
use Rattle.std.specs.Prelude.{codes}
use Rattle.std.specs.Str.{chars, is_utf8}
use Rattle.toml.proofs.OnLiterals.{toml_on_literals}
use Rattle.fleet_rules.specs.Entries.{entries_from, refused}
use Rattle.fleet_rules.specs.RulesTable.{rules_in, rules_of}

-- no text at all has no entries
no_rules : rules_of (codes "") ≡ Ok (record { kinds = []; airports = []; curfews = []; counters = []; bands = [] })
unfolding chars is_utf8 toml_on_literals entries_from rules_in
no_rules = refl

-- one band, whichever way its array is written
one_band : rules_of (codes "[[band]]\nupto = 59\ncost = 500") ≡ Ok (record { kinds = []; airports = []; curfews = []; counters = []; bands = record { upto = pos 59; cost = 500 } ∷ [] })
unfolding chars is_utf8 toml_on_literals entries_from rules_in
one_band = refl

inline_band : rules_of (codes "band = [{ upto = 59, cost = 500 }]") ≡ rules_of (codes "[[band]]\nupto = 59\ncost = 500")
unfolding chars is_utf8 toml_on_literals entries_from rules_in
inline_band = refl

-- no TOML, a key of no kind, and a value that is no array of tables
whole_refused : (rules_of (codes "[[type") ≡ Err (refused 13 0)) × (rules_of (codes "speed = 1") ≡ Err (refused 14 0)) × (rules_of (codes "band = 1") ≡ Err (refused 4 0))
unfolding chars is_utf8 toml_on_literals entries_from rules_in
whole_refused = (refl, refl, refl)

-- the type is looked at first, though the band is written first, and its unknown key before its missing ones
entry_refused : rules_of (codes "[[band]]\n[[type]]\nspeed = 1") ≡ Err (refused 14 1)
unfolding chars is_utf8 toml_on_literals entries_from rules_in
entry_refused = refl
