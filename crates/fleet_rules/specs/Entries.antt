-- The entries of one key of the rules: an array of tables, each refused at its number.
use Rattle.std.specs.Prelude.{ℕ, ◌+◌, ◌-◌, List, [], ◌∷◌, nat_lt, Option, Some, None, Result, Ok}
use Rattle.std.specs.Option.{ok_or}
use Rattle.toml.specs.Data.{Data, Members, as_table, get_member}
use Rattle.tail_text.specs.Checks.{look, look_each, must}
use Rattle.tail_text.specs.Reading.{refusal_at}
use Rattle.tail_text.specs.declared.codes.TheConstants.{KEY, SHAPE, TOO_MANY}
use Rattle.tail_text.specs.declared.refusal.Refusal.{Refusal}
use Rattle.tail_text.specs.declared.refusal.Table.TheVariants.{Rules}
use Rattle.table_records.specs.Table.{placed}
use Rattle.fleet_rules.specs.TomlValues.{has_only, values_of}

-- what the entries of one key are: that key, the most of them, the keys that each of them lists, and what a table with
-- no other keys gives: an entry, or the code of its first fault
pub record Section (A : Type 0) : Type 0 where
  pub key : List ℕ
  pub limit : ℕ
  pub keys : List (List ℕ)
  pub entry_of : Members → Result A ℕ

-- the refusal of the rules with a code, at the number of an entry, or at 0 for the whole table
abbrev pub refused : ℕ → ℕ → Refusal
refused code place = refusal_at code Rules place

-- what one entry gives, where so many may still come: whether it is one too many, then whether it has a key that is not
-- listed, and then its listed keys
abbrev pub entry_in : {A : Type 0} → Section A → ℕ → Members → Result A ℕ
entry_in section room table =
    must (nat_lt 0 room) TOO_MANY (
    must (has_only section.keys table) KEY (
    section.entry_of table))

-- the entries from a number on, of which so many may still come
unfoldable pub entries_from : {A : Type 0} → Section A → ℕ → ℕ → List Members → Result (List A) Refusal
entries_from section place room [] = Ok []
entries_from section place room (table ∷ more) =
    look (placed Rules place (entry_in section room table)) (λ entry.
    look (entries_from section (place + 1) (room - 1) more) (λ entries.
    Ok (entry ∷ entries)))

-- an element of the array as the table of an entry, or else the rules as a whole are refused
abbrev pub entry_table : Data → Result Members Refusal
entry_table value = ok_or (as_table value) (refused SHAPE 0)

-- the tables of an array of tables, and none where the key is absent; any other value is of another shape
abbrev pub tables_in : Option Data → Result (List Members) Refusal
tables_in None = Ok []
tables_in (Some value) =
    look (ok_or (values_of value) (refused SHAPE 0)) (λ values.
    look_each entry_table values)

-- the entries of a key, where so many entries of other keys stand before them
abbrev pub entries_at : {A : Type 0} → Section A → ℕ → Members → Result (List A) Refusal
entries_at section before rules =
    look (tables_in (get_member section.key rules)) (λ tables.
    entries_from section (before + 1) section.limit tables)
