-- What reading a table answers where it is refused: what is wrong, and where. For table_records/src/table.rt.
use Rattle.std.specs.Prelude.{ℕ}
use Rattle.tail_text.specs.declared.refusal.Refusal.{Refusal}
use Rattle.tail_text.specs.declared.refusal.Table.{Table}

-- the refusal with a code, at a place of a table
abbrev pub refusal_at : ℕ → Table → ℕ → Refusal
refusal_at code table place = record { code = code; table = table; place = place }
