-- What reading one record, or one field of it, answers. For src/lists.rt, src/name_lists.rt and others.
use Rattle.std.specs.Prelude.{ℕ, ◌≡◌, ⊤, Result, Ok, Err}
use Rattle.table_records.specs.declared.table.NoRow.{NoRow}
use Rattle.table_records.specs.declared.table.NoRow.TheVariants.{Code, Memory}

-- the answer is what is due, seen as the definitions see it, or its code; memory may run out at any time
abbrev pub Judges : {S T : Type 0} → (T → S) → Result S ℕ → Result T NoRow → Type 0
Judges seen due (Ok value) = due ≡ Ok (seen value)
Judges seen due (Err (Code code)) = due ≡ Err code
Judges seen due (Err Memory) = ⊤
