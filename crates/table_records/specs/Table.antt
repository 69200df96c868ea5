-- How a table is read, up to its first refusal: its size, its bytes, its header, and its records one by one.
use Rattle.std.specs.Prelude.{ℕ, ◌+◌, ◌-◌, Bool, false, List, [], ◌∷◌, length, ◌==◌, nat_le, nat_lt, Result, Ok, Err}
use Rattle.std.specs.Str.{is_utf8}
use Rattle.tail_text.specs.Checks.{look, must}
use Rattle.tail_text.specs.Reading.{refusal_at}
use Rattle.tail_text.specs.declared.codes.TheConstants.{HEADER, NOT_UTF8, SHAPE, TOO_BIG, TOO_MANY}
use Rattle.tail_text.specs.declared.refusal.Refusal.{Refusal}
use Rattle.tail_text.specs.declared.refusal.Table.{Table}
use Rattle.tail_text.specs.declared.refusal.TheConstants.{SIZE_LIMIT}
use Rattle.table_records.specs.Fields.{are_same}
use Rattle.table_records.specs.Records.{records_of}

-- what a table is: its name in refusals, its header's fields, the most records under the header, and what the fields
-- of one record give: a row, or the code with which the record is refused
pub record Layout (A : Type 0) : Type 0 where
  pub table : Table
  pub header : List (List ℕ)
  pub limit : ℕ
  pub row_of : List (List ℕ) → Result A ℕ

-- the first record is the header, field for field
abbrev pub is_headed : List (List ℕ) → List (List (List ℕ)) → Bool
is_headed header [] = false
is_headed header (first ∷ more) = are_same first header

-- the records under the header
abbrev pub under : List (List (List ℕ)) → List (List (List ℕ))
under [] = []
under (first ∷ more) = more

-- what one record gives, where so many may still come: its number of fields, whether it is one too many, and its fields
abbrev pub record_of : {A : Type 0} → Layout A → ℕ → List (List ℕ) → Result A ℕ
record_of layout room fields =
    must (length fields == length layout.header) SHAPE (
    must (nat_lt 0 room) TOO_MANY (
    layout.row_of fields))

-- a row, or its refusal at its place of the table
abbrev pub placed : {A : Type 0} → Table → ℕ → Result A ℕ → Result A Refusal
placed table place (Ok row) = Ok row
placed table place (Err code) = Err (refusal_at code table place)

-- a row before those that follow it, or the first refusal
abbrev pub row_then : {A : Type 0} → Table → ℕ → Result A ℕ → Result (List A) Refusal → Result (List A) Refusal
row_then table place row rows =
    look (placed table place row) (λ first.
    look rows (λ more.
    Ok (first ∷ more)))

-- the rows of the records from a place on, of which so many may still come
unfoldable pub rows_from : {A : Type 0} → Layout A → ℕ → ℕ → List (List (List ℕ)) → Result (List A) Refusal
rows_from layout place room [] = Ok []
rows_from layout place room (fields ∷ more) =
    row_then layout.table place (record_of layout room fields) (rows_from layout (place + 1) (room - 1) more)

-- the rows of a table's records, of which the first has to be the header
abbrev pub rows_of : {A : Type 0} → Layout A → List (List (List ℕ)) → Result (List A) Refusal
rows_of layout records =
    must (is_headed layout.header records) (refusal_at HEADER layout.table 1) (
    rows_from layout 2 layout.limit (under records))

-- the rows of a table, or its first refusal, whose place is the number of the record: the header is record 1
abbrev pub table_of : {A : Type 0} → Layout A → List ℕ → Result (List A) Refusal
table_of layout bytes =
    must (nat_le (length bytes) SIZE_LIMIT) (refusal_at TOO_BIG layout.table 0) (
    must (is_utf8 bytes) (refusal_at NOT_UTF8 layout.table 0) (
    rows_of layout (records_of bytes)))
