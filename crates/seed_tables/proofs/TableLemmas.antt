-- A table that is written line by line is read back, record by record.
--
-- It passes what is asked of a whole table: plain bytes are below 128, and so UTF-8, and at most 1,001 lines of at most
-- 100 bytes are no text too big. Its records are those of `LineLemmas`, and their values go by induction on them.
use Rattle.std.proofs.Common.{◌≡◌, ◌+◌, ◌*◌, ◌-◌, ◌<◌, ◌≤◌, ℕ, Bool, true, ◌==◌, List, [], ◌∷◌, ◌++◌, Result, Ok, map, length, All, length-append, arith, refl, nat_le, nat_lt}
use Rattle.std.specs.List.{list_all}
use Rattle.std.specs.Str.{is_utf8}
use Rattle.std.proofs.lemmas.Bool.Decides.{nat_tests}
use Rattle.std.proofs.lemmas.List.Elements.{All-append, All-cons, All-head, All-nil, All-tail}
use Rattle.std.proofs.lemmas.Str.{IsUtf8-from_ascii, is_utf8-from_IsUtf8}
use Rattle.std.proofs.lemmas.Str.Ascii.{IsAscii-from_all}
use Rattle.csv.specs.Reading.{strip_bom}
use Rattle.table_records.specs.Fields.{are_same}
use Rattle.table_records.specs.Records.{records_of}
use Rattle.table_records.specs.Table.{Layout, rows_from, table_of}
use Rattle.tail_text.specs.declared.refusal.Refusal.{Refusal}
use Rattle.seed_tables.specs.Rows.{line_of, lines_of, rest_of_line}
use Rattle.seed_tables.specs.inside.Plain.{are_plain, is_plain, is_plain_byte, is_plain_row}
use Rattle.seed_tables.proofs.LineLemmas.{both-left, both-right, lines-read}

-- a byte below 128
abbrev IsLow : ℕ → Type 0
IsLow b = b < 128

low : (b : ℕ) → is_plain_byte b ≡ true → b < 128
low b e = grind (arith, nat_tests)

text-low : (x : List ℕ) → is_plain x ≡ true → All IsLow x
text-low [] e = All-nil IsLow
text-low (b ∷ x) e = All-cons IsLow b x (low b (both-left (is_plain_byte b) (is_plain x) e)) (text-low x (both-right (is_plain_byte b) (is_plain x) e))

rest-low : (fields : List (List ℕ)) → are_plain fields ≡ true → All IsLow (rest_of_line fields)
rest-low [] e = All-cons IsLow 10 [] (omega arith) (All-nil IsLow)
rest-low (x ∷ fields) e =
    All-cons IsLow 44 (x ++ rest_of_line fields) (omega arith)
    (All-append IsLow x (rest_of_line fields) (text-low x (both-left (is_plain x) (are_plain fields) e)) (rest-low fields (both-right (is_plain x) (are_plain fields) e)))

line-low : (row : List (List ℕ)) → is_plain_row row ≡ true → All IsLow (line_of row)
line-low [] e = cc e
line-low (x ∷ []) e = cc e
line-low (x ∷ y ∷ fields) e =
    All-append IsLow x (rest_of_line (y ∷ fields)) (text-low x (both-left (is_plain x) (are_plain (y ∷ fields)) e))
    (rest-low (y ∷ fields) (both-right (is_plain x) (are_plain (y ∷ fields)) e))

lines-low : (rows : List (List (List ℕ))) → list_all is_plain_row rows ≡ true → All IsLow (lines_of rows)
lines-low [] e = All-nil IsLow
lines-low (row ∷ rows) e =
    All-append IsLow (line_of row) (lines_of rows) (line-low row (both-left (is_plain_row row) (list_all is_plain_row rows) e))
    (lines-low rows (both-right (is_plain_row row) (list_all is_plain_row rows) e))

lines-utf8 : (rows : List (List (List ℕ))) → list_all is_plain_row rows ≡ true → is_utf8 (lines_of rows) ≡ true
lines-utf8 rows e = is_utf8-from_IsUtf8 (lines_of rows) (IsUtf8-from_ascii (lines_of rows) (IsAscii-from_all (lines_of rows) (lines-low rows e)))

-- a line of at most 100 bytes
abbrev pub is_short : List (List ℕ) → Bool
is_short row = nat_le (length (line_of row)) 100

at_most : (n : ℕ) → nat_le n 100 ≡ true → n ≤ 100
at_most n e = grind (arith, nat_tests)

lines-short : (rows : List (List (List ℕ))) → list_all is_short rows ≡ true → length (lines_of rows) ≤ 100 * length rows
lines-short [] e = omega arith
lines-short (row ∷ rows) e =
    let first = at_most (length (line_of row)) (both-left (is_short row) (list_all is_short rows) e) in
    let others = lines-short rows (both-right (is_short row) (list_all is_short rows) e) in
    omega (arith, length-append (line_of row) (lines_of rows), first, others)

lines-long : (rows : List (List (List ℕ))) → list_all is_plain_row rows ≡ true → length rows ≤ length (lines_of rows)
lines-long [] e = omega arith
lines-long (row ∷ rows) e =
    let first = line-long row (both-left (is_plain_row row) (list_all is_plain_row rows) e) in
    let others = lines-long rows (both-right (is_plain_row row) (list_all is_plain_row rows) e) in
    omega (arith, length-append (line_of row) (lines_of rows), first, others)
  where
    line-long : (row : List (List ℕ)) → is_plain_row row ≡ true → 1 ≤ length (line_of row)
    line-long [] e = cc e
    line-long (x ∷ []) e = cc e
    line-long (x ∷ y ∷ fields) e = omega (arith, length-append x (rest_of_line (y ∷ fields)))

records-read : (rows : List (List (List ℕ))) → list_all is_plain_row rows ≡ true → strip_bom (lines_of rows) ≡ lines_of rows → records_of (lines_of rows) ≡ rows
records-read rows e unmarked = rw unmarked (lines-read rows (length (lines_of rows) + 1) e (omega (arith, lines-long rows e)))

small : (n : ℕ) → n ≤ 1_000_000 → nat_le n 16_777_216 ≡ true
small n few = grind (arith, nat_tests)

-- a table of such lines is read up to its size and its bytes
pub table-read : {A : Type 0} (layout : Layout A) (rows : List (List (List ℕ))) (values : Result (List A) Refusal)
    → are_same layout.header layout.header ≡ true
    → list_all is_plain_row (layout.header ∷ rows) ≡ true → list_all is_short (layout.header ∷ rows) ≡ true
    → strip_bom (lines_of (layout.header ∷ rows)) ≡ lines_of (layout.header ∷ rows) → length rows ≤ 1000
    → rows_from layout 2 layout.limit rows ≡ values → table_of layout (lines_of (layout.header ∷ rows)) ≡ values
table-read layout rows values same plain short unmarked few read =
    rw (
      small (length (lines_of (layout.header ∷ rows))) (omega (arith, lines-short (layout.header ∷ rows) short)),
      lines-utf8 (layout.header ∷ rows) plain,
      records-read (layout.header ∷ rows) plain unmarked,
      same,
    ) read

positive : (n : ℕ) → 0 < n → nat_lt 0 n ≡ true
positive n h = grind (arith, nat_tests)

-- records that are read one by one give their values
pub rows-read : {A B : Type 0} (layout : Layout A) (fields : B → List (List ℕ)) (value : B → A) (P : B → Type 0)
    → ((x : B) → P x → ((length (fields x) == length layout.header) ≡ true) × (layout.row_of (fields x) ≡ Ok (value x)))
    → (xs : List B) (place room : ℕ) → All P xs → length xs ≤ room → rows_from layout place room (map fields xs) ≡ Ok (map value xs)
unfolding rows_from
rows-read layout fields value P each [] place room good few = refl
rows-read layout fields value P each (x ∷ xs) place room good few =
    let first = each x (All-head P x xs good) in
    rw (first.0, positive room (omega arith), first.1, rows-read layout fields value P each xs (place + 1) (room - 1) (All-tail P x xs good) (omega arith)) refl
