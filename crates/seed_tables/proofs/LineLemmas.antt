-- Lines of records are read back as these records: no field has a byte that CSV sets apart.
--
-- So each field is written as it stands, a line is what CSV writes of its record, and reading gives the record again.
-- Records go by induction, with more turns of the reader than there are lines.
use Rattle.std.proofs.Common.{◌≡◌, ◌<◌, ℕ, zero, suc, Bool, true, false, ◌&&◌, List, [], ◌∷◌, ◌++◌, Some, length, append_assoc, arith, refl, sym, ap}
use Rattle.std.specs.List.{list_any, list_all}
use Rattle.std.proofs.lemmas.Bool.Decides.{nat_tests}
use Rattle.csv.specs.Machine.{next_record}
use Rattle.csv.specs.Reading.{default_config, records_from}
use Rattle.csv.specs.Writing.{default_writer, field_text, fields_text, is_blank, needs_byte, row_text}
use Rattle.csv.specs.declared.parser.State.TheVariants as st
use Rattle.csv.proofs.RoundTrip.{read-write-many}
use Rattle.seed_tables.specs.Rows.{line_of, lines_of, rest_of_line}
use Rattle.seed_tables.specs.inside.Plain.{are_plain, is_plain, is_plain_byte, is_plain_row}

pub both-left : (a b : Bool) → (a && b) ≡ true → a ≡ true
both-left true b e = refl
both-left false b e = cc e

pub both-right : (a b : Bool) → (a && b) ≡ true → b ≡ true
both-right true b e = e
both-right false b e = cc e

no-mark : (b : ℕ) → is_plain_byte b ≡ true → needs_byte default_writer b ≡ false
no-mark b e = grind (arith, nat_tests)

no-marks : (x : List ℕ) → is_plain x ≡ true → list_any (needs_byte default_writer) x ≡ false
no-marks [] e = refl
no-marks (b ∷ x) e = rw (no-mark b (both-left (is_plain_byte b) (is_plain x) e)) (no-marks x (both-right (is_plain_byte b) (is_plain x) e))

plain-text : (x : List ℕ) → is_plain x ≡ true → field_text default_writer x ≡ x
plain-text x e = rw (no-marks x e) refl

rest-text : (fields : List (List ℕ)) → are_plain fields ≡ true → rest_of_line fields ≡ fields_text default_writer fields ++ 10 ∷ []
unfolding fields_text
rest-text [] e = refl
rest-text (x ∷ fields) e =
    rw (plain-text x (both-left (is_plain x) (are_plain fields) e), rest-text fields (both-right (is_plain x) (are_plain fields) e))
    (ap (λ (t : List ℕ). 44 ∷ t) (sym (append_assoc x (fields_text default_writer fields) (10 ∷ []))))

-- the line of a record of two fields or more is what CSV writes
line-text : (x y : List ℕ) (fields : List (List ℕ)) → are_plain (x ∷ y ∷ fields) ≡ true → line_of (x ∷ y ∷ fields) ≡ row_text default_writer (x ∷ y ∷ fields)
unfolding is_blank
line-text x y fields e =
    rw (plain-text x (both-left (is_plain x) (are_plain (y ∷ fields)) e), rest-text (y ∷ fields) (both-right (is_plain x) (are_plain (y ∷ fields)) e))
    (sym (append_assoc x (fields_text default_writer (y ∷ fields)) (10 ∷ [])))

next-line : (row : List (List ℕ)) (tail : List ℕ) → is_plain_row row ≡ true
    → next_record default_config st.StartRecord [] [] (line_of row ++ tail) ≡ Some (row, st.StartRecord, tail)
next-line [] tail e = cc e
next-line (x ∷ []) tail e = cc e
next-line (x ∷ y ∷ fields) tail e = rw (line-text x y fields e) (read-write-many x y fields tail)

-- the records of lines
pub lines-read : (rows : List (List (List ℕ))) (n : ℕ) → list_all is_plain_row rows ≡ true → length rows < n
    → records_from default_config n st.StartRecord (lines_of rows) ≡ rows
unfolding records_from next_record
lines-read rows zero e few = absurd (omega arith)
lines-read [] (suc n) e few = refl
lines-read (row ∷ rows) (suc n) e few =
    rw (next-line row (lines_of rows) (both-left (is_plain_row row) (list_all is_plain_row rows) e))
    (ap (λ (t : List (List (List ℕ))). row ∷ t) (lines-read rows n (both-right (is_plain_row row) (list_all is_plain_row rows) e) (omega arith)))
