-- The rows of a table, record by record: what a reader has so far stands before what is left, and each turn of its loop
-- takes one record from what is left.
use Rattle.std.proofs.Common.{◌≡◌, ◌∙◌, ◌<◌, ℕ, ◌+◌, ◌-◌, Bool, true, false, length-append, List, [], ◌∷◌, ◌++◌, Result, Ok, Err, length, refl, arith, nat_lt, ◌==◌}
use Rattle.std.proofs.lemmas.Bool.Decides.{nat_tests}
use Rattle.std.proofs.lemmas.List.{append-nil}
use Rattle.tail_text.specs.Reading.{refusal_at}
use Rattle.tail_text.specs.declared.refusal.Refusal.{Refusal}
use Rattle.tail_text.specs.Checks.{must}
use Rattle.tail_text.specs.declared.codes.TheConstants.{SHAPE, TOO_MANY}
use Rattle.tail_text.specs.inside.Joined.{joined, joined-more}
use Rattle.table_records.specs.Table.{Layout, record_of, rows_from}

-- a check that lets a value through has passed
pub must-passes : {A : Type 0} (test : Bool) (why : ℕ) (next : Result A ℕ) (x : A) → must test why next ≡ Ok x → (test ≡ true) × (next ≡ Ok x)
must-passes true why next x e = (refl, e)
must-passes false why next x e = cc e

positive : (n : ℕ) → nat_lt 0 n ≡ true → 0 < n
positive n e = grind (arith, nat_tests)

-- a record that gives a row had room
pub record_of-room : {A : Type 0} (layout : Layout A) (room : ℕ) (fields : List (List ℕ)) (row : A) → record_of layout room fields ≡ Ok row → 0 < room
record_of-room layout room fields row e =
    let counted = must-passes (length fields == length layout.header) SHAPE (must (nat_lt 0 room) TOO_MANY (layout.row_of fields)) row e in
    positive room (must-passes (nat_lt 0 room) TOO_MANY (layout.row_of fields) row counted.1).0

-- the turns of the loop that reads a table, over what all its records give
module _ {A : Type 0} (layout : Layout A) (all : Result (List A) Refusal) (rows : List A) (left : List (List (List ℕ)))
    (known : all ≡ joined rows (rows_from layout (length rows + 2) (layout.limit - length rows) left)) where
  pub turn-end : left ≡ [] → all ≡ Ok rows
  unfolding rows_from
  turn-end e = known ∙ rw (e, append-nil) refl

  pub turn-bad : (fields : List (List ℕ)) (more : List (List (List ℕ))) (code : ℕ) → left ≡ fields ∷ more
      → record_of layout (layout.limit - length rows) fields ≡ Err code → all ≡ Err (refusal_at code layout.table (length rows + 2))
  unfolding rows_from
  turn-bad fields more code e bad = known ∙ rw (e, bad) refl

  pub turn-good : (fields : List (List ℕ)) (more : List (List (List ℕ))) (row : A) → left ≡ fields ∷ more
      → record_of layout (layout.limit - length rows) fields ≡ Ok row
      → all ≡ joined (rows ++ row ∷ []) (rows_from layout (length (rows ++ row ∷ []) + 2) (layout.limit - length (rows ++ row ∷ [])) more)
  unfolding rows_from
  turn-good fields more row e good =
      let longer : length (rows ++ row ∷ []) ≡ length rows + 1 = omega (arith, length-append rows (row ∷ [])) in
      let place : length rows + 1 + 2 ≡ length rows + 2 + 1 = omega arith in
      let room : layout.limit - (length rows + 1) ≡ layout.limit - length rows - 1 = omega arith in
      known ∙ rw (e, good, longer, place, room) (joined-more rows row (rows_from layout (length rows + 2 + 1) (layout.limit - length rows - 1) more))
