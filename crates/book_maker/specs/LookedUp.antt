-- Entries of the tables, one after the other: each first by its own name, and then by the names that it uses.
use Rattle.std.specs.Prelude.{ℕ, ◌+◌, Bool, true, not, List, [], ◌∷◌, ◌++◌, Option, Some, None, Result, Ok}
use Rattle.tail_text.specs.Checks.{must}
use Rattle.tail_text.specs.declared.codes.TheConstants.{TWICE}
use Rattle.tail_text.specs.declared.refusal.Refusal.{Refusal}
use Rattle.tail_text.specs.declared.refusal.Table.{Table}
use Rattle.table_records.specs.Table.{row_then}
use Rattle.book_maker.specs.NameNumbers.{is_among}

-- the names with an entry's own one, if it has one
abbrev pub with_own : List (List ℕ) → Option (List ℕ) → List (List ℕ)
with_own names None = names
with_own names (Some x) = names ++ x ∷ []

-- an entry's own name, if it has one, is not among those before it
abbrev pub is_new : List (List ℕ) → Option (List ℕ) → Bool
is_new before None = true
is_new before (Some x) = not (is_among before x)

-- what entries give from a place on, behind others with these names, or the first refusal: of a name that an earlier
-- entry has, and otherwise of the names that an entry uses
unfoldable pub looked_up_from : {A B : Type 0} → Table → (A → Option (List ℕ)) → (A → Result B ℕ) → ℕ → List (List ℕ) → List A → Result (List B) Refusal
looked_up_from table own_name uses place before [] = Ok []
looked_up_from table own_name uses place before (entry ∷ more) =
    row_then table place (must (is_new before (own_name entry)) TWICE (uses entry))
    (looked_up_from table own_name uses (place + 1) (with_own before (own_name entry)) more)

-- what the entries of one kind give, of which the first stands at that place
abbrev pub looked_up_in : {A B : Type 0} → Table → ℕ → (A → Option (List ℕ)) → (A → Result B ℕ) → List A → Result (List B) Refusal
looked_up_in table first own_name uses entries = looked_up_from table own_name uses first [] entries
