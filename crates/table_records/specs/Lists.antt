-- A list of items in one field: a bad item, wherever it stands, is told before one too many.
use Rattle.std.specs.Prelude.{ℕ, List, [], length, ◌==◌, nat_le, if◌then◌else◌, Result, Ok}
use Rattle.tail_book.specs.declared.limits.TheConstants.{ITEM_LIMIT}
use Rattle.tail_text.specs.Checks.{look, look_each, must}
use Rattle.tail_text.specs.Parts.{parts_of, space}
use Rattle.tail_text.specs.declared.codes.TheConstants.{TOO_MANY}

-- these parts as items, or the code of the first that is none; and they are not too many
abbrev pub items_of : {A : Type 0} → (List ℕ → Result A ℕ) → List (List ℕ) → Result (List A) ℕ
items_of give parts =
    look (look_each give parts) (λ items.
    must (nat_le (length items) ITEM_LIMIT) TOO_MANY (
    Ok items))

-- the items of a field: none where it is empty, and otherwise items with exactly one space between each two
abbrev pub list_of : {A : Type 0} → (List ℕ → Result A ℕ) → List ℕ → Result (List A) ℕ
list_of give field = if length field == 0 then Ok [] else items_of give (parts_of space field)
