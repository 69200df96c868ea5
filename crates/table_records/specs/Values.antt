-- Fields that several tables have, each with the code of its kind where it is bad.
use Rattle.std.specs.Prelude.{ℕ, List, length, ◌==◌, if◌then◌else◌, Option, Some, None, Result, Ok, ℤ}
use Rattle.tail_text.specs.Checks.{look, or_code}
use Rattle.tail_text.specs.NameText.{name_of}
use Rattle.tail_text.specs.Number.{number_of}
use Rattle.tail_text.specs.Stamp.{stamp_of}
use Rattle.tail_text.specs.declared.codes.TheConstants.{NAME, NUMBER, STAMP}

-- a name
abbrev pub name_in : List ℕ → Result (List ℕ) ℕ
name_in field = or_code NAME (name_of field)

-- none where the field is empty, and otherwise a name
abbrev pub optional_name_in : List ℕ → Result (Option (List ℕ)) ℕ
optional_name_in field = if length field == 0 then Ok None else look (name_in field) (λ name. Ok (Some name))

-- a moment in minutes since 1970-01-01T00:00 UTC
abbrev pub stamp_in : List ℕ → Result ℤ ℕ
stamp_in field = or_code STAMP (stamp_of field)

-- a number of at most so much
abbrev pub number_in : ℕ → List ℕ → Result ℕ ℕ
number_in most field = or_code NUMBER (number_of most field)
