-- Names, and the numbers that stand for them: the number of a name is its place among the names of its kind.
use Rattle.std.specs.Prelude.{ℕ, Bool, List, [], ◌∷◌, ◌++◌, if◌then◌else◌, Option, Some, None, position, unwrap_or, Result, Ok}
use Rattle.std.specs.List.{list_any}
use Rattle.std.specs.Option.{ok_or}
use Rattle.std.specs.Str.{bytes_eq}
use Rattle.tail_text.specs.Checks.{look, look_each}
use Rattle.tail_text.specs.declared.codes.TheConstants.{UNKNOWN}

-- whether a name is among others
abbrev pub is_among : List (List ℕ) → List ℕ → Bool
is_among names x = list_any (bytes_eq x) names

-- the number of a name is its place among the names, counted from 0, if it is among them
abbrev pub number_in : List (List ℕ) → List ℕ → Result ℕ ℕ
number_in names x = ok_or (position (bytes_eq x) names) UNKNOWN

-- the numbers of several names
abbrev pub numbers_in : List (List ℕ) → List (List ℕ) → Result (List ℕ) ℕ
numbers_in names xs = look_each (number_in names) xs

-- the number of a name, if there is one to look up
abbrev pub optional_number_in : List (List ℕ) → Option (List ℕ) → Result (Option ℕ) ℕ
optional_number_in names None = Ok None
optional_number_in names (Some x) = look (number_in names x) (λ n. Ok (Some n))

-- the names with one more, which comes last unless it is there
abbrev pub with_name : List (List ℕ) → List ℕ → List (List ℕ)
with_name names x = if is_among names x then names else names ++ x ∷ []

-- the names, and then those of a list that are new, each once
unfoldable pub distinct_from : List (List ℕ) → List (List ℕ) → List (List ℕ)
distinct_from names [] = names
distinct_from names (x ∷ xs) = distinct_from (with_name names x) xs

-- the distinct names of a list, in order of first appearance
abbrev pub distinct_names : List (List ℕ) → List (List ℕ)
distinct_names = distinct_from []

-- the number of a name that no table declares: its place among the names, and 0 where it is not among them
abbrev pub place_in : List (List ℕ) → List ℕ → ℕ
place_in names x = unwrap_or (position (bytes_eq x) names) 0
