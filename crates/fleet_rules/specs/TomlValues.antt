-- What a table of the rules holds at one of its keys: a number, a name, a text, a time of day, a truth value, or names.
-- An absent key is missing. A value of another kind has the code of one that is not good.
use Rattle.std.specs.Prelude.{ℕ, ℤ, pos, List, [], ◌∷◌, length, Bool, true, ◌&&◌, nat_le, int_le, Option, Some, None, option_map, Result, Ok, Err}
use Rattle.std.specs.List.{list_any}
use Rattle.std.specs.Option.{ok_or}
use Rattle.std.specs.Str.{bytes_eq}
use Rattle.toml.specs.Data.{Data, Items, no_items, item, Members, no_members, member, as_array, as_bool, as_integer, as_str, get_member}
use Rattle.tail_text.specs.Checks.{look, look_each, must, or_code}
use Rattle.tail_text.specs.Clock.{clock_of}
use Rattle.tail_text.specs.declared.codes.TheConstants.{MISSING, NAME, NUMBER, SHAPE, STAMP, TOO_MANY}
use Rattle.table_records.specs.Values.{name_in}

-- the values of an array, in their order
abbrev pub data_of : Items → List Data
data_of no_items = []
data_of (item value more) = value ∷ data_of more

-- the values of a value that is an array
abbrev pub values_of : Data → Option (List Data)
values_of value = option_map data_of (as_array value)

-- each key of the table passes the test
abbrev pub keys_pass : (List ℕ → Bool) → Members → Bool
keys_pass test no_members = true
keys_pass test (member key value more) = test key && keys_pass test more

-- the table has none but the listed keys
abbrev pub has_only : List (List ℕ) → Members → Bool
has_only listed table = keys_pass (λ key. list_any (bytes_eq key) listed) table

-- the value at a key
abbrev pub value_at : List ℕ → Members → Result Data ℕ
value_at key table = ok_or (get_member key table) MISSING

-- an integer from the least to the most
abbrev pub number_within : ℤ → ℤ → Option ℤ → Result ℤ ℕ
number_within least most (Some number) = must (int_le least number && int_le number most) NUMBER (Ok number)
number_within least most None = Err NUMBER

-- a key's number from the least to the most
abbrev pub number_at : List ℕ → ℤ → ℤ → Members → Result ℤ ℕ
number_at key least most table =
    look (value_at key table) (λ value.
    number_within least most (as_integer value))

-- an integer from 0 to the most, as a count
abbrev pub count_within : ℕ → Option ℤ → Result ℕ ℕ
count_within most (Some (pos count)) = must (nat_le count most) NUMBER (Ok count)
count_within most (Some _) = Err NUMBER
count_within most None = Err NUMBER

-- a key's count up to the most
abbrev pub count_at : List ℕ → ℕ → Members → Result ℕ ℕ
count_at key most table =
    look (value_at key table) (λ value.
    count_within most (as_integer value))

-- a string that is a name
abbrev pub name_of_value : Data → Result (List ℕ) ℕ
name_of_value value =
    look (ok_or (as_str value) NAME) (λ text.
    name_in text)

-- a key's name
abbrev pub name_at : List ℕ → Members → Result (List ℕ) ℕ
name_at key table =
    look (value_at key table) (λ value.
    name_of_value value)

-- a key's time of day `HH:MM`, in minutes since midnight
abbrev pub time_at : List ℕ → Members → Result ℤ ℕ
time_at key table =
    look (value_at key table) (λ value.
    look (ok_or (as_str value) STAMP) (λ text.
    or_code STAMP (clock_of text)))

-- a key's truth value
abbrev pub truth_at : List ℕ → Members → Result Bool ℕ
truth_at key table =
    look (value_at key table) (λ value.
    ok_or (as_bool value) SHAPE)

-- a key's names: an array whose elements are names, and then not too many of them
abbrev pub names_at : List ℕ → ℕ → Members → Result (List (List ℕ)) ℕ
names_at key most table =
    look (value_at key table) (λ value.
    look (ok_or (values_of value) SHAPE) (λ values.
    look (look_each name_of_value values) (λ names.
    must (nat_le (length names) most) TOO_MANY (
    Ok names))))
