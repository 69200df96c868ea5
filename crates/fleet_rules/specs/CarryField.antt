-- The values with which an aircraft comes in: items `NAME=VALUE` in one field.
use Rattle.std.specs.Prelude.{ℕ, ◌+◌, List, take, drop, ◌==◌, position, Option, Result, Ok, pos}
use Rattle.std.specs.Option.{ok_or}
use Rattle.tail_text.specs.Checks.{look}
use Rattle.tail_text.specs.declared.codes.TheConstants.{NAME}
use Rattle.table_records.specs.Lists.{list_of}
use Rattle.table_records.specs.Values.{name_in, number_in}
use Rattle.fleet_rules.specs.declared.carry_field.TheConstants.{CARRY_LIMIT}
use Rattle.fleet_rules.specs.declared.tail.RawCarry.{RawCarry}

-- the place of the first `=` of an item
abbrev pub cut_of : List ℕ → Option ℕ
cut_of item = position (λ byte. byte == 61) item

-- the counter's name before the first `=` of an item, and its value behind it; without an `=` there is no name
abbrev pub item_in : List ℕ → Result RawCarry ℕ
item_in item =
    look (ok_or (cut_of item) NAME) (λ cut.
    look (name_in (take cut item)) (λ counter.
    look (number_in CARRY_LIMIT (drop (cut + 1) item)) (λ value.
    Ok (record { counter = counter; value = pos value }))))

-- the values of a field, with exactly one space between each two
abbrev pub carry_in : List ℕ → Result (List RawCarry) ℕ
carry_in field = list_of item_in field
