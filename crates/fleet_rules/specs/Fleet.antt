-- The fleet: its layout, and what a record of it says or why it is refused.
use Rattle.std.specs.Prelude.{ℕ, List, [], ◌∷◌, codes, Result, Ok}
use Rattle.tail_book.specs.declared.limits.TheConstants.{FIXED_LIMIT, TAIL_LIMIT}
use Rattle.tail_text.specs.declared.refusal.Refusal.{Refusal}
use Rattle.tail_text.specs.declared.refusal.Table.TheVariants.{Fleet}
use Rattle.table_records.specs.Fields.{field_at}
use Rattle.tail_text.specs.Checks.{look}
use Rattle.table_records.specs.Table.{Layout, table_of}
use Rattle.table_records.specs.NameLists.{names_of}
use Rattle.table_records.specs.Values.{name_in, number_in, stamp_in}
use Rattle.fleet_rules.specs.CarryField.{carry_in}
use Rattle.fleet_rules.specs.Tail.{RawTailSeen}

-- what a record says, its fields from left to right, or the code of its first fault
abbrev pub tail_of : List (List ℕ) → Result RawTailSeen ℕ
tail_of fields =
    look (name_in (field_at fields 0)) (λ name.
    look (name_in (field_at fields 1)) (λ kind.
    look (name_in (field_at fields 2)) (λ at.
    look (stamp_in (field_at fields 3)) (λ ready.
    look (number_in FIXED_LIMIT (field_at fields 4)) (λ fixed.
    look (names_of (field_at fields 5)) (λ tags.
    look (names_of (field_at fields 6)) (λ avoid.
    look (carry_in (field_at fields 7)) (λ carry.
    Ok (record {
      name = name;
      kind = kind;
      at = at;
      ready = ready;
      fixed = fixed;
      tags = tags;
      avoid = avoid;
      carry = carry;
    })))))))))

-- the header, the most records under it, and what each says
abbrev pub fleet : Layout RawTailSeen
fleet = record {
  table = Fleet;
  header = codes "tail" ∷ codes "type" ∷ codes "at" ∷ codes "ready" ∷ codes "fixed"
      ∷ codes "tags" ∷ codes "avoid" ∷ codes "carry" ∷ [];
  limit = TAIL_LIMIT;
  row_of = tail_of;
}

-- the records of a fleet, or its first refusal
abbrev pub fleet_of : List ℕ → Result (List RawTailSeen) Refusal
fleet_of bytes = table_of fleet bytes
