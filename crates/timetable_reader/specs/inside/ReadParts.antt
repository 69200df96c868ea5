-- The parts in which a record is read on the way to its activity, each with what its fields say and what holds of it by itself.
-- For src/timetable.rt.
use Rattle.std.specs.Prelude.{ℕ, ◌≡◌, ⊤, true, List, Option, IfSome, Result, Ok, Err, pos, ◌+ℤ◌, ◌≤ℤ◌}
use Rattle.tail_book.specs.Name.{is_name}
use Rattle.tail_book.specs.declared.limits.TheConstants.{ITEM_LIMIT, SPAN_LIMIT}
use Rattle.tail_book.specs.inside.Sound.{IsMoment}
use Rattle.table_records.specs.Fields.{field_at}
use Rattle.table_records.specs.NameLists.{names_of}
use Rattle.table_records.specs.Values.{name_in, optional_name_in, stamp_in}
use Rattle.table_records.specs.declared.table.NoRow.{NoRow}
use Rattle.table_records.specs.declared.table.NoRow.TheVariants.{Code, Memory}
use Rattle.table_records.specs.inside.NameLists.{AreNames}
use Rattle.timetable_reader.specs.Timetable.{end_of, flight_in, is_whole}
use Rattle.timetable_reader.specs.declared.timetable.Leg.{Leg}
use Rattle.timetable_reader.specs.declared.timetable.Marks.{Marks}

-- a part was read, of which this holds, or the whole is refused with this code; memory may run out at any time
abbrev pub ReadsPart : {S T : Type 0} → (T → Type 0) → Result S ℕ → Result T NoRow → Type 0
ReadsPart holds due (Ok part) = holds part
ReadsPart holds due (Err (Code code)) = due ≡ Err code
ReadsPart holds due (Err Memory) = ⊤

-- a field lists names
abbrev pub HasNames : List ℕ → Type 0
HasNames field = (names : List (List ℕ)) × (names_of field ≡ Ok names)

-- the first six fields say this
pub record IsLegOf (fields : List (List ℕ)) (leg : Leg) : Type 0 where
  pub id : name_in (field_at fields 0) ≡ Ok leg.id
  pub flight : flight_in (field_at fields 1) ≡ Ok leg.flight
  pub from : name_in (field_at fields 2) ≡ Ok leg.from
  pub to : name_in (field_at fields 3) ≡ Ok leg.to
  pub start : stamp_in (field_at fields 4) ≡ Ok leg.start
  pub end : end_of leg.start (field_at fields 5) ≡ Ok leg.end

-- its names are in the grammar, its times are in range, and it lasts from a minute to two days
pub record IsSoundLeg (leg : Leg) : Type 0 where
  pub id : is_name leg.id ≡ true
  pub from : is_name leg.from ≡ true
  pub to : is_name leg.to ≡ true
  pub start : IsMoment leg.start
  pub end : IsMoment leg.end
  pub least : (leg.start +ℤ pos 1) ≤ℤ leg.end
  pub most : leg.end ≤ℤ (leg.start +ℤ SPAN_LIMIT)

-- the last two fields say this, and the record is good as a whole
pub record AreResetsOf (fields : List (List ℕ)) (leg : Leg) (tail : Option (List ℕ)) (resets : List (List ℕ)) : Type 0 where
  pub tail_field : optional_name_in (field_at fields 8) ≡ Ok tail
  pub resets_field : names_of (field_at fields 9) ≡ Ok resets
  pub whole : is_whole leg.flight leg.from leg.to resets ≡ true

-- the fields behind the types say this, and the record is good as a whole
pub record AreMarksOf (fields : List (List ℕ)) (leg : Leg) (marks : Marks) : Type 0 where
  pub tags : names_of (field_at fields 7) ≡ Ok marks.tags.items
  pub resets : AreResetsOf fields leg marks.tail marks.resets.items

-- the names are in the grammar, and lists are not too long
pub record AreSoundMarks (marks : Marks) : Type 0 where
  pub tags : AreNames ITEM_LIMIT marks.tags.items
  pub tail : IfSome marks.tail (λ name. is_name name ≡ true)
  pub resets : AreNames ITEM_LIMIT marks.resets.items
