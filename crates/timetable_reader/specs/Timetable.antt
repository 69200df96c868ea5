-- The timetable: its layout, and what a record of it says or why it is refused.
use Rattle.std.specs.Prelude.{ℕ, Bool, true, false, ◌&&◌, List, [], ◌∷◌, length, ◌==◌, if◌then◌else◌, codes, Result, Ok, Err, ℤ, pos, ◌-ℤ◌}
use Rattle.std.specs.Int.RustNames.{int_le}
use Rattle.std.specs.Str.{bytes_eq}
use Rattle.tail_book.specs.declared.limits.TheConstants.{ACTIVITY_LIMIT, SPAN_LIMIT}
use Rattle.tail_text.specs.declared.codes.TheConstants.{GROUND, KIND, SPAN}
use Rattle.tail_text.specs.declared.refusal.Refusal.{Refusal}
use Rattle.tail_text.specs.declared.refusal.Table.TheVariants.{Timetable}
use Rattle.table_records.specs.Fields.{field_at}
use Rattle.tail_text.specs.Checks.{look, must}
use Rattle.table_records.specs.Table.{Layout, table_of}
use Rattle.table_records.specs.NameLists.{names_of}
use Rattle.table_records.specs.Values.{name_in, optional_name_in, stamp_in}
use Rattle.timetable_reader.specs.Activity.{RawActivitySeen}

-- whether the activity is a flight
abbrev pub flight_in : List ℕ → Result Bool ℕ
flight_in text = if bytes_eq text (codes "flight") then Ok true
    else (if bytes_eq text (codes "ground") then Ok false else Err KIND)

-- one minute at least, and two days at most
abbrev pub is_span : ℤ → ℤ → Bool
is_span start end = int_le (pos 1) (end -ℤ start) && int_le (end -ℤ start) SPAN_LIMIT

-- the end that a text gives to an activity with this start
abbrev pub end_of : ℤ → List ℕ → Result ℤ ℕ
end_of start text =
    look (stamp_in text) (λ end.
    must (is_span start end) SPAN (
    Ok end))

-- on the ground an aircraft stays where it is, and in flight nothing is reset
abbrev pub is_whole : Bool → List ℕ → List ℕ → List (List ℕ) → Bool
is_whole flight from to resets = if flight then length resets == 0 else bytes_eq from to

-- what a record says, its fields from left to right and then as a whole, or the code of its first fault
abbrev pub activity_of : List (List ℕ) → Result RawActivitySeen ℕ
activity_of fields =
    look (name_in (field_at fields 0)) (λ id.
    look (flight_in (field_at fields 1)) (λ flight.
    look (name_in (field_at fields 2)) (λ from.
    look (name_in (field_at fields 3)) (λ to.
    look (stamp_in (field_at fields 4)) (λ start.
    look (end_of start (field_at fields 5)) (λ end.
    look (names_of (field_at fields 6)) (λ types.
    look (names_of (field_at fields 7)) (λ tags.
    look (optional_name_in (field_at fields 8)) (λ tail.
    look (names_of (field_at fields 9)) (λ resets.
    must (is_whole flight from to resets) GROUND (
    Ok (record {
      id = id;
      flight = flight;
      from = from;
      to = to;
      start = start;
      end = end;
      types = types;
      tags = tags;
      tail = tail;
      resets = resets;
    }))))))))))))

-- the header, the most records under it, and what each says
abbrev pub timetable : Layout RawActivitySeen
timetable = record {
  table = Timetable;
  header = codes "id" ∷ codes "kind" ∷ codes "from" ∷ codes "to" ∷ codes "start" ∷ codes "end"
      ∷ codes "types" ∷ codes "tags" ∷ codes "tail" ∷ codes "resets" ∷ [];
  limit = ACTIVITY_LIMIT;
  row_of = activity_of;
}

-- the records of a timetable, or its first refusal
abbrev pub timetable_of : List ℕ → Result (List RawActivitySeen) Refusal
timetable_of bytes = table_of timetable bytes
