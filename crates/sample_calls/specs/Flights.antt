-- A timetable of flights alone: its layout, and what a record of it says or why it is refused. For src/flights_table.rt.
use Rattle.std.specs.Prelude.{ℕ, List, [], ◌∷◌, codes, Result, Ok, int_lt}
use Rattle.tail_text.specs.declared.refusal.Table.TheVariants.{Timetable}
use Rattle.tail_text.specs.Checks.{look, must}
use Rattle.table_records.specs.Fields.{field_at}
use Rattle.table_records.specs.Table.{Layout}
use Rattle.table_records.specs.Values.{name_in, stamp_in}
use Rattle.sample_calls.specs.declared.flights_table.Flight.{Flight}
use Rattle.sample_calls.specs.declared.flights_table.TheConstants.{FLIGHT_LIMIT}

-- what a record says, its fields from left to right and then as a whole, or the code of its first fault
abbrev pub flight_of : List (List ℕ) → Result Flight ℕ
flight_of fields =
    look (name_in (field_at fields 0)) (λ id.
    look (name_in (field_at fields 1)) (λ from.
    look (name_in (field_at fields 2)) (λ to.
    look (stamp_in (field_at fields 3)) (λ start.
    look (stamp_in (field_at fields 4)) (λ end.
    must (int_lt start end) 7 (
    Ok (record {
      id = id;
      from = from;
      to = to;
      start = start;
      end = end;
    })))))))

-- the header, the most records under it, and what each says
abbrev pub flights : Layout Flight
flights = record {
  table = Timetable;
  header = codes "id" ∷ codes "from" ∷ codes "to" ∷ codes "start" ∷ codes "end" ∷ [];
  limit = FLIGHT_LIMIT;
  row_of = flight_of;
}
