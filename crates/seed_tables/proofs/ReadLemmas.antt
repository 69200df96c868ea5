-- The timetable and the fleet of a trial are read as they are written.
--
-- Each field is plain and each line is short, so `TableLemmas` gives the records back. Then each field is read by its
-- own reader: names have digits in their places, moments are those of `StampLemmas`, and a flight takes from 1 to 179
-- minutes.
use Rattle.std.proofs.Common.{◌≡◌, ◌+◌, ◌-◌, ◌/◌, ◌%◌, ◌<◌, ◌≤◌, ◌==◌, ◌&&◌, ℕ, suc, pos, Bool, true, false, if◌then◌else◌, List, [], ◌∷◌, ◌++◌, Ok, map, length, All, nat_le, nat_lt, arith, refl, ap}
use Rattle.std.specs.Prelude.{codes}
use Rattle.std.specs.List.{list_all}
use Rattle.std.proofs.lemmas.Bool.Decides.{nat_tests}
use Rattle.std.proofs.lemmas.List.{length-map}
use Rattle.csv.specs.Reading.{strip_bom}
use Rattle.jiff_core.specs.Calendar.{days_from_civil, day_count, days_of_years, days_of_months}
use Rattle.tail_book.specs.Name.{is_name, is_name_byte}
use Rattle.table_records.specs.NameLists.{names_of}
use Rattle.table_records.specs.Table.{rows_from}
use Rattle.timetable_reader.specs.Timetable.{activity_of, is_span, timetable, timetable_of}
use Rattle.fleet_rules.specs.Fleet.{fleet, fleet_of, tail_of}
use Rattle.seed_tables.specs.declared.flight.Flight.{Flight}
use Rattle.seed_tables.specs.Rows.{aircraft_fields, aircraft_name, airport_name, digit, flight_fields, flight_id, lines_of, stamp_text, type_name, types_field}
use Rattle.seed_tables.specs.Trial.{fleet_rows}
use Rattle.seed_tables.specs.inside.Plain.{is_plain, is_plain_byte, is_plain_row}
use Rattle.seed_tables.specs.inside.TrialBook.{first_minute}
use Rattle.seed_tables.specs.inside.RawTrial.{raw_flight, raw_tail, raw_tails, type_names}
use Rattle.seed_tables.proofs.StampLemmas.{stamp-read}
use Rattle.seed_tables.proofs.RouteLemmas.{later}
use Rattle.seed_tables.proofs.TableLemmas.{is_short, rows-read, table-read}

digit-plain : (n : ℕ) → is_plain_byte (digit n) ≡ true
digit-plain n = grind (arith, nat_tests)

digit-in-name : (n : ℕ) → is_name_byte (digit n) ≡ true
digit-in-name n = grind (arith, nat_tests)

-- fields that are plain

id-plain : (k j : ℕ) → is_plain (flight_id k j) ≡ true
id-plain k j = rw (digit-plain k, digit-plain (j / 10), digit-plain j) refl

airport-plain : (p : ℕ) → is_plain (airport_name p) ≡ true
airport-plain p = rw (digit-plain p) refl

aircraft-plain : (k : ℕ) → is_plain (aircraft_name k) ≡ true
aircraft-plain k = rw (digit-plain k) refl

stamp-plain : (t : ℕ) → is_plain (stamp_text t) ≡ true
stamp-plain t =
    rw (digit-plain ((3 + t / 1440) / 10), digit-plain (3 + t / 1440), digit-plain (t / 60 % 24 / 10), digit-plain (t / 60 % 24), digit-plain (t % 60 / 10), digit-plain (t % 60)) refl

types-plain : (k : ℕ) → is_plain (types_field k) ≡ true
types-plain k = by (k % 2 == 0)
  where
    by : (b : Bool) → is_plain (if b then [] else codes "Q") ≡ true
    by true = refl
    by false = refl

type-plain : (k : ℕ) → is_plain (type_name k) ≡ true
type-plain k = by (k % 2 == 0)
  where
    by : (b : Bool) → is_plain (if b then codes "P" else codes "Q") ≡ true
    by true = refl
    by false = refl

flight-plain : (f : Flight) → is_plain_row (flight_fields f) ≡ true
flight-plain f =
    rw (id-plain f.aircraft f.number, airport-plain f.from, airport-plain f.to, stamp-plain f.start, stamp-plain f.end, types-plain f.aircraft) refl

flights-plain : (flights : List Flight) → list_all is_plain_row (map flight_fields flights) ≡ true
flights-plain [] = refl
flights-plain (f ∷ flights) = rw (flight-plain f) (flights-plain flights)

one-fleet-plain : (k at : ℕ) → is_plain_row (aircraft_fields k at) ≡ true
one-fleet-plain k at = rw (aircraft-plain k, type-plain k, airport-plain at) refl

fleet-plain : (k : ℕ) (airports : List ℕ) → list_all is_plain_row (fleet_rows k airports) ≡ true
fleet-plain k [] = refl
fleet-plain k (at ∷ more) = rw (one-fleet-plain k at) (fleet-plain (k + 1) more)

-- lines that are short

flight-short : (f : Flight) → is_short (flight_fields f) ≡ true
flight-short f = by (f.aircraft % 2 == 0)
  where
    by : (b : Bool) → is_short (flight_id f.aircraft f.number ∷ codes "flight" ∷ airport_name f.from ∷ airport_name f.to ∷ stamp_text f.start ∷ stamp_text f.end
        ∷ (if b then [] else codes "Q") ∷ [] ∷ [] ∷ [] ∷ []) ≡ true
    by true = refl
    by false = refl

flights-short : (flights : List Flight) → list_all is_short (map flight_fields flights) ≡ true
flights-short [] = refl
flights-short (f ∷ flights) = rw (flight-short f) (flights-short flights)

one-fleet-short : (k at : ℕ) → is_short (aircraft_fields k at) ≡ true
one-fleet-short k at = by (k % 2 == 0)
  where
    by : (b : Bool) → is_short (aircraft_name k ∷ (if b then codes "P" else codes "Q") ∷ airport_name at ∷ codes "2025-03-03T00:00" ∷ codes "0" ∷ [] ∷ [] ∷ [] ∷ []) ≡ true
    by true = refl
    by false = refl

fleet-short : (k : ℕ) (airports : List ℕ) → list_all is_short (fleet_rows k airports) ≡ true
fleet-short k [] = refl
fleet-short k (at ∷ more) = rw (one-fleet-short k at) (fleet-short (k + 1) more)

-- fields that are read

id-name : (k j : ℕ) → is_name (flight_id k j) ≡ true
id-name k j = rw (digit-in-name k, digit-in-name (j / 10), digit-in-name j) refl

airport-is-name : (p : ℕ) → is_name (airport_name p) ≡ true
airport-is-name p = rw (digit-in-name p) refl

aircraft-is-name : (k : ℕ) → is_name (aircraft_name k) ≡ true
aircraft-is-name k = rw (digit-in-name k) refl

type-is-name : (k : ℕ) → is_name (type_name k) ≡ true
type-is-name k = by (k % 2 == 0)
  where
    by : (b : Bool) → is_name (if b then codes "P" else codes "Q") ≡ true
    by true = refl
    by false = refl

types-read : (k : ℕ) → names_of (types_field k) ≡ Ok (type_names k)
types-read k = by (k % 2 == 0)
  where
    by : (b : Bool) → names_of (if b then [] else codes "Q") ≡ Ok (if b then [] else codes "Q" ∷ [])
    by true = refl
    by false = refl

-- a flight within the first five days, from 1 to 179 minutes long, between two of the airports
pub record IsMade (f : Flight) : Type 0 where
  pub from : f.from < 5
  pub to : f.to < 5
  pub lasts : f.start + 1 ≤ f.end
  pub short : f.end ≤ f.start + 179
  pub early : f.end < 7200

spans : (d : ℕ) → 1 ≤ d → d ≤ 179 → (nat_le 1 d && nat_le d 2880) ≡ true
spans d some few = grind (arith, nat_tests)

span-is-good : (s e : ℕ) → s + 1 ≤ e → e ≤ s + 179 → is_span (pos (first_minute + s)) (pos (first_minute + e)) ≡ true
span-is-good s e some few =
    let same : e ≡ s + (e - s) = omega arith in
    rw same (rw (later first_minute s (e - s)) (spans (e - s) (omega arith) (omega arith)))

flight-read : (f : Flight) → IsMade f → activity_of (flight_fields f) ≡ Ok (raw_flight f)
flight-read f made =
    rw (
      id-name f.aircraft f.number,
      airport-is-name f.from,
      airport-is-name f.to,
      stamp-read f.start (omega (arith, made.lasts, made.early)),
      stamp-read f.end made.early,
      span-is-good f.start f.end made.lasts made.short,
      types-read f.aircraft,
    ) refl

pub timetable-read : (flights : List Flight) → All IsMade flights → length flights ≤ 1000
    → timetable_of (codes "id,kind,from,to,start,end,types,tags,tail,resets\n" ++ lines_of (map flight_fields flights)) ≡ Ok (map raw_flight flights)
unfolding strip_bom
timetable-read flights made few =
    table-read timetable (map flight_fields flights) (Ok (map raw_flight flights)) refl (flights-plain flights) (flights-short flights) refl
    (rw (length-map flights flight_fields) few)
    (rows-read timetable flight_fields raw_flight IsMade (λ f h. (refl, flight-read f h)) flights 2 4000 made (omega arith))

tail-read : (k at : ℕ) → tail_of (aircraft_fields k at) ≡ Ok (raw_tail k at)
unfolding days_from_civil day_count days_of_years days_of_months
tail-read k at = rw (aircraft-is-name k, type-is-name k, airport-is-name at) refl

positive : (n : ℕ) → 0 < n → nat_lt 0 n ≡ true
positive n h = grind (arith, nat_tests)

tails-read : (k place room : ℕ) (airports : List ℕ) → length airports ≤ room → rows_from fleet place room (fleet_rows k airports) ≡ Ok (raw_tails k airports)
unfolding rows_from
tails-read k place room [] few = refl
tails-read k place room (at ∷ more) few =
    rw (positive room (omega arith), tail-read k at, tails-read (k + 1) (place + 1) (room - 1) more (omega arith)) refl

rows-many : (k : ℕ) (airports : List ℕ) → length (fleet_rows k airports) ≡ length airports
rows-many k [] = refl
rows-many k (at ∷ more) = ap (λ (n : ℕ). suc n) (rows-many (k + 1) more)

pub fleet-read : (airports : List ℕ) → length airports ≤ 100
    → fleet_of (codes "tail,type,at,ready,fixed,tags,avoid,carry\n" ++ lines_of (fleet_rows 0 airports)) ≡ Ok (raw_tails 0 airports)
unfolding strip_bom
fleet-read airports few =
    table-read fleet (fleet_rows 0 airports) (Ok (raw_tails 0 airports)) refl (fleet-plain 0 airports) (fleet-short 0 airports) refl
    (omega (arith, rows-many 0 airports)) (tails-read 0 2 200 airports (omega arith))
