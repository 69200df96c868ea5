-- The table of quotas: its header, its records, and what each says or why it is refused. For src/quota_table.rt.
use Rattle.std.specs.Prelude.{ℕ, ◌+◌, ◌-◌, ℤ, pos, List, [], ◌∷◌, ◌++◌, codes, length, ◌==◌, nat_le, nat_lt, position, Option, Result, Ok, Err}
use Rattle.std.specs.Option.{ok_or}
use Rattle.std.specs.Str.{bytes_eq, is_utf8}
use Rattle.tail_book.specs.Seen.{BookSeen}
use Rattle.tail_text.specs.Checks.{look, must}
use Rattle.tail_text.specs.declared.codes.TheConstants.{HEADER, NOT_UTF8, NUMBER, SHAPE, TOO_BIG, TOO_MANY, UNKNOWN}
use Rattle.tail_text.specs.declared.refusal.TheConstants.{SIZE_LIMIT}
use Rattle.table_records.specs.Fields.{field_at}
use Rattle.table_records.specs.Records.{records_of}
use Rattle.table_records.specs.Table.{is_headed, under}
use Rattle.table_records.specs.Values.{name_in, number_in, stamp_in}
use Rattle.quota_rows.specs.Belongs.{day_of}
use Rattle.quota_rows.specs.declared.quota.Quota.{Quota}
use Rattle.quota_rows.specs.declared.quota.TheConstants.{QUOTA_LIMIT}

-- why a table of quotas is refused, and where: the number of its record, where the header is record 1; 0 is the whole table
pub record QuotaRefusal : Type 0 where
  pub code : ℕ
  pub place : ℕ

abbrev pub refused_at : ℕ → ℕ → QuotaRefusal
refused_at code place = record { code = code; place = place }

-- the number of the airport of this name, if the book has one
abbrev pub airport_named : BookSeen → List ℕ → Option ℕ
airport_named book name = position (λ airport. bytes_eq airport.name name) book.rules.airports

-- an airport of the book
abbrev pub airport_in : BookSeen → List ℕ → Result ℕ ℕ
airport_in book field =
    look (name_in field) (λ name.
    ok_or (airport_named book name) UNKNOWN)

-- a day as `YYYY-MM-DD`: what is a moment with `T00:00` behind it
abbrev pub day_in : List ℕ → Result ℤ ℕ
day_in field =
    look (stamp_in (field ++ codes "T00:00")) (λ moment.
    Ok (day_of moment))

-- minutes, from 1 to so many
abbrev pub minutes_in : ℕ → List ℕ → Result ℤ ℕ
minutes_in most field =
    look (number_in most field) (λ minutes.
    must (nat_le 1 minutes) NUMBER (
    Ok (pos minutes)))

-- what a record says, its fields from left to right, or the code of its first fault
abbrev pub quota_in : BookSeen → List (List ℕ) → Result Quota ℕ
quota_in book fields =
    look (airport_in book (field_at fields 0)) (λ airport.
    look (day_in (field_at fields 1)) (λ day.
    look (minutes_in 10_000_000 (field_at fields 2)) (λ below.
    look (number_in 4_000 (field_at fields 3)) (λ most.
    Ok (record { airport = airport; day = day; below = below; most = most })))))

-- the header
abbrev pub header : List (List ℕ)
header = codes "airport" ∷ codes "day" ∷ codes "below" ∷ codes "most" ∷ []

-- what one record gives, where so many may still come: its number of fields, whether it is one too many, and its fields
abbrev pub record_in : BookSeen → ℕ → List (List ℕ) → Result Quota ℕ
record_in book room fields =
    must (length fields == length header) SHAPE (
    must (nat_lt 0 room) TOO_MANY (
    quota_in book fields))

-- a quota, or its refusal at its place
abbrev pub placed : ℕ → Result Quota ℕ → Result Quota QuotaRefusal
placed place (Ok quota) = Ok quota
placed place (Err code) = Err (refused_at code place)

-- a quota before those that follow it, or the first refusal
abbrev pub quota_then : ℕ → Result Quota ℕ → Result (List Quota) QuotaRefusal → Result (List Quota) QuotaRefusal
quota_then place quota quotas =
    look (placed place quota) (λ first.
    look quotas (λ more.
    Ok (first ∷ more)))

-- the quotas of the records from a place on, of which so many may still come
unfoldable pub quotas_from : BookSeen → ℕ → ℕ → List (List (List ℕ)) → Result (List Quota) QuotaRefusal
quotas_from book place room [] = Ok []
quotas_from book place room (fields ∷ more) =
    quota_then place (record_in book room fields) (quotas_from book (place + 1) (room - 1) more)

-- the quotas of a table's records, of which the first has to be the header
abbrev pub quotas_in : BookSeen → List (List (List ℕ)) → Result (List Quota) QuotaRefusal
quotas_in book records =
    must (is_headed header records) (refused_at HEADER 1) (
    quotas_from book 2 QUOTA_LIMIT (under records))

-- the quotas of a table, in its order, or its first refusal
abbrev pub quotas_of : BookSeen → List ℕ → Result (List Quota) QuotaRefusal
quotas_of book bytes =
    must (nat_le (length bytes) SIZE_LIMIT) (refused_at TOO_BIG 0) (
    must (is_utf8 bytes) (refused_at NOT_UTF8 0) (
    quotas_in book (records_of bytes)))
