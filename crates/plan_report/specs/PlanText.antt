-- How a plan file is read, up to its first refusal: its size, its first line, and its later lines one by one.
use Rattle.std.specs.Prelude.{ℕ, ◌+◌, ◌-◌, Bool, false, ◌&&◌, ◌||◌, List, [], ◌∷◌, length, take, drop, slice_index, ◌==◌, nat_le, nat_lt, if◌then◌else◌, Result, Ok, Err, codes}
use Rattle.std.specs.List.{list_all}
use Rattle.std.specs.Result.{is_ok}
use Rattle.std.specs.Str.{bytes_eq}
use Rattle.tail_book.specs.Name.{is_name}
use Rattle.tail_book.specs.declared.limits.TheConstants.{ACTIVITY_LIMIT, TAIL_LIMIT}
use Rattle.tail_book.specs.Seen.{RawLineSeen, RawPlanSeen}
use Rattle.tail_text.specs.Checks.{look, must}
use Rattle.tail_text.specs.Number.{number_of}
use Rattle.tail_text.specs.Parts.{parts_of, space}
use Rattle.tail_text.specs.Reading.{refusal_at}
use Rattle.tail_text.specs.declared.codes.TheConstants.{HEADER, SHAPE, TOO_BIG, TOO_MANY}
use Rattle.tail_text.specs.declared.refusal.Refusal.{Refusal}
use Rattle.tail_text.specs.declared.refusal.TheConstants.{SIZE_LIMIT}
use Rattle.tail_text.specs.declared.refusal.Table.TheVariants.{Plan}
use Rattle.plan_report.specs.TextLines.{LineSeen, lines_of}

-- the refusal of a plan file with a code, at a line, or at 0 for the whole file
abbrev pub refused : ℕ → ℕ → Refusal
refused code place = refusal_at code Plan place

-- the bytes of a byte order mark
abbrev pub mark : List ℕ
mark = 239 ∷ 187 ∷ 191 ∷ []

-- a text without the byte order mark in front of it, if it has one
abbrev pub without_mark : List ℕ → List ℕ
without_mark bytes = if bytes_eq (take 3 bytes) mark then drop 3 bytes else bytes

-- a number of 64 bits without a sign
abbrev pub is_cost : List ℕ → Bool
is_cost part = is_ok (number_of 18_446_744_073_709_551_615 part)

-- the words that two numbers follow: `limit` with two costs, and `repaired` with how many moves and a cost
abbrev pub takes_two : List ℕ → Bool
takes_two first = bytes_eq first (codes "limit") || bytes_eq first (codes "repaired")

-- `optimal` and a cost, or one of these and two numbers
abbrev pub is_heading : List (List ℕ) → Bool
is_heading (first ∷ cost ∷ []) = bytes_eq first (codes "optimal") && is_cost cost
is_heading (first ∷ low ∷ high ∷ []) = takes_two first && (is_cost low && is_cost high)
is_heading parts = false

-- the first line says what was found, and a newline ends it
abbrev pub is_first_line : LineSeen → Bool
is_first_line line = line.ends && is_heading (parts_of space line.text)

-- the aircraft's name: what stands before the colon that ends the first part
abbrev pub tail_in : ℕ → List ℕ → Result (List ℕ) Refusal
tail_in place part =
    must (slice_index part (length part - 1) == 58) (refused SHAPE place) (
    must (is_name (take (length part - 1) part)) (refused SHAPE place) (
    Ok (take (length part - 1) part)))

-- the ids: the other parts, which are names, and not too many
abbrev pub ids_in : ℕ → List (List ℕ) → Result (List (List ℕ)) Refusal
ids_in place parts =
    must (list_all is_name parts) (refused SHAPE place) (
    must (nat_le (length parts) ACTIVITY_LIMIT) (refused TOO_MANY place) (
    Ok parts))

-- the aircraft and the ids of the parts of one line
abbrev pub line_of : ℕ → List (List ℕ) → Result RawLineSeen Refusal
line_of place [] = Err (refused SHAPE place)
line_of place (first ∷ parts) =
    look (tail_in place first) (λ tail.
    look (ids_in place parts) (λ ids.
    Ok (record { tail = tail; ids = ids })))

-- the same of one line, which a newline ends
abbrev pub line_in : ℕ → LineSeen → Result RawLineSeen Refusal
line_in place line = must line.ends (refused SHAPE place) (line_of place (parts_of space line.text))

-- the lines from a place on, of which so many may still come
unfoldable pub lines_from : ℕ → ℕ → List LineSeen → Result (List RawLineSeen) Refusal
lines_from place room [] = Ok []
lines_from place room (line ∷ more) =
    must (nat_lt 0 room) (refused TOO_MANY place) (
    look (line_in place line) (λ first.
    look (lines_from (place + 1) (room - 1) more) (λ rest.
    Ok (first ∷ rest))))

-- the plan of a file's lines; the numbers of the first one are not kept
abbrev pub plan_of : List LineSeen → Result RawPlanSeen Refusal
plan_of [] = Err (refused HEADER 1)
plan_of (first ∷ later) =
    must (is_first_line first) (refused HEADER 1) (
    look (lines_from 2 TAIL_LIMIT later) (λ lines.
    Ok (record { lines = lines })))

-- the plan in a file, or its first refusal; a refusal's place is the number of its line, counted from 1
abbrev pub plan_in : List ℕ → Result RawPlanSeen Refusal
plan_in bytes =
    must (nat_le (length bytes) SIZE_LIMIT) (refused TOO_BIG 0) (
    plan_of (lines_of (without_mark bytes)))
