-- How a shortage's file is read, up to its first refusal: its size, and its lines one by one. A line that is missing counts as
-- an empty one. For src/shortage_text.rt and src/pieces.rt.
use Rattle.std.specs.Prelude.{ℕ, ◌+◌, Bool, false, ◌||◌, ◌&&◌, List, [], ◌∷◌, length, take, ◌==◌, nat_le, if◌then◌else◌, Option, None, Some, Result, Ok, Err, codes}
use Rattle.std.specs.List.{list_all}
use Rattle.std.specs.Str.{bytes_eq}
use Rattle.tail_book.specs.Name.{is_name_byte}
use Rattle.tail_book.specs.Seen.{BookSeen}
use Rattle.tail_text.specs.Checks.{look, look_each, must}
use Rattle.tail_text.specs.Parts.{parts_of, space}
use Rattle.tail_text.specs.Reading.{refusal_at}
use Rattle.tail_text.specs.declared.codes.TheConstants.{HEADER, SHAPE, TOO_BIG, UNKNOWN}
use Rattle.tail_text.specs.declared.refusal.Refusal.{Refusal}
use Rattle.tail_text.specs.declared.refusal.TheConstants.{SIZE_LIMIT}
use Rattle.tail_text.specs.declared.refusal.Table.TheVariants.{Plan}
use Rattle.shortage_reader.specs.BookIds.{activity_named}
use Rattle.shortage_reader.specs.Told.{ToldSeen}

-- the refusal of a shortage's file, told as that of a plan's, with a code, at a line, or at 0 for the whole file
abbrev pub refused : ℕ → ℕ → Refusal
refused code place = refusal_at code Plan place

-- the first of the lines that are left, and those behind it
abbrev pub first_of : List (List ℕ) → List ℕ
first_of [] = []
first_of (line ∷ rest) = line

abbrev pub later : List (List ℕ) → List (List ℕ)
later [] = []
later (line ∷ rest) = rest

-- a byte of a name, or a blank, a comma or a colon, which stand between words
abbrev pub is_plain_byte : ℕ → Bool
is_plain_byte c = is_name_byte c || (c == 32 || (c == 44 || c == 58))

abbrev pub is_plain : List ℕ → Bool
is_plain text = list_all is_plain_byte text

-- a line that begins with a word, as it stands
abbrev pub words_in : List ℕ → ℕ → List ℕ → Result (List ℕ) Refusal
words_in word place text =
    must (bytes_eq (take (length word) text) word && is_plain text) (refused SHAPE place) (Ok text)

-- the activity of an id, which the book has
abbrev pub or_unknown : ℕ → Option ℕ → Result ℕ Refusal
or_unknown place None = Err (refused UNKNOWN place)
or_unknown place (Some a) = Ok a

abbrev pub number_at : BookSeen → ℕ → List ℕ → Result ℕ Refusal
number_at book place id = or_unknown place (activity_named book id)

-- the activities of a line's parts, of which the first is a word
abbrev pub ids_in : BookSeen → List ℕ → ℕ → List (List ℕ) → Result (List ℕ) Refusal
ids_in book word place [] = Err (refused SHAPE place)
ids_in book word place (first ∷ ids) = must (bytes_eq first word) (refused SHAPE place) (look_each (number_at book place) ids)

-- the last line is ended by a newline, and nothing stands behind it
abbrev pub is_end : List (List ℕ) → Bool
is_end [] = false
is_end (line ∷ rest) = length line == 0 && length rest == 0

-- how many the aircraft can fly, and then the end
abbrev pub behind_brought : List ℕ → List ℕ → List ℕ → ℕ → List ℕ → List (List ℕ) → Result ToldSeen Refusal
behind_brought because asked brought place last lines =
    look (words_in (codes "at most ") place last) (λ at_most.
    must (is_end lines) (refused SHAPE (place + 1)) (
    Ok (record { because = because; asked = asked; brought = brought; at_most = at_most })))

-- whether a line is one of brought activities
abbrev pub is_brought : List ℕ → Bool
is_brought line = bytes_eq (take 8 line) (codes "brought ")

-- the brought activities, if there is a line of them, and what stands behind
abbrev pub behind_asked : BookSeen → List ℕ → List ℕ → List (List ℕ) → Result ToldSeen Refusal
behind_asked book because asked lines =
    if is_brought (first_of lines)
    then look (ids_in book (codes "brought") 4 (parts_of space (first_of lines))) (λ brought.
    behind_brought because asked brought 5 (first_of (later lines)) (later (later lines)))
    else behind_brought because asked [] 4 (first_of lines) (later lines)

-- what is wanting, the asked activities, and what stands behind
abbrev pub behind_first : BookSeen → List (List ℕ) → Result ToldSeen Refusal
behind_first book lines =
    look (words_in (codes "because ") 2 (first_of lines)) (λ because.
    look (ids_in book (codes "asked") 3 (parts_of space (first_of (later lines)))) (λ asked.
    behind_asked book because asked (later (later lines))))

-- the shortage of a file's lines
abbrev pub shortage_of : BookSeen → List (List ℕ) → Result ToldSeen Refusal
shortage_of book lines =
    must (bytes_eq (first_of lines) (codes "infeasible")) (refused HEADER 1) (behind_first book (later lines))

-- the shortage in a file, or its first refusal; a refusal's place is the number of its line, counted from 1
abbrev pub shortage_in : BookSeen → List ℕ → Result ToldSeen Refusal
shortage_in book bytes = must (nat_le (length bytes) SIZE_LIMIT) (refused TOO_BIG 0) (shortage_of book (parts_of 10 bytes))
