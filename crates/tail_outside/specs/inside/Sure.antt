-- Sinks and files that never fail, with room for so many bytes. For src/sure_files.rt and src/sure_sink.rt.
use Rattle.std.specs.Prelude.{ℕ, ◌-◌, Bool, true, false, ◌||◌, List, [], ◌++◌, length, nat_lt, Option, Some, None, if◌then◌else◌, option_and_then, unwrap_or, ◌≡◌, refl}
use Rattle.std.proofs.Common.{ap}
use Rattle.std.specs.Option.{option_map_or}
use Rattle.tail_outside.specs.inside.Held.{first_under}
use Rattle.tail_outside.specs.inside.Seen.{FileSeen, SureSinkSeen, SureFileSeen}

-- these bytes, and room for so many more
abbrev pub with_room : List ℕ → ℕ → SureSinkSeen
with_room bytes room = record { bytes = bytes; left = room; ceased = false }

-- a file with room for so many more bytes
abbrev pub file_with_room : ℕ → FileSeen → SureFileSeen
file_with_room room file = record { name = file.name; sink = with_room file.bytes room }

-- a piece is dropped where it passes the room that is left, and after one that was
abbrev pub drops : SureSinkSeen → List ℕ → Bool
drops sink piece = sink.ceased || nat_lt sink.left (length piece)

-- the sink after a piece: it takes it, or drops it and has ceased
abbrev pub after_piece : SureSinkSeen → List ℕ → SureSinkSeen
after_piece sink piece =
    if drops sink piece
    then record sink { ceased = true }
    else record sink { bytes = sink.bytes ++ piece; left = sink.left - length piece }

-- the sink without its bytes; no room is given back
abbrev pub emptied : SureSinkSeen → SureSinkSeen
emptied sink = record sink { bytes = [] }

-- what is told of a sink: its bytes, unless it has ceased
abbrev pub told_of : SureSinkSeen → Option (List ℕ)
told_of sink = if sink.ceased then None else Some sink.bytes

-- the sink of the first file of a name
abbrev pub sink_under : List SureFileSeen → List ℕ → Option SureSinkSeen
sink_under = first_under (λ file. file.name) (λ file. file.sink)

-- what is told of a name: the bytes of its file, unless there is none or it has ceased
abbrev pub told_under : List SureFileSeen → List ℕ → Option (List ℕ)
told_under files name = option_and_then told_of (sink_under files name)

-- a name has ceased where no file has it, or where its file has
abbrev pub ceased_under : List SureFileSeen → List ℕ → Bool
ceased_under files name = option_map_or (λ sink. sink.ceased) (sink_under files name) true

-- the bytes of the first file of a name, also of one that has ceased
abbrev pub held_under : List SureFileSeen → List ℕ → Option (List ℕ)
held_under = first_under (λ file. file.name) (λ file. file.sink.bytes)

-- what is read under a name: those bytes, and no bytes where no file has the name
abbrev pub read_under : List SureFileSeen → List ℕ → List ℕ
read_under files name = unwrap_or (held_under files name) []

-- a sink that has ceased tells nothing
pub told_of-ceased : (sink : SureSinkSeen) → sink.ceased ≡ true → told_of sink ≡ None
told_of-ceased sink gone = ap (λ (c : Bool). if c then None else Some sink.bytes) gone

-- of a name that has ceased nothing is told
pub told_under-ceased : (files : List SureFileSeen) (name : List ℕ) → ceased_under files name ≡ true → told_under files name ≡ None
told_under-ceased files name gone = of_sink (sink_under files name) gone
  where
    of_sink : (found : Option SureSinkSeen) → option_map_or (λ sink. sink.ceased) found true ≡ true → option_and_then told_of found ≡ None
    of_sink None missing = refl
    of_sink (Some sink) ceased = told_of-ceased sink ceased
