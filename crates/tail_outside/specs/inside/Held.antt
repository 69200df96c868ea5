-- What is held under a name, and which calls fail. For src/mem_files.rt, src/calls.rt and others.
use Rattle.std.specs.Prelude.{ℕ, ◌+◌, ◌-◌, ◌^◌, Bool, List, [], Option, ◌==◌, min, option_map, find}
use Rattle.std.specs.List.{list_any}
use Rattle.std.specs.Str.{bytes_eq}
use Rattle.tail_outside.specs.inside.Seen.{FileSeen, CallsSeen, MemFilesSeen, MemSinkSeen}

-- what the first of these with a name has
abbrev pub first_under : {X Y : Type 0} → (X → List ℕ) → (X → Y) → List X → List ℕ → Option Y
first_under name_of part xs name = option_map part (find (λ x. bytes_eq (name_of x) name) xs)

-- the bytes of the first file of a name
abbrev pub bytes_under : List FileSeen → List ℕ → Option (List ℕ)
bytes_under = first_under (λ file. file.name) (λ file. file.bytes)

-- one more in a count, which ends at 2 ^ 64 - 1
abbrev pub one_up : ℕ → ℕ
one_up count = min (count + 1) (2 ^ 64 - 1)

-- the number of the next call
abbrev pub next_call : CallsSeen → ℕ
next_call calls = one_up calls.made

-- the next call is one of those that fail
abbrev pub fails_next : CallsSeen → Bool
fails_next calls = list_any (λ number. number == next_call calls) calls.failing

-- one more call was made
abbrev pub one_more : CallsSeen → CallsSeen
one_more calls = record calls { made = next_call calls }

-- no call was made, and those with these numbers will fail
abbrev pub calls_to_come : List ℕ → CallsSeen
calls_to_come failing = record { failing = failing; made = 0 }

-- files as they are handed in
abbrev pub files_at_first : List FileSeen → List ℕ → MemFilesSeen
files_at_first files failing = record { files = files; calls = calls_to_come failing; read_faults = 0; write_faults = 0 }

-- a sink that has taken nothing
abbrev pub sink_at_first : List ℕ → MemSinkSeen
sink_at_first failing = record { bytes = []; calls = calls_to_come failing; faults = 0 }
