-- The records that a reader of bytes has left. For src/records.rt.
use Rattle.std.specs.Prelude.{ℕ, List, [], length, ◌∷◌, ◌+◌, ◌≡◌, true, false, Some, Bool, if◌then◌else◌}
use Rattle.std.specs.Borrow.{Bor}
use Rattle.std.specs.Option.{option_map_or}
use Rattle.csv.specs.Machine.{ends_at_end}
use Rattle.csv.specs.Reading.{Ready, default_config, is_flexible, reader_config, reader_state, reader_trim, records_from, source_of}
use Rattle.csv.specs.declared.reader.Reader.{Reader}
use Rattle.csv.specs.declared.reader.Trim.TheVariants as trim
use Rattle.csv.specs.declared.parser.State.{State}

-- the records of what is left of a text, from a state of the machine
abbrev pub rest_of : State → List ℕ → List (List (List ℕ))
rest_of state left = records_from default_config (length left + 1) state left

-- the records that a reader of bytes has left
abbrev pub left_of : Reader (Bor (List ℕ)) → List (List (List ℕ))
left_of r = option_map_or (rest_of (reader_state r)) (source_of (λ s. Some s.now) r) []

-- the reader reads on as a table asks: with the default settings, each record as it comes
pub record IsReading (r : Reader (Bor (List ℕ))) : Type 0 where
  pub config : reader_config r ≡ default_config
  pub trim : reader_trim r ≡ trim.None
  pub ready : Ready r
  pub bends : is_flexible r ≡ true
  pub between : ends_at_end (reader_state r) ≡ false
  pub source : (y : List ℕ) × (source_of (λ s. Some s.now) r ≡ Some y)

-- the first record that was left is taken, with these fields, and the reader reads on behind it
abbrev pub HasTaken : Reader (Bor (List ℕ)) → List (List ℕ) → Reader (Bor (List ℕ)) → Type 0
HasTaken before fields after = (left_of before ≡ fields ∷ left_of after) × IsReading after

-- what is left: nothing once the reader has come to the end or has failed
abbrev pub left_unless : Bool → Reader (Bor (List ℕ)) → List (List (List ℕ))
left_unless done r = if done then [] else left_of r

-- the reader reads on until then
abbrev pub IsSound : Bool → Reader (Bor (List ℕ)) → Type 0
IsSound done r = done ≡ false → IsReading r
