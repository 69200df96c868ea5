-- The records of a text, as `csv` reads them: what is wrong with one is not asked here.
use Rattle.std.specs.Prelude.{ℕ, List}
use Rattle.csv.specs.Reading.{default_config, records, strip_bom}

-- every record of the bytes, as CSV with commas and double quotes; a byte order mark in front is left out, and so are empty lines
abbrev pub records_of : List ℕ → List (List (List ℕ))
records_of bytes = records default_config (strip_bom bytes)
