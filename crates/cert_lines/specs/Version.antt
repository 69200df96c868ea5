-- The number of each version of certificates. For src/version.rt.
use Rattle.std.specs.Prelude.{ℕ}
use Rattle.cert_lines.specs.declared.version.Version.{Version}
use Rattle.cert_lines.specs.declared.version.Version.TheVariants.{Full, Lean}

-- as the header has it
abbrev pub number_of_version : Version → ℕ
number_of_version Full = 1
number_of_version Lean = 2
