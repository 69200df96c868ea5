-- The lines of a plan: who flies each activity. For cert_writer/src/trailer.rt.
use Rattle.std.specs.Prelude.{ℕ, ◌+◌, List, [], ◌∷◌, Option, Some, None}
use Rattle.cert_lines.specs.declared.cert_line.CertLine.{CertLine}
use Rattle.cert_lines.specs.declared.cert_line.CertLine.TheVariants as line

-- a line for each activity from a on, with the aircraft that flies it
abbrev pub fly_lines : ℕ → List ℕ → List CertLine
fly_lines a [] = []
fly_lines a (k ∷ fliers) = line.Fly a k ∷ fly_lines (a + 1) fliers

-- a plan, where there is one: who flies each activity
abbrev pub plan_lines : Option (List ℕ) → List CertLine
plan_lines None = []
plan_lines (Some fliers) = line.Plan ∷ fly_lines 0 fliers
