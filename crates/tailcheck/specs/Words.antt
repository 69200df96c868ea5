-- The reading of the words: the program's name, the names of three tables, and that of a plan's file or of a certificate's.
use Rattle.std.specs.Prelude.{ℕ, List, codes, Option, Some, None, option_and_then, option_map}
use Rattle.clap.specs.Words.{App, Row, first_of, with_rule}
use Rattle.run_frame.specs.Words.{matched, optional, tables_command, tables_in}
use Rattle.tailcheck.specs.Texts.{CheckNamesSeen, SubjectName, PlanName, CertificateName}

-- the command: three places and two options
abbrev pub command : App
command = with_rule (with_rule (tables_command (codes "tailcheck")) (optional (codes "cert"))) (optional (codes "plan"))

-- exactly one of the two is judged, the certificate or the plan
abbrev pub subject_of : Option (List ℕ) → Option (List ℕ) → Option SubjectName
subject_of (Some cert) None = Some (CertificateName cert)
subject_of None (Some plan) = Some (PlanName plan)
subject_of None None = None
subject_of (Some cert) (Some plan) = None

-- the names among what the command matched
abbrev pub names_in : List Row → Option CheckNamesSeen
names_in rows =
    option_and_then (λ tables. option_map (λ subject. record { tables = tables; subject = subject })
    (subject_of (first_of (codes "cert") rows) (first_of (codes "plan") rows)))
    (tables_in rows)

-- the names that the words give; words that the command refuses give none
unfoldable pub check_of : List (List ℕ) → Option CheckNamesSeen
check_of words = option_and_then names_in (matched command words)
