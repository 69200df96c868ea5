-- What is printed for an audit: what a legal plan costs, or how many rules a plan breaks, and a line for each of them.
use Rattle.std.specs.Prelude.{ℕ, length, map, List, [], ◌∷◌, ◌++◌, codes, decimal, slice_index_or}
use Rattle.tail_book.specs.Seen.{BookSeen}
use Rattle.tail_book.specs.Lookup.{activity_of, tail_of}
use Rattle.plan_audit.specs.declared.broken.Audit.{Audit}
use Rattle.plan_audit.specs.declared.broken.Broken.{Broken}
use Rattle.plan_audit.specs.declared.broken.Broken.TheVariants.{Unknown, Twice, Uncovered, NotAllowed, Curfew, NoLink, Counter}
use Rattle.plan_report.specs.Lines.{newline}
use Rattle.plan_audit.specs.declared.broken.Audit.TheVariants as audit

-- the name of a counter, empty where no counter has the number
abbrev pub counter_name : BookSeen → ℕ → List ℕ
counter_name book c = slice_index_or (map (λ counter. counter.name) book.rules.counters) c []

-- an aircraft and an activity by their names
abbrev pub pair_names : BookSeen → ℕ → ℕ → List ℕ
pair_names book k a = (tail_of book k).name ++ codes " " ++ (activity_of book a).id

-- which rule is broken, and by whom
abbrev pub broken_text : BookSeen → Broken → List ℕ
broken_text book (Unknown name) = codes "unknown " ++ name
broken_text book (Twice name) = codes "twice " ++ name
broken_text book (Uncovered a) = codes "uncovered " ++ (activity_of book a).id
broken_text book (NotAllowed k a) = codes "notallowed " ++ pair_names book k a
broken_text book (Curfew k a) = codes "curfew " ++ pair_names book k a
broken_text book (NoLink k a) = codes "nolink " ++ pair_names book k a
broken_text book (Counter k a c) = codes "counter " ++ pair_names book k a ++ codes " " ++ counter_name book c

-- the line of a broken rule
abbrev pub broken_line : BookSeen → Broken → List ℕ
broken_line book rule = broken_text book rule ++ newline

-- what a legal plan costs, as a line
abbrev pub legal_line : ℕ → List ℕ
legal_line cost = codes "legal " ++ decimal cost ++ newline

-- how many rules are broken, and a line for each of them
abbrev pub broken_lines : BookSeen → List Broken → List (List ℕ)
broken_lines book rules = (codes "broken " ++ decimal (length rules) ++ newline) ∷ map (broken_line book) rules

-- the lines of an audit
abbrev pub audit_lines : BookSeen → Audit → List (List ℕ)
audit_lines book (audit.Legal cost) = legal_line cost ∷ []
audit_lines book (audit.Broken rules) = broken_lines book rules.items
