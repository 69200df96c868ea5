-- The text of an audit as a whole, and which audits can be printed.
use Rattle.std.specs.Prelude.{ℕ, ◌<◌, ⊤, All, length, List}
use Rattle.tail_book.specs.Seen.{BookSeen}
use Rattle.tail_book.specs.Lookup.{activities, aircraft}
use Rattle.plan_audit.specs.declared.broken.Audit.{Audit}
use Rattle.plan_audit.specs.declared.broken.Broken.{Broken}
use Rattle.plan_audit.specs.declared.broken.Broken.TheVariants.{Unknown, Twice, Uncovered, NotAllowed, Curfew, NoLink, Counter}
use Rattle.plan_report.specs.Lines.{text_of}
use Rattle.plan_report.specs.AuditText.{audit_lines}
use Rattle.plan_audit.specs.declared.broken.Audit.TheVariants as audit

-- the audit as it is printed
abbrev pub audit_text : BookSeen → Audit → List ℕ
audit_text book found = text_of (audit_lines book found)

-- the numbers in a broken rule are of the book
abbrev pub IsOfBook : BookSeen → Broken → Type 0
IsOfBook book (Unknown name) = ⊤
IsOfBook book (Twice name) = ⊤
IsOfBook book (Uncovered a) = a < activities book
IsOfBook book (NotAllowed k a) = (k < aircraft book) × (a < activities book)
IsOfBook book (Curfew k a) = (k < aircraft book) × (a < activities book)
IsOfBook book (NoLink k a) = (k < aircraft book) × (a < activities book)
IsOfBook book (Counter k a c) = (k < aircraft book) × (a < activities book) × (c < length book.rules.counters)

-- the numbers in an audit's broken rules are of the book
abbrev pub AreOfBook : BookSeen → Audit → Type 0
AreOfBook book (audit.Legal cost) = ⊤
AreOfBook book (audit.Broken rules) = All (IsOfBook book) rules.items
