-- What is told of why no plan is legal, or that one is, line by line. For src/report.rt and src/shortage_lines.rt.
use Rattle.std.specs.Prelude.{ℕ, ℤ, pos, ◌==◌, List, [], ◌∷◌, ◌++◌, codes, length, if◌then◌else◌}
use Rattle.tail_book.specs.Seen.{BookSeen}
use Rattle.tail_book.specs.Lookup.{activity_of, airport_of, from_port}
use Rattle.tail_book.specs.declared.limits.TheConstants.{LAST_MOMENT}
use Rattle.tail_book.specs.declared.outcome.Outcome.TheVariants as outcome
use Rattle.calendar_text.specs.Moment.{moment_text}
use Rattle.plan_report.specs.AuditText.{counter_name}
use Rattle.plan_report.specs.Lines.{newline, text_of}
use Rattle.plan_report.specs.Report.{first_line, ids_of}
use Rattle.shortage_finder.specs.declared.found.Cause.{Cause}
use Rattle.shortage_finder.specs.declared.found.Cause.TheVariants.{Alone, Airport, Crowd, Counter}
use Rattle.shortage_report.specs.ShareText.{at_most_line}
use Rattle.shortage_report.specs.Spans.{earliest_start, latest_end, latest_start}
use Rattle.shortage_report.specs.declared.why.Why.{Why}
use Rattle.shortage_report.specs.declared.why.Why.TheVariants.{Feasible, Short, Nothing}

-- the id of the first of some activities
abbrev pub first_id : BookSeen → List ℕ → List ℕ
first_id book [] = []
first_id book (a ∷ rest) = (activity_of book a).id

-- the name of the airport that the first of them leaves
abbrev pub first_airport : BookSeen → List ℕ → List ℕ
first_airport book [] = []
first_airport book (a ∷ rest) = (airport_of book (from_port book a)).name

-- what the asked activities are short of: anyone to fly the first; arrivals where the first leaves, until the latest start; aircraft
-- between the earliest start and the latest end; or a counter's values
abbrev pub cause_text : BookSeen → Cause → List ℕ → List ℕ
cause_text book Alone asked = codes "alone " ++ first_id book asked
cause_text book Airport asked = codes "airport " ++ first_airport book asked ++ codes " until " ++ moment_text (latest_start book (pos 0) asked)
cause_text book Crowd asked = codes "crowd " ++ moment_text (earliest_start book LAST_MOMENT asked) ++ codes " " ++ moment_text (latest_end book (pos 0) asked)
cause_text book (Counter c) asked = codes "counter " ++ counter_name book c

abbrev pub because_line : BookSeen → Cause → List ℕ → List ℕ
because_line book cause asked = codes "because " ++ cause_text book cause asked ++ newline

-- the activities that are asked for
abbrev pub asked_line : BookSeen → List ℕ → List ℕ
asked_line book asked = codes "asked" ++ ids_of book asked ++ newline

-- those that are brought, where there are some
abbrev pub brought_lines : BookSeen → List ℕ → List (List ℕ)
brought_lines book brought = if length brought == 0 then [] else (codes "brought" ++ ids_of book brought ++ newline) ∷ []

-- the lines of a shortage
abbrev pub shortage_lines : BookSeen → Cause → List ℕ → List ℕ → List ℤ → List (List ℕ)
shortage_lines book cause asked brought mosts =
    because_line book cause asked ∷ asked_line book asked ∷ (brought_lines book brought ++ at_most_line book mosts ∷ [])

-- that a legal plan exists, that nothing was found, and what a fullest plan that was found leaves out
abbrev pub feasible_line : List ℕ
feasible_line = codes "feasible\n"

abbrev pub nothing_line : List ℕ
nothing_line = codes "because nothing short\n"

abbrev pub uncovered_line : BookSeen → List ℕ → List ℕ
uncovered_line book list = codes "uncovered" ++ ids_of book list ++ newline

-- the lines of what is told
abbrev pub why_lines : BookSeen → Why → List (List ℕ)
why_lines book Feasible = feasible_line ∷ []
why_lines book (Short found) = first_line outcome.Infeasible ∷ shortage_lines book found.cause found.asked.items found.brought.items found.mosts.items
why_lines book (Nothing uncovered) = first_line outcome.Infeasible ∷ nothing_line ∷ uncovered_line book uncovered.items ∷ []

-- the text of what is told
abbrev pub why_text : BookSeen → Why → List ℕ
why_text book why = text_of (why_lines book why)
