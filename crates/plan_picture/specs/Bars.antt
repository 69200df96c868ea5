-- The bars of activities, and the rules that their aircraft break with them.
use Rattle.std.specs.Prelude.{ℕ, ℤ, ◌+◌, ◌*◌, ◌%◌, List, [], ◌∷◌, ◌++◌, codes, decimal, nat_eq, ◌&&◌, unsigned_abs, Option, None, Some, if◌then◌else◌}
use Rattle.tail_book.specs.Seen.{BookSeen}
use Rattle.tail_book.specs.Lookup.{activity_of, airport_of, end_of, from_port, is_flight, start_of, tail_of, to_port}
use Rattle.tail_book.specs.Numbers.{is_empty}
use Rattle.plan_audit.specs.declared.broken.Broken.{Broken}
use Rattle.plan_audit.specs.declared.broken.Broken.TheVariants.{Unknown, Twice, Uncovered, NotAllowed, Curfew, NoLink, Counter}
use Rattle.plan_report.specs.AuditText.{counter_name}
use Rattle.plan_report.specs.Lines.{newline}
use Rattle.plan_picture.specs.Calendar.{moment_text}
use Rattle.plan_picture.specs.Layout.{span, x_of, y_of}

-- the text, where the numbers are those of this aircraft and this activity
abbrev pub if_same : ℕ → ℕ → ℕ → ℕ → List ℕ → List ℕ
if_same k a j b text = if nat_eq j k && nat_eq b a then text else []

-- the name of a broken rule, where aircraft k breaks it with activity a
abbrev pub rule_at : BookSeen → ℕ → ℕ → Broken → List ℕ
rule_at book k a (Unknown name) = []
rule_at book k a (Twice name) = []
rule_at book k a (Uncovered b) = []
rule_at book k a (NotAllowed j b) = if_same k a j b (codes " notallowed")
rule_at book k a (Curfew j b) = if_same k a j b (codes " curfew")
rule_at book k a (NoLink j b) = if_same k a j b (codes " nolink")
rule_at book k a (Counter j b c) = if_same k a j b (codes " counter " ++ counter_name book c)

-- the names of all rules that aircraft k breaks with activity a
abbrev pub rules_at : BookSeen → ℕ → ℕ → List Broken → List ℕ
rules_at book k a [] = []
rules_at book k a (rule ∷ rules) = rule_at book k a rule ++ rules_at book k a rules

-- whether an activity is a flight or ground time
abbrev pub kind_class : BookSeen → ℕ → List ℕ
kind_class book a = if is_flight book a then codes "flight" else codes "ground"

-- the class that makes a bar red, where a rule is named
abbrev pub red_class : List ℕ → List ℕ
red_class names = if is_empty names then [] else codes " red"

-- the class of an outline, where another aircraft flew the activity before
abbrev pub moved_class : Option ℕ → List ℕ
moved_class None = []
moved_class (Some j) = codes " moved"

-- and which aircraft that was
abbrev pub moved_text : BookSeen → Option ℕ → List ℕ
moved_text book None = []
moved_text book (Some j) = codes ", moved from " ++ (tail_of book j).name

-- how a bar is drawn: as a flight or as ground time, in red where a rule is named, and with an outline where another aircraft
-- flew the activity before
abbrev pub bar_class : BookSeen → ℕ → List ℕ → Option ℕ → List ℕ
bar_class book a names before = kind_class book a ++ red_class names ++ moved_class before

-- an airport and a moment
abbrev pub at_port : BookSeen → ℕ → ℤ → List ℕ
at_port book port moment = (airport_of book port).name ++ codes " " ++ moment_text (unsigned_abs moment)

-- what is told of an activity: its id, where and when it starts and ends, from whom it is moved, and the rules that are broken with it
abbrev pub details : BookSeen → ℕ → List ℕ → Option ℕ → List ℕ
details book a names before =
    (activity_of book a).id ++ codes ", " ++ at_port book (from_port book a) (start_of book a) ++ codes ", "
    ++ at_port book (to_port book a) (end_of book a) ++ moved_text book before ++ names

-- the front of a bar: its class, its place, which is at the activity's minutes, from its start to its end, and what is told of it
abbrev pub bar_front : BookSeen → ℤ → ℕ → ℕ → List ℕ → Option ℕ → List ℕ
bar_front book first row a names before =
    codes "<svg class='" ++ bar_class book a names before ++ codes "'" ++ span first (y_of row + 24) (start_of book a) (end_of book a)
    ++ codes " height='60'><title>" ++ details book a names before ++ codes "</title><rect width='100%' height='32'/>"

-- the bar of an activity in a row, with its id on it and its airports at its ends
abbrev pub bar_line : BookSeen → ℤ → ℕ → ℕ → List ℕ → Option ℕ → List ℕ
bar_line book first row a names before =
    bar_front book first row a names before ++ codes "<text class='id' x='50%' y='22'>" ++ (activity_of book a).id
    ++ codes "</text><text class='port' x='2' y='44'>" ++ (airport_of book (from_port book a)).name
    ++ codes "</text><text class='port to' x='100%' y='56'>" ++ (airport_of book (to_port book a)).name ++ (codes "</text></svg>" ++ newline)

-- the names of broken rules at the start of a bar, in turn above and below the bars of its row
abbrev pub rule_line : BookSeen → ℤ → ℕ → ℕ → ℕ → List ℕ → List ℕ
rule_line book first row i a names =
    codes "<text class='rule' x='" ++ decimal (x_of first (start_of book a)) ++ codes "' y='" ++ decimal (y_of row + 18 + (i % 2) * 78)
    ++ codes "'>" ++ names ++ (codes "</text>" ++ newline)

-- the bar, and the rules that are broken with it where there are any
abbrev pub bar_lines : BookSeen → ℤ → ℕ → ℕ → ℕ → List ℕ → Option ℕ → List (List ℕ)
bar_lines book first row i a names before =
    bar_line book first row a names before ∷ (if is_empty names then [] else rule_line book first row i a names ∷ [])
