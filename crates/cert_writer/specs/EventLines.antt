-- The lines that events have in a certificate, by its version. For src/event_lines.rt.
use Rattle.std.specs.Prelude.{Bool, true, false, List, [], ◌∷◌, ◌++◌, map, Option, Some, None, if◌then◌else◌}
use Rattle.std.specs.Option.{option_to_list}
use Rattle.branch_marks.specs.declared.event.Event.{Event}
use Rattle.branch_marks.specs.declared.event.Event.TheVariants.{Bound, Cover, Label}
use Rattle.cert_lines.specs.declared.cert_line.CertLine.{CertLine}
use Rattle.cert_lines.specs.declared.cert_line.CertLine.TheVariants as line
use Rattle.cert_lines.specs.declared.version.Version.{Version}
use Rattle.cert_lines.specs.declared.version.Version.TheVariants.{Full, Lean}

-- whether a label that comes behind the event is a cover's, where it was so of one in its place
abbrev pub in_cover_after : Bool → Event → Bool
in_cover_after in_cover (Label at weight counters) = in_cover
in_cover_after in_cover (Cover k value) = true
in_cover_after in_cover event = false

-- the same behind a list of events: the last of them that is no label is a cover, or there is none and it was so before
abbrev pub in_cover_behind : Bool → List Event → Bool
in_cover_behind in_cover [] = in_cover
in_cover_behind in_cover (event ∷ told) = in_cover_behind (in_cover_after in_cover event) told

-- in a lean certificate a bound leaf is lean, and covers and their labels have no line
abbrev pub lean_line : Bool → Event → Option CertLine
lean_line in_cover Bound = Some line.Lean
lean_line in_cover (Cover k value) = None
lean_line in_cover (Label at weight counters) = if in_cover then None else Some (line.Event (Label at weight counters))
lean_line in_cover event = Some (line.Event event)

-- in a full one each event has its own
abbrev pub line_for : Version → Bool → Event → Option CertLine
line_for Full in_cover event = Some (line.Event event)
line_for Lean in_cover event = lean_line in_cover event

-- whether the labels of covers have lines, so that they are wanted
abbrev pub wants_labels_of : Version → Bool
wants_labels_of Full = true
wants_labels_of Lean = false

-- the lines of events, before which a label is a cover's or not
abbrev pub lean_lines : Bool → List Event → List CertLine
lean_lines in_cover [] = []
lean_lines in_cover (event ∷ told) = option_to_list (lean_line in_cover event) ++ lean_lines (in_cover_after in_cover event) told

-- the lines of a tree's events
abbrev pub event_lines : Version → List Event → List CertLine
event_lines Full told = map line.Event told
event_lines Lean told = lean_lines false told
