-- What a sink tells of a certificate that is being written: which list of events it holds, behind the header.
-- For src/cert_log.rt and src/trailer.rt.
use Rattle.std.specs.Prelude.{ℕ, ◌≡◌, ⊤, Bool, false, List, [], ◌∷◌, ◌++◌, All, Some}
use Rattle.tail_outside.specs.Shown.{SinkShown}
use Rattle.branch_marks.specs.declared.event.Event.{Event}
use Rattle.branch_marks.specs.LogShown.{LogShown}
use Rattle.cert_lines.specs.declared.cert_line.CertLine.{CertLine}
use Rattle.cert_lines.specs.declared.version.Version.{Version}
use Rattle.cert_lines.specs.declared.version.Version.TheVariants.{Full, Lean}
use Rattle.cert_lines.specs.Grammar.{IsLine}
use Rattle.cert_lines.specs.Spelling.{spelling}
use Rattle.cert_lines.specs.Text.{cert_text}
use Rattle.cert_writer.specs.EventLines.{event_lines, in_cover_behind}

-- the header's line, and the lines of the events
abbrev pub event_text : Version → CertLine → List Event → List ℕ
event_text version header told = cert_text (header ∷ event_lines version told)

-- a line with its newline
abbrev pub line_text : CertLine → List ℕ
line_text cert = spelling cert ++ 10 ∷ []

-- a lean log keeps whether a label behind the list is a cover's
abbrev pub IsKept : Version → Bool → List Event → Type 0
IsKept Full in_cover told = ⊤
IsKept Lean in_cover told = in_cover ≡ in_cover_behind false told

-- what the sink took and the lines that wait are the header's line and the lines of the events, each of which can be spelled
pub record TellsAt (version : Version) (in_cover : Bool) (header : CertLine) (sink : SinkShown) (waiting : List ℕ) (told : List Event) : Type 0 where
  pub kept : IsKept version in_cover told
  pub taken : List ℕ
  pub bytes : sink.told ≡ Some taken
  pub text : event_text version header told ≡ taken ++ waiting
  pub spelled : All IsLine (event_lines version told)

-- the sink took a front of the lines of the list and of one event more
pub record IsTornAt (version : Version) (in_cover : Bool) (header : CertLine) (sink : SinkShown) (told : List Event) (event : Event) : Type 0 where
  pub kept : IsKept version in_cover told
  pub taken : List ℕ
  pub rest : List ℕ
  pub bytes : sink.told ≡ Some taken
  pub text : event_text version header (told ++ event ∷ []) ≡ taken ++ rest

-- a log over a sink tells a list where the sink tells the header's line and the list's lines, up to those that wait, and is torn
-- where it tells a front of them and of one event's line more, if it has one; it ceases and fails as the sink does
abbrev pub log_over : Version → Bool → CertLine → SinkShown → List ℕ → LogShown
log_over version in_cover header sink waiting = record {
  tells = λ told. TellsAt version in_cover header sink waiting told;
  torn = λ told event. IsTornAt version in_cover header sink told event;
  ceased = sink.ceased;
  faults = sink.faults;
}
