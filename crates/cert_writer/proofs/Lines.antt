-- A log tells a list of events where what the sink took, and what waits, are together the header's line and the lines
-- of the list. A line that joins what waits makes the list longer by its event; an event that has no line changes nothing.
-- All that waits is put: the sink has it, and the list stays. Where putting fails the sink took a front, and the log is
-- torn at the last event. Where there is no memory for a line, the sink took nothing more, and the log is torn at the
-- event of that line.
--
-- The labels of a cover have no line in a lean certificate, and the event behind them is in a cover or not as it would be
-- without them. So a lean log that tells a cover's value tells the cover with any labels.
use Rattle.std.proofs.Common.{◌≡◌, ◌∙◌, Bool, false, ℕ, List, [], ◌∷◌, ◌++◌, Option, Some, None, Result, Ok, Err, is_ok, true, refl, sym, ap, subst, append_assoc}
use Rattle.std.proofs.lemmas.List.{append-nil, map-append}
use Rattle.std.proofs.lemmas.List.Elements.{All-append, All-cons, All-nil}
use Rattle.std.specs.Option.{option_to_list}
use Rattle.std.specs.Prelude.{All, IfSome, OnErr, OnOk}
use Rattle.tail_outside.specs.Outside.{Adds, AddsFront}
use Rattle.tail_outside.specs.Shown.{SinkShown}
use Rattle.branch_marks.specs.Labels.{Label}
use Rattle.branch_marks.specs.ProofTree.{Cover}
use Rattle.branch_marks.specs.TreeEvents.{cover_event, label_events}
use Rattle.branch_marks.specs.TreeLog.{LeavesLabelsOut}
use Rattle.branch_marks.specs.declared.event.Event.{Event}
use Rattle.branch_marks.specs.declared.event.Event.TheVariants as event
use Rattle.cert_lines.specs.declared.cert_line.CertLine.{CertLine}
use Rattle.cert_lines.specs.declared.cert_line.CertLine.TheVariants as line
use Rattle.cert_lines.specs.declared.version.Version.{Version}
use Rattle.cert_lines.specs.declared.version.Version.TheVariants.{Full, Lean}
use Rattle.cert_lines.specs.Grammar.{IsLine}
use Rattle.cert_lines.specs.Text.{cert_text}
use Rattle.cert_writer.specs.CertText.{IsKept, IsTornAt, TellsAt, event_text, line_text, log_over}
use Rattle.cert_writer.specs.EventLines.{event_lines, in_cover_after, in_cover_behind, lean_line, lean_lines, line_for, wants_labels_of}
use Rattle.cert_writer.specs.inside.Adding.{Holds, HoldsFront}

pub text_append : (one other : List CertLine) → cert_text (one ++ other) ≡ cert_text one ++ cert_text other
text_append [] other = refl
text_append (cert ∷ one) other = ap (λ (rest : List ℕ). line_text cert ++ rest) (text_append one other) ∙ sym (append_assoc (line_text cert) (cert_text one) (cert_text other))

pub text_one : (cert : CertLine) → cert_text (cert ∷ []) ≡ line_text cert
text_one cert = append-nil (line_text cert)

-- the text of a line that is there
pub option_text : (cert : Option CertLine) (some : CertLine) → cert ≡ Some some → cert_text (option_to_list cert) ≡ line_text some
option_text cert some is = ap (λ (one : Option CertLine). cert_text (option_to_list one)) is ∙ text_one some

-- a line that is there can be spelled
option_good : (cert : Option CertLine) → IfSome cert IsLine → All IsLine (option_to_list cert)
option_good (Some cert) good = All-cons IsLine cert [] good (All-nil IsLine)
option_good None good = All-nil IsLine

-- the lines of more events stand behind those of the list, in a cover or not as the list leaves it
pub lean_join : (before : Bool) (told rest : List Event) → lean_lines before (told ++ rest) ≡ lean_lines before told ++ lean_lines (in_cover_behind before told) rest
lean_join before [] rest = refl
lean_join before (first ∷ told) rest =
    ap (λ (lines : List CertLine). option_to_list (lean_line before first) ++ lines) (lean_join (in_cover_after before first) told rest)
    ∙ sym (append_assoc (option_to_list (lean_line before first)) (lean_lines (in_cover_after before first) told)
    (lean_lines (in_cover_behind (in_cover_after before first) told) rest))

behind_more : (before : Bool) (told : List Event) (event : Event) → in_cover_behind before (told ++ event ∷ []) ≡ in_cover_after (in_cover_behind before told) event
behind_more before [] event = refl
behind_more before (first ∷ told) event = behind_more (in_cover_after before first) told event

lines_more : (version : Version) (in_cover : Bool) (told : List Event) (event : Event) → IsKept version in_cover told
    → event_lines version (told ++ event ∷ []) ≡ event_lines version told ++ option_to_list (line_for version in_cover event)
lines_more Full in_cover told event kept = map-append line.Event told (event ∷ [])
lines_more Lean in_cover told event kept =
    lean_join false told (event ∷ [])
    ∙ ap (λ (lines : List CertLine). lean_lines false told ++ lines) (append-nil (option_to_list (lean_line (in_cover_behind false told) event)))
    ∙ ap (λ (now : Bool). lean_lines false told ++ option_to_list (lean_line now event)) (sym kept)

kept_more : (version : Version) (in_cover : Bool) (told : List Event) (event : Event) → IsKept version in_cover told → IsKept version (in_cover_after in_cover event) (told ++ event ∷ [])
kept_more Full in_cover told event kept = tt
kept_more Lean in_cover told event kept = ap (λ (now : Bool). in_cover_after now event) kept ∙ sym (behind_more false told event)

module _ (version : Version) (in_cover : Bool) (header : CertLine) (told : List Event) (event : Event) (found : Option CertLine) (is : found ≡ line_for version in_cover event) where
  text_more : IsKept version in_cover told → event_text version header (told ++ event ∷ []) ≡ event_text version header told ++ cert_text (option_to_list found)
  text_more kept =
      ap (λ (rest : List CertLine). cert_text (header ∷ rest)) (lines_more version in_cover told event kept)
      ∙ text_append (header ∷ event_lines version told) (option_to_list (line_for version in_cover event))
      ∙ ap (λ (line : Option CertLine). event_text version header told ++ cert_text (option_to_list line)) (sym is)

  lines_good : IfSome found IsLine → IsKept version in_cover told → All IsLine (event_lines version told) → All IsLine (event_lines version (told ++ event ∷ []))
  lines_good good kept spelled =
      let all = All-append IsLine (event_lines version told) (option_to_list found) spelled (option_good found good) in
      let same : event_lines version told ++ option_to_list found ≡ event_lines version (told ++ event ∷ []) =
      ap (λ (line : Option CertLine). event_lines version told ++ option_to_list line) is ∙ sym (lines_more version in_cover told event kept) in
      subst (λ (lines : List CertLine). All IsLine lines) same all

  -- the event was noted
  pub noted : (old new : SinkShown) (waited waiting : List ℕ) → IfSome found IsLine
      → ((whole : List ℕ) → Holds old waited whole → Holds new waiting (whole ++ cert_text (option_to_list found)))
      → (now : Bool) → now ≡ in_cover_after in_cover event → TellsAt version in_cover header old waited told → TellsAt version now header new waiting (told ++ event ∷ [])
  noted old new waited waiting good adds now turned tells =
      let held = adds (event_text version header told) (record { taken = tells.taken; bytes = tells.bytes; text = tells.text }) in record {
        kept = subst (λ (kept : Bool). IsKept version kept (told ++ event ∷ [])) (sym turned) (kept_more version in_cover told event tells.kept);
        taken = held.taken;
        bytes = held.bytes;
        text = text_more tells.kept ∙ held.text;
        spelled = lines_good good tells.kept tells.spelled;
      }

  -- it was not
  pub torn : (old new : SinkShown) (waited : List ℕ)
      → ((whole : List ℕ) → Holds old waited whole → HoldsFront new (whole ++ cert_text (option_to_list found)))
      → TellsAt version in_cover header old waited told → IsTornAt version in_cover header new told event
  torn old new waited adds tells =
      let held = adds (event_text version header told) (record { taken = tells.taken; bytes = tells.bytes; text = tells.text }) in record {
        kept = tells.kept;
        taken = held.taken;
        rest = held.rest;
        bytes = held.bytes;
        text = text_more tells.kept ∙ held.text;
      }

-- labels in a cover have no line, and what comes behind them is in it still
labels_go : (family : List Label) → lean_lines true (label_events family) ≡ []
labels_go [] = refl
labels_go (label ∷ family) = labels_go family

labels_stay : (family : List Label) → in_cover_behind true (label_events family) ≡ true
labels_stay [] = refl
labels_stay (label ∷ family) = labels_stay family

behind_join : (before : Bool) (told rest : List Event) → in_cover_behind before (told ++ rest) ≡ in_cover_behind (in_cover_behind before told) rest
behind_join before [] rest = refl
behind_join before (first ∷ told) rest = behind_join (in_cover_after before first) told rest

module _ (told : List Event) (k : ℕ) (cover : Cover) where
  abbrev value_alone : List Event
  value_alone = event.Cover k cover.value ∷ []

  -- a cover has no line, with its labels or without
  same_lines : lean_lines false (told ++ value_alone) ≡ lean_lines false (told ++ cover_event k cover)
  same_lines =
      lean_join false told value_alone
      ∙ ap (λ (rest : List CertLine). lean_lines false told ++ rest) (sym (labels_go cover.family)) ∙ sym (lean_join false told (cover_event k cover))

  same_behind : in_cover_behind false (told ++ value_alone) ≡ in_cover_behind false (told ++ cover_event k cover)
  same_behind = behind_join false told value_alone ∙ sym (labels_stay cover.family) ∙ sym (behind_join false told (cover_event k cover))

  pub told_with_labels : (in_cover : Bool) (header : CertLine) (sink : SinkShown) (waiting : List ℕ) → TellsAt Lean in_cover header sink waiting (told ++ value_alone)
      → TellsAt Lean in_cover header sink waiting (told ++ cover_event k cover)
  told_with_labels in_cover header sink waiting tells = record {
    kept = tells.kept ∙ same_behind;
    taken = tells.taken;
    bytes = tells.bytes;
    text = ap (λ (lines : List CertLine). cert_text (header ∷ lines)) (sym same_lines) ∙ tells.text;
    spelled = subst (λ (lines : List CertLine). All IsLine lines) same_lines tells.spelled;
  }

-- a log that wants no labels leaves them out
pub leaves_out : (version : Version) (in_cover : Bool) (header : CertLine) (sink : SinkShown) (waiting : List ℕ) → wants_labels_of version ≡ false
    → LeavesLabelsOut (log_over version in_cover header sink waiting)
leaves_out Full in_cover header sink waiting none = absurd (cc none)
leaves_out Lean in_cover header sink waiting none = λ told k cover. told_with_labels told k cover in_cover header sink waiting

-- there is no line
pub none_added : (sink : SinkShown) (waiting whole : List ℕ) → Holds sink waiting whole → Holds sink waiting (whole ++ [])
none_added sink waiting whole held = record { taken = held.taken; bytes = held.bytes; text = append-nil whole ∙ held.text }

-- a line more waits
pub waits_more : (sink : SinkShown) (waited waiting piece whole : List ℕ) → waiting ≡ waited ++ piece → Holds sink waited whole → Holds sink waiting (whole ++ piece)
waits_more sink waited waiting piece whole more held = record {
  taken = held.taken;
  bytes = held.bytes;
  text = ap (λ (text : List ℕ). text ++ piece) held.text ∙ append_assoc held.taken waited piece ∙ ap (λ (rest : List ℕ). held.taken ++ rest) (sym more);
}

-- all that waited was put
pub all_put : (old new : SinkShown) (waited waiting whole : List ℕ) → waiting ≡ [] → Adds old.told new.told waited → Holds old waited whole → Holds new waiting whole
all_put old new waited waiting whole none adds held = record {
  taken = held.taken ++ waited;
  bytes = subst (λ (before : Option (List ℕ)). Adds before new.told waited) held.bytes adds;
  text = held.text ∙ sym (append-nil (held.taken ++ waited)) ∙ ap (λ (rest : List ℕ). (held.taken ++ waited) ++ rest) (sym none);
}

-- no memory for the line
pub no_room : (sink : SinkShown) (waiting piece whole : List ℕ) → Holds sink waiting whole → HoldsFront sink (whole ++ piece)
no_room sink waiting piece whole held = record {
  taken = held.taken;
  rest = waiting ++ piece;
  bytes = held.bytes;
  text = ap (λ (text : List ℕ). text ++ piece) held.text ∙ append_assoc held.taken waiting piece;
}

-- a front of what waited was put
pub front_put : (old new : SinkShown) (waited whole : List ℕ) → AddsFront old.told new.told waited → Holds old waited whole → HoldsFront new whole
front_put old new waited whole adds held =
    let (put, rest, split, bytes) = subst (λ (before : Option (List ℕ)). AddsFront before new.told waited) held.bytes adds in record {
      taken = held.taken ++ put;
      rest = rest;
      bytes = bytes;
      text = held.text ∙ ap (λ (more : List ℕ). held.taken ++ more) split ∙ sym (append_assoc held.taken put rest);
    }

-- what a call that gave a value ensures
pub on_ok_given : {T E P : Type 0} (result : Result T E) → is_ok result ≡ true → OnOk result P → P
on_ok_given (Ok x) good is = is
on_ok_given (Err e) good is = absurd (cc good)

-- from two facts of a call that gave a value to a third
pub on_ok_two : {T E P Q R : Type 0} (result : Result T E) → (P → Q → R) → OnOk result P → OnOk result Q → OnOk result R
on_ok_two (Ok x) f one other = f one other
on_ok_two (Err e) f one other = tt

pub on_err : {T E P Q : Type 0} (result : Result T E) → (P → Q) → OnErr result P → OnErr result Q
on_err (Ok x) f is = tt
on_err (Err e) f is = f is
