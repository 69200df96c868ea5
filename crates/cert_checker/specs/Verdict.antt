-- The verdict on a text: its lines are taken one after the other, and the first failure decides.
use Rattle.std.specs.Prelude.{◌≡◌, ℕ, ◌+◌, List, [], ◌∷◌, Bool, true, false, ◌&&◌, not, nat_lt, ◌==◌, length, Option, Some, None, Result, Ok, Err, if◌then◌else◌}
use Rattle.tail_book.specs.Seen.{BookSeen}
use Rattle.tail_book.specs.declared.claim.Claim.{Claim}
use Rattle.tail_book.specs.inside.Sound.{IsBook}
use Rattle.tail_book.specs.Truth.{IsTrueClaim}
use Rattle.tail_text.specs.Parts.{parts_of}
use Rattle.branch_marks.specs.declared.event.Event.TheVariants.{Dual, Label}
use Rattle.cert_lines.specs.declared.cert_line.CertLine.{CertLine}
use Rattle.cert_lines.specs.declared.cert_line.CertLine.TheVariants.{Event, Header, Lean}
use Rattle.cert_lines.specs.declared.cert_line.TheConstants.{LENGTH_LIMIT}
use Rattle.cert_lines.specs.Reading.{line_of}
use Rattle.cert_checker.specs.declared.verdict.Reason.{Reason}
use Rattle.cert_checker.specs.declared.verdict.Reason.TheVariants.{BadLine, OpenCover, Unfinished}
use Rattle.cert_checker.specs.declared.verdict.Verdict.{Verdict}
use Rattle.cert_checker.specs.declared.verdict.Verdict.TheVariants.{Yes, No}
use Rattle.cert_checker.specs.Certificate.{Accepts}
use Rattle.cert_checker.specs.Step.{Step, priced, take_line}
use Rattle.cert_checker.specs.Reasons.{is_shown_leaf, number_of_reason}
use Rattle.cert_checker.specs.State.{OpenLeaf, State, Section, Start, Claimed}

-- a failure: the number of its line, counted from 1, and its reason
abbrev pub failed : ℕ → Reason → Verdict
failed n reason = No n (number_of_reason reason)

-- before the first line nothing is kept
abbrev pub first_state : State
first_state = record { lines = 0; version = 0; section = Start; owed = []; leaf = None; low = None }

-- a label goes on with the leaf that is open; before every other line that leaf is judged
abbrev pub is_label : CertLine → Bool
is_label (Event (Label at weight counters)) = true
is_label line = false

abbrev pub leaf_fails : BookSeen → Option OpenLeaf → Option ℕ
leaf_fails book None = None
leaf_fails book (Some leaf) = if is_shown_leaf book leaf then None else Some leaf.line

-- a dual goes on with the leaf that it is of; before every other line a lean leaf is priced
abbrev pub is_dual : CertLine → Bool
is_dual (Event (Dual a v)) = true
is_dual line = false

abbrev pub ready_for : BookSeen → State → CertLine → State
ready_for book state line = if is_dual line then state else priced book state

-- a lean leaf is a line behind a header of version 2 alone, and behind one of version 1 a header of version 2 is none
abbrev pub is_of_version : ℕ → CertLine → Bool
is_of_version version Lean = version == 2
is_of_version version (Header told n m c) = not (version == 1 && told == 2)
is_of_version version line = true

-- what is kept after the line of this number, or the failure there
abbrev pub at_line : ℕ → Step → Result State Verdict
at_line n (Ok state) = Ok (record state { lines = n })
at_line n (Err reason) = Err (failed n reason)

-- the leaf before the line comes first, and then the line itself
abbrev pub judge_line : BookSeen → State → CertLine → Option ℕ → Result State Verdict
judge_line book state line None = at_line (state.lines + 1) (take_line book (ready_for book state line) line)
judge_line book state line (Some opened) = Err (failed opened OpenCover)

abbrev pub judge_of_version : BookSeen → State → CertLine → Bool → Result State Verdict
judge_of_version book state line true = judge_line book state line (if is_label line then None else leaf_fails book state.leaf)
judge_of_version book state line false = Err (failed (state.lines + 1) BadLine)

abbrev pub take_read : BookSeen → State → Option CertLine → Result State Verdict
take_read book state None = Err (failed (state.lines + 1) BadLine)
take_read book state (Some line) = judge_of_version book state line (is_of_version state.version line)

-- what is kept after a line, given without its newline, or the failure that is met there
abbrev pub take_text : BookSeen → State → List ℕ → Result State Verdict
take_text book state text = take_read book state (line_of text)

-- at the end of the text nothing may stand behind the last newline, and the claim stands before it
abbrev pub claimed_at : ℕ → Section → Verdict
claimed_at lines (Claimed claim) = Yes claim
claimed_at lines section = failed (lines + 1) Unfinished

abbrev pub end_with : State → List ℕ → Verdict
end_with state rest =
    if length rest == 0 then claimed_at state.lines state.section
    else failed (state.lines + 1) (if nat_lt LENGTH_LIMIT (length rest) then BadLine else Unfinished)

-- the first failure, or what the rest gives
abbrev pub and_on : Result State Verdict → (State → Verdict) → Verdict
and_on (Ok state) go = go state
and_on (Err verdict) go = verdict

-- the verdict on the lines that are left; behind the last newline stands what is no line
unfoldable pub verdict_from : BookSeen → State → List (List ℕ) → Verdict
verdict_from book state [] = end_with state []
verdict_from book state (rest ∷ []) = end_with state rest
verdict_from book state (text ∷ next ∷ texts) = and_on (take_text book state text) (λ kept. verdict_from book kept (next ∷ texts))

-- the verdict on a text
abbrev pub verdict : BookSeen → List ℕ → Verdict
verdict book text = verdict_from book first_state (parts_of 10 text)

-- a yes comes only to a text that is accepted for its claim
abbrev pub YesIsAccepted : Type 0
YesIsAccepted = (book : BookSeen) (text : List ℕ) (claim : Claim) → verdict book text ≡ Yes claim → Accepts book text claim

-- and every such text gets it
abbrev pub AcceptedIsYes : Type 0
AcceptedIsYes = (book : BookSeen) (text : List ℕ) (claim : Claim) → Accepts book text claim → verdict book text ≡ Yes claim

-- so the claim of a yes is true of the book
abbrev pub YesIsTrue : Type 0
YesIsTrue = (book : BookSeen) → IsBook book → (text : List ℕ) (claim : Claim) → verdict book text ≡ Yes claim → IsTrueClaim book claim
