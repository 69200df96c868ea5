-- A text that is judged while it comes, cut however it is: what was met in the bytes so far, and what the verdict is where they end
-- there. For src/checker.rt and src/laws.rt.
use Rattle.std.specs.Prelude.{◌≡◌, ℕ, ◌+◌, List, [], ◌∷◌, ◌++◌, Bool, true, false, nat_lt, length, Result, Ok, Err}
use Rattle.tail_book.specs.Seen.{BookSeen}
use Rattle.tail_text.specs.Checks.{look}
use Rattle.tail_text.specs.Parts.{parts_of}
use Rattle.cert_lines.specs.declared.cert_line.TheConstants.{LENGTH_LIMIT}
use Rattle.cert_checker.specs.State.{State}
use Rattle.cert_checker.specs.Verdict.{end_with, failed, first_state, take_text, verdict}
use Rattle.cert_checker.specs.declared.checker.Taken.{Taken}
use Rattle.cert_checker.specs.declared.checker.Taken.TheVariants.{More, Done}
use Rattle.cert_checker.specs.declared.verdict.Reason.TheVariants.{BadLine}
use Rattle.cert_checker.specs.declared.verdict.Verdict.{Verdict}
use Rattle.cert_checker.specs.declared.verdict.Verdict.TheVariants.{No}

-- what judging a text leaves while more may come: what is kept of its lines, and what stands behind the last newline
pub record Begun : Type 0 where
  pub state : State
  pub rest : List ℕ

-- what stands behind the last newline may become a line, unless it is too long for one
abbrev pub begun_unless : Bool → State → List ℕ → Result Begun Verdict
begun_unless true state rest = Err (failed (state.lines + 1) BadLine)
begun_unless false state rest = Ok (record { state = state; rest = rest })

abbrev pub begun_with : State → List ℕ → Result Begun Verdict
begun_with state rest = begun_unless (nat_lt LENGTH_LIMIT (length rest)) state rest

-- what the lines that are left leave, or their first failure
unfoldable pub judged_from : BookSeen → State → List (List ℕ) → Result Begun Verdict
judged_from book state [] = begun_with state []
judged_from book state (rest ∷ []) = begun_with state rest
judged_from book state (text ∷ next ∷ texts) = look (take_text book state text) (λ kept. judged_from book kept (next ∷ texts))

-- what judging the text leaves, or the failure that it met
abbrev pub judged : BookSeen → List ℕ → Result Begun Verdict
judged book text = judged_from book first_state (parts_of 10 text)

-- the verdict where the text ends there
abbrev pub verdict_of : Result Begun Verdict → Verdict
verdict_of (Ok begun) = end_with begun.state begun.rest
verdict_of (Err failure) = failure

-- what is answered to bytes: a failure that was met, or that more may come
abbrev pub taken_of : Result Begun Verdict → Taken
taken_of (Ok begun) = More
taken_of (Err failure) = Done failure

-- a checker: its book, whether it was wanting memory, and what it met in the bytes so far
pub record CheckerSeen : Type 0 where
  pub book : BookSeen
  pub wanting : Bool
  pub judged : Result Begun Verdict

-- the checker stands for a text: what it met is what judging that text leaves
abbrev pub Stands : CheckerSeen → List ℕ → Type 0
Stands checker text = (checker.wanting ≡ false) × (checker.judged ≡ judged checker.book text)

-- the verdict on a text is that of its end, where no more comes
abbrev pub VerdictsAreOfEnds : Type 0
VerdictsAreOfEnds = (book : BookSeen) (text : List ℕ) → verdict book text ≡ verdict_of (judged book text)

-- a failure that a front of a text met is that of the whole text, whatever stands behind
abbrev pub FailuresStay : Type 0
FailuresStay = (book : BookSeen) (front more : List ℕ) (failure : Verdict) → judged book front ≡ Err failure → judged book (front ++ more) ≡ Err failure

-- and it is a no: no text with that front is accepted
abbrev pub FailuresAreNo : Type 0
FailuresAreNo = (book : BookSeen) (text : List ℕ) (failure : Verdict) → judged book text ≡ Err failure → (line : ℕ) × (reason : ℕ) × (failure ≡ No line reason)
