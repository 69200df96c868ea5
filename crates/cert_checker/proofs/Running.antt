-- Lines that pass, one after the other: each is taken, and the leaf before it does not fail. Two runs are one where the
-- second begins as the first ended. A label needs no look at the leaf, since it still belongs to it. Where all lines
-- pass, the verdict is what is said at their end.
use Rattle.std.proofs.Common.{◌≡◌, ◌∙◌, ◌+◌, ℕ, suc, arith, true, false, List, [], ◌∷◌, ◌++◌, Option, Some, None, Result, Ok, map, refl, sym, ap, subst}
use Rattle.std.specs.Prelude.{All}
use Rattle.tail_book.specs.Seen.{BookSeen}
use Rattle.branch_marks.specs.declared.fact.Fact.{Fact}
use Rattle.cert_lines.specs.declared.cert_line.CertLine.{CertLine}
use Rattle.cert_lines.specs.Grammar.{IsLine}
use Rattle.cert_lines.specs.OneSpelling.{SpelledLinesAreRead}
use Rattle.cert_lines.specs.Reading.{line_of}
use Rattle.cert_lines.specs.Spelling.{spelling}
use Rattle.cert_checker.specs.Step.{after_leaf, owes, priced, take_line}
use Rattle.cert_checker.specs.State.{State, InTree}
use Rattle.cert_checker.specs.Verdict.{at_line, end_with, is_label, is_of_version, leaf_fails, ready_for, take_read, verdict_from}
use Rattle.cert_checker.specs.declared.verdict.Reason.{Reason}
use Rattle.cert_checker.specs.declared.verdict.Verdict.{Verdict}
use Rattle.cert_checker.proofs.Standing.{plain}

-- an answer that is there
abbrev pub IsKept : Result State Reason → State → Type 0
IsKept given kept = given ≡ Ok kept

abbrev pub IsTaken : Result State Verdict → State → Type 0
IsTaken given kept = given ≡ Ok kept

-- the lines pass from one state to another
abbrev pub Passes : BookSeen → State → List CertLine → State → Type 0
Passes book state [] after = state ≡ after
Passes book state (line ∷ lines) after = (next : State) × IsTaken (take_read book state (Some line)) next × Passes book next lines after

pub passes_then : (book : BookSeen) (some more : List CertLine) (state middle after : State) → Passes book state some middle → Passes book middle more after → Passes book state (some ++ more) after
passes_then book [] more state middle after one other = subst (λ (state : State). Passes book state more after) (sym one) other
passes_then book (line ∷ some) more state middle after (next, taken, one) other = (next, taken, passes_then book some more next middle after one other)

-- a line that is taken where the leaf before it does not fail
pub one_passes : (book : BookSeen) (state kept : State) (line : CertLine) → is_label line ≡ false → is_of_version state.version line ≡ true → leaf_fails book state.leaf ≡ None
    → IsKept (take_line book (ready_for book state line) line) kept → Passes book state (line ∷ []) (record kept { lines = state.lines + 1 })
one_passes book state kept line other told fine taken =
    let read : take_read book state (Some line) ≡ at_line (state.lines + 1) (take_line book (ready_for book state line) line) = rw (told, other, fine) refl in
    (record kept { lines = state.lines + 1 }, read ∙ ap (λ (step : Result State Reason). at_line (state.lines + 1) step) taken, refl)

pub label_passes : (book : BookSeen) (state kept : State) (line : CertLine) → is_label line ≡ true → is_of_version state.version line ≡ true
    → IsKept (take_line book (ready_for book state line) line) kept → Passes book state (line ∷ []) (record kept { lines = state.lines + 1 })
label_passes book state kept line label told taken =
    let read : take_read book state (Some line) ≡ at_line (state.lines + 1) (take_line book (ready_for book state line) line) = rw (told, label) refl in
    (record kept { lines = state.lines + 1 }, read ∙ ap (λ (step : Result State Reason). at_line (state.lines + 1) step) taken, refl)

-- between nodes: the leaf before the next line does not fail, and behind it this is owed, with this least bound
pub record IsBetween (version : ℕ) (book : BookSeen) (state : State) (owed : List (List Fact)) (least : Option ℕ) : Type 0 where
  pub told : state.version ≡ version
  pub fine : leaf_fails book state.leaf ≡ None
  pub done : IsKept (after_leaf book (priced book state)) (plain version state.lines owed least)
  pub owing : owes (priced book state).section (priced book state).owed ≡ owes InTree owed

pub plain_between : (version : ℕ) (book : BookSeen) (n : ℕ) (owed : List (List Fact)) (least : Option ℕ) → IsBetween version book (plain version n owed least) owed least
plain_between version book n owed least = record { told = refl; fine = refl; done = refl; owing = refl }

-- the verdict on lines that pass is what is said at their end
step_on : (book : BookSeen) (state next : State) (text other : List ℕ) (texts : List (List ℕ)) (line : CertLine) → line_of text ≡ Some line → IsTaken (take_read book state (Some line)) next
    → verdict_from book state (text ∷ other ∷ texts) ≡ verdict_from book next (other ∷ texts)
unfolding verdict_from
step_on book state next text other texts line read taken = rw (read, taken) refl

last_on : (book : BookSeen) (state : State) → verdict_from book state ([] ∷ []) ≡ end_with state []
unfolding verdict_from
last_on book state = refl

pub passes_to_end : SpelledLinesAreRead → (book : BookSeen) (lines : List CertLine) (state after : State) → Passes book state lines after → All IsLine lines
    → verdict_from book state (map spelling lines ++ [] ∷ []) ≡ end_with after []
passes_to_end read book [] state after passes good = last_on book state ∙ ap (λ (state : State). end_with state []) passes
passes_to_end read book (line ∷ []) state after (next, taken, passes) good =
    step_on book state next (spelling line) [] [] line (read line (good 0 line (omega arith))) taken ∙ passes_to_end read book [] next after passes (λ k d lt. absurd (omega (arith, lt)))
passes_to_end read book (line ∷ other ∷ lines) state after (next, taken, passes) good =
    step_on book state next (spelling line) (spelling other) (map spelling lines ++ [] ∷ []) line (read line (good 0 line (omega arith))) taken
    ∙ passes_to_end read book (other ∷ lines) next after passes (λ k d lt. good (suc k) d (omega (arith, lt)))
