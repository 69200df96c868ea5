-- The verdict, one line after the other: a line that fails decides it, and one that is taken leaves it to the lines
-- behind. The last part of a text stands behind the last newline, so it is judged as an end and not as a line. These
-- are the steps of the loop over the lines; a text has at most one part more than bytes, so they can be counted.
use Rattle.std.specs.Prelude.{◌==◌}
use Rattle.std.proofs.Common.{◌≡◌, ◌∙◌, ℕ, ◌+◌, ◌≤◌, true, false, List, [], ◌∷◌, Result, Ok, Err, length, refl, ap, arith}
use Rattle.std.proofs.lemmas.Bool.{eqb-true}
use Rattle.std.proofs.lemmas.List.Splits.{length-slice_split}
use Rattle.std.proofs.lemmas.List.Sums.{count_by-le-length}
use Rattle.tail_book.specs.Seen.{BookSeen}
use Rattle.tail_text.specs.Parts.{parts_of}
use Rattle.cert_checker.specs.State.{State}
use Rattle.cert_checker.specs.Verdict.{and_on, end_with, take_text, verdict_from}
use Rattle.cert_checker.specs.declared.verdict.Verdict.{Verdict}

module _ (book : BookSeen) (state : State) where
  pub no_line : verdict_from book state [] ≡ end_with state []
  unfolding verdict_from
  no_line = refl

  pub last_line : (rest : List ℕ) → verdict_from book state (rest ∷ []) ≡ end_with state rest
  unfolding verdict_from
  last_line rest = refl

  pub line_on : (text : List ℕ) (more : List (List ℕ)) → (length more == 0) ≡ false
      → verdict_from book state (text ∷ more) ≡ and_on (take_text book state text) (λ kept. verdict_from book kept more)
  unfolding verdict_from
  line_on text [] e = absurd (cc e)
  line_on text (next ∷ texts) e = refl

  pub line_fails : (text : List ℕ) (more : List (List ℕ)) (failure : Verdict) → (length more == 0) ≡ false → take_text book state text ≡ Err failure
      → verdict_from book state (text ∷ more) ≡ failure
  line_fails text more failure e fails = line_on text more e ∙ ap (λ (step : Result State Verdict). and_on step (λ kept. verdict_from book kept more)) fails

  pub line_taken : (text : List ℕ) (more : List (List ℕ)) (kept : State) → (length more == 0) ≡ false → take_text book state text ≡ Ok kept
      → verdict_from book state (text ∷ more) ≡ verdict_from book kept more
  line_taken text more kept e taken = line_on text more e ∙ ap (λ (step : Result State Verdict). and_on step (λ kept. verdict_from book kept more)) taken

  -- the same, of the lines that are left
  pub ended_there : (lines more : List (List ℕ)) (rest : List ℕ) → lines ≡ rest ∷ more → (length more == 0) ≡ true → verdict_from book state lines ≡ end_with state rest
  ended_there lines [] rest is e = ap (λ (left : List (List ℕ)). verdict_from book state left) is ∙ last_line rest
  ended_there lines (next ∷ more) rest is e = (let none = eqb-true (length (next ∷ more)) 0 e in absurd (omega (arith, none)))

  pub fails_there : (lines more : List (List ℕ)) (text : List ℕ) (failure : Verdict) → lines ≡ text ∷ more → (length more == 0) ≡ false → take_text book state text ≡ Err failure
      → verdict_from book state lines ≡ failure
  fails_there lines more text failure is e fails = ap (λ (left : List (List ℕ)). verdict_from book state left) is ∙ line_fails text more failure e fails

  pub taken_there : (lines more : List (List ℕ)) (text : List ℕ) (kept : State) → lines ≡ text ∷ more → (length more == 0) ≡ false → take_text book state text ≡ Ok kept
      → verdict_from book state lines ≡ verdict_from book kept more
  taken_there lines more text kept is e taken = ap (λ (left : List (List ℕ)). verdict_from book state left) is ∙ line_taken text more kept e taken

  pub none_there : (lines : List (List ℕ)) → lines ≡ [] → verdict_from book state lines ≡ end_with state []
  none_there lines is = ap (λ (left : List (List ℕ)). verdict_from book state left) is ∙ no_line

-- one line less is left
pub one_taken : (lines more : List (List ℕ)) (text : List ℕ) → lines ≡ text ∷ more → length lines ≡ length more + 1
one_taken lines more text is = ap (λ (left : List (List ℕ)). length left) is ∙ omega arith

-- a text has at most one line more than it has bytes
pub few_lines : (text : List ℕ) → length (parts_of 10 text) ≤ length text + 1
few_lines text =
    let many = length-slice_split (λ b. b == 10) text in
    let few = count_by-le-length (λ b. b == 10) text in
    omega (arith, many, few)
