-- What a checker holds of the bytes so far, and what a piece does to it. For src/checker.rt.
use Rattle.std.specs.Prelude.{◌≡◌, ℕ, ◌≤◌, ◌^◌, List, [], ◌∷◌, ◌++◌, Bool, false, length, Option, Some, None, Result, Ok, Err}
use Rattle.tail_book.specs.Seen.{BookSeen}
use Rattle.tail_text.specs.Parts.{parts_of}
use Rattle.cert_lines.specs.declared.cert_line.TheConstants.{LENGTH_LIMIT}
use Rattle.cert_checker.specs.Judged.{Begun, judged_from}
use Rattle.cert_checker.specs.declared.means.Means.{Means}
use Rattle.cert_checker.specs.declared.state.Judging.{Judging}
use Rattle.cert_checker.specs.declared.verdict.Verdict.{Verdict}
use Rattle.cert_checker.specs.inside.Kept.{IsJudging, state_of}
use Rattle.cert_checker.specs.inside.Means.{AreMeansOf}

-- the first part ends the line that is begun
abbrev pub onto_rest : List ℕ → List (List ℕ) → List (List ℕ)
onto_rest rest [] = rest ∷ []
onto_rest rest (part ∷ parts) = (rest ++ part) ∷ parts

-- what a piece more makes of what was met
abbrev pub fed : BookSeen → Result Begun Verdict → List ℕ → Result Begun Verdict
fed book (Ok begun) piece = judged_from book begun.state (onto_rest begun.rest (parts_of 10 piece))
fed book (Err failure) piece = Err failure

-- what was met: a failure, or what is kept
abbrev pub met_in : Judging → List ℕ → Option Verdict → Result Begun Verdict
met_in judging rest None = Ok (record { state = state_of judging; rest = rest })
met_in judging rest (Some failure) = Err failure

-- what is kept of the bytes so far is of the book: lines whose number may grow, and what may become one
pub record IsKept (book : BookSeen) (judging : Judging) (rest : List ℕ) : Type 0 where
  pub kept : IsJudging book judging
  pub lines : judging.lines ≤ 2 ^ 63
  pub short : length rest ≤ LENGTH_LIMIT

-- where no failure was met, lines go on from what is kept
abbrev pub GoesOn : BookSeen → Judging → List ℕ → Option Verdict → Type 0
GoesOn book judging rest met = met ≡ None → IsKept book judging rest

-- a checker is of its book, and goes on where it was not wanting memory and met no failure
pub record IsChecker (book : BookSeen) (means : Means) (judging : Judging) (rest : List ℕ) (met : Option Verdict) (wanting : Bool) : Type 0 where
  pub read : AreMeansOf book means
  pub goes : wanting ≡ false → GoesOn book judging rest met
