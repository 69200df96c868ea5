-- What is printed for an answer, when it is true, and with which status a run then ends.
use Rattle.std.specs.Prelude.{ℕ, ◌≡◌, ◌⊎◌, ⊤, List, [], ◌∷◌, Option, None}
use Rattle.tail_text.specs.declared.refusal.Refusal.{Refusal}
use Rattle.plan_report.specs.Refused.{refusal_line}
use Rattle.run_frame.specs.TableFiles.{AreGiven, OfHeld}
use Rattle.run_frame.specs.declared.answer.Answer.{Answer}
use Rattle.run_frame.specs.declared.answer.Answer.TheVariants.{Usage, Refused, Found, ReadFailed, Memory}

-- the lines that are printed for an answer, by the usage line and by the lines of what was found
abbrev pub lines_of : {T : Type 0} → List ℕ → (T → List (List ℕ)) → Answer T → List (List ℕ)
lines_of usage lines Usage = usage ∷ []
lines_of usage lines (Refused refusal) = refusal_line refusal ∷ []
lines_of usage lines (Found found) = lines found
lines_of usage lines ReadFailed = []
lines_of usage lines Memory = []

-- an answer is true of the names that words give and of what is held under them: there are no names, what is held is
-- refused so, or this is found in it; of a failed read only that there are names is said here, and of want of memory nothing
abbrev pub IsTrueAnswer : {N X T : Type 0} → Option N → (N → Option X) → (X → Refusal → Type 0) → (X → T → Type 0) → Answer T → Type 0
IsTrueAnswer given held refuses finds Usage = given ≡ None
IsTrueAnswer given held refuses finds (Refused refusal) = OfHeld given held (λ x. refuses x refusal)
IsTrueAnswer given held refuses finds (Found found) = OfHeld given held (λ x. finds x found)
IsTrueAnswer given held refuses finds ReadFailed = AreGiven given
IsTrueAnswer given held refuses finds Memory = ⊤

-- the status is this one, unless a write failed or memory was wanting
abbrev pub IsUnlessStopped : ℕ → ℕ → Type 0
IsUnlessStopped code status = (status ≡ code) ⊎ ((status ≡ 6) ⊎ (status ≡ 7))

-- a read or a write failed, or memory was wanting
abbrev pub IsStopped : ℕ → Type 0
IsStopped status = (status ≡ 5) ⊎ ((status ≡ 6) ⊎ (status ≡ 7))
