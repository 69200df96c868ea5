-- What the status of every run promises, and when it comes.
-- For tailcheck/specs/Promises.antt, tailplan/specs/Promises.antt and others.
use Rattle.std.specs.Prelude.{ℕ, ◌≡◌, ◌==◌, ◌⊎◌, List, [], Option, None, cond}
use Rattle.tail_outside.specs.Outside.{PieceHasFailed, Takes, TakesFront}
use Rattle.tail_outside.specs.Shown.{SinkShown}
use Rattle.tail_text.specs.declared.refusal.Refusal.{Refusal}
use Rattle.plan_report.specs.Refused.{refusal_line}
use Rattle.run_frame.specs.Answer.{IsStopped, IsUnlessStopped}
use Rattle.run_frame.specs.TableFiles.{AreGiven, IsHeld, OfHeld}

-- what is held is refused, and the first refusal was printed
pub record PrintsRefusal {X : Type 0} (refuses : X → Refusal → Type 0) (before after : SinkShown) (x : X) : Type 0 where
  pub refusal : Refusal
  pub is : refuses x refusal
  pub printed : Takes before after (refusal_line refusal)

-- some answer is true, and a front of its text was printed
pub record PrintsFront {A : Type 0} (is_true : A → Type 0) (text : A → List ℕ) (before after : SinkShown) : Type 0 where
  pub answer : A
  pub truth : is_true answer
  pub printed : TakesFront before after (text answer)

-- what a status promises that is not that of a finding: 2 that the words give no names and the usage was printed, 3 the
-- first refusal of what is held, 5 that nothing was printed, 6 and 7 a front of the text of a true answer, 6 after a piece
-- that failed; no other status comes
abbrev pub ElsePromise : {N X A : Type 0} → Option N → (N → Option X) → (X → Refusal → Type 0) → List ℕ → (A → Type 0) → (A → List ℕ)
    → SinkShown → SinkShown → ℕ → Type 0
ElsePromise given held refuses usage is_true text before after status =
    cond (status == 2) ((given ≡ None) × Takes before after usage) (
    cond (status == 3) (OfHeld given held (PrintsRefusal refuses before after)) (
    cond (status == 5) (AreGiven given × Takes before after []) (
    cond (status == 6) (PieceHasFailed before after × PrintsFront is_true text before after) (
    cond (status == 7) (PrintsFront is_true text before after)
    ⊥))))

-- what is refused ends with status 3, unless a read or a write failed or memory was wanting
abbrev pub Refuses : {N X : Type 0} → Option N → (N → Option X) → (X → Refusal → Type 0) → ℕ → Type 0
Refuses {N} {X} given held refuses status = (x : X) (refusal : Refusal) → IsHeld given held x → refuses x refusal → (status ≡ 5) ⊎ IsUnlessStopped 3 status

-- what is no refusal ends with its verdict, unless a read or a write failed or memory was wanting
abbrev pub Judges : {N X C : Type 0} → Option N → (N → Option X) → (X → C → Type 0) → (C → ℕ → Type 0) → ℕ → Type 0
Judges {N} {X} {C} given held is_case verdict status = (x : X) (case : C) → IsHeld given held x → is_case x case → verdict case status ⊎ IsStopped status
