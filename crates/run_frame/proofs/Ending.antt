-- From an answer that is true and printed to what the status of its run says.
-- Printing leaves the status of the answer, or 6 or 7. Each promise is then one match on the answer.
use Rattle.std.proofs.Common.{◌≡◌, ◌≢◌, ◌∙◌, ℕ, ◌⊎◌, inl, inr, arith, List, [], ◌∷◌, Option, None, Some, IfSome, refl, subst, sym}
use Rattle.std.proofs.lemmas.List.{append-nil}
use Rattle.tail_outside.proofs.OutsideLemmas.{TakesFront-whole}
use Rattle.tail_outside.specs.Outside.{PieceHasFailed, Takes}
use Rattle.tail_outside.specs.Shown.{SinkShown}
use Rattle.tail_text.specs.declared.refusal.Refusal.{Refusal}
use Rattle.plan_report.specs.Lines.{text_of}
use Rattle.plan_report.specs.Refused.{refusal_line}
use Rattle.run_frame.proofs.Held.{OfHeld-at, OfHeld-map, given-held, whole}
use Rattle.run_frame.specs.inside.Answer.{IsAnswerTo, IsPrintable, IsPrinted, status_of}
use Rattle.run_frame.specs.Answer.{IsStopped, IsTrueAnswer, IsUnlessStopped, lines_of}
use Rattle.run_frame.specs.Promise.{Judges, PrintsFront, PrintsRefusal, Refuses}
use Rattle.run_frame.specs.TableFiles.{AreGiven, OfHeld}
use Rattle.run_frame.specs.declared.answer.Answer.{Answer}
use Rattle.run_frame.specs.declared.answer.Answer.TheVariants.{Usage, Refused, Found, ReadFailed, Memory}

-- the text of one line is that line
pub one_line : (before after : SinkShown) (line : List ℕ) → Takes before after (text_of (line ∷ [])) → Takes before after line
one_line before after line h = subst (Takes before after) (append-nil line) h

-- an answer to what was read, up to a limit, is a true answer, where the whole has what its front has
pub true_answer : {N X T : Type 0} (given : Option N) (held : N → Option X) (refuses : X → Refusal → Type 0) (finds : X → T → Type 0) (cut : X → X)
    → ((x : X) (refusal : Refusal) → refuses (cut x) refusal → refuses x refusal) → ((x : X) (found : T) → finds (cut x) found → finds x found)
    → (names : N) (read : X) (answer : Answer T) → given ≡ Some names → IfSome (held names) (λ x. read ≡ cut x) → IsAnswerTo refuses finds read answer → IsTrueAnswer given held refuses finds answer
true_answer given held refuses finds cut still_refused still_found names read (Refused refusal) is fronts h =
    (names, is, whole cut (λ x. refuses x refusal) (λ x. still_refused x refusal) (held names) read fronts h)
true_answer given held refuses finds cut still_refused still_found names read (Found found) is fronts h =
    (names, is, whole cut (λ x. finds x found) (λ x. still_found x found) (held names) read fronts h)
true_answer given held refuses finds cut still_refused still_found names read Memory is fronts h = tt
true_answer given held refuses finds cut still_refused still_found names read Usage is fronts h = absurd h
true_answer given held refuses finds cut still_refused still_found names read ReadFailed is fronts h = absurd h

module _ {N X T : Type 0} (given : Option N) (held : N → Option X) (refuses : X → Refusal → Type 0) (finds : X → T → Type 0)
    (usage : List ℕ) (lines : T → List (List ℕ)) (code : T → ℕ) (before after : SinkShown) (status : ℕ) (answer : Answer T)
    (truth : IsTrueAnswer given held refuses finds answer) (printed : IsPrinted (text_of (lines_of usage lines answer)) (status_of code answer) before after status) where
  -- the status is that of the answer, or 6 or 7
  stopped : IsUnlessStopped (status_of code answer) status
  stopped = elim printed [
    | inl h ↦ inl h.0
    | inr (inl h) ↦ inr (inl h.0)
    | inr (inr h) ↦ inr (inr h.0)
  ]

  -- what the status promises: one match on the answer, and 6 and 7 for a front of it
  pub promise : (Promise : ℕ → Type 0) (Fit : T → Type 0) → IsPrintable Fit answer
      → ((given ≡ None) × Takes before after usage → Promise 2)
      → (OfHeld given held (PrintsRefusal refuses before after) → Promise 3)
      → (AreGiven given × Takes before after [] → Promise 5)
      → (PieceHasFailed before after × PrintsFront (IsTrueAnswer given held refuses finds) (λ a. text_of (lines_of usage lines a)) before after → Promise 6)
      → (PrintsFront (IsTrueAnswer given held refuses finds) (λ a. text_of (lines_of usage lines a)) before after → Promise 7)
      → ((found : T) → Fit found → OfHeld given held (λ x. finds x found) → Takes before after (text_of (lines found)) → Promise (code found)) → Promise status
  promise Promise Fit fit two three five six seven by_found = elim printed [
    | inl h ↦ subst Promise (sym h.0) (by answer truth fit h.1)
    | inr (inl h) ↦ subst Promise (sym h.0) (six (h.1, record { answer = answer; truth = truth; printed = h.2 }))
    | inr (inr h) ↦ subst Promise (sym h.0) (seven (record { answer = answer; truth = truth; printed = h.1 }))
  ]
    where
      by : (a : Answer T) → IsTrueAnswer given held refuses finds a → IsPrintable Fit a → Takes before after (text_of (lines_of usage lines a)) → Promise (status_of code a)
      by Usage k f took = two (k, one_line before after usage took)
      by (Refused refusal) k f took = three (OfHeld-map given held (λ x. refuses x refusal) (PrintsRefusal refuses before after)
          (λ x own. record { refusal = refusal; is = own; printed = one_line before after (refusal_line refusal) took }) k)
      by (Found found) k f took = by_found found f k took
      by ReadFailed k f took = five (k, took)
      by Memory k f took = seven (record { answer = Memory; truth = tt; printed = TakesFront-whole before after [] took })

  -- a status 6 has its cause, where no finding has it
  pub piece_failed : ((found : T) → code found ≢ 6) → status ≡ 6 → PieceHasFailed before after
  piece_failed other six = elim printed [
    | inl h ↦ absurd (never answer (sym h.0 ∙ six))
    | inr (inl h) ↦ h.1
    | inr (inr h) ↦ absurd (omega (arith, h.0, six))
  ]
    where
      never : (a : Answer T) → status_of code a ≢ 6
      never Usage e = absurd (omega (arith, e))
      never (Refused refusal) e = absurd (omega (arith, e))
      never (Found found) e = other found e
      never ReadFailed e = absurd (omega (arith, e))
      never Memory e = absurd (omega (arith, e))

  -- and so has a status 5
  pub read_failed : (Cause : Type 0) → (answer ≡ ReadFailed → Cause) → ((found : T) → code found ≢ 5) → status ≡ 5 → Cause
  read_failed Cause cause other five = by answer cause stopped
    where
      by : (a : Answer T) → (a ≡ ReadFailed → Cause) → IsUnlessStopped (status_of code a) status → Cause
      by a c (inr (inl s)) = absurd (omega (arith, s, five))
      by a c (inr (inr s)) = absurd (omega (arith, s, five))
      by Usage c (inl s) = absurd (omega (arith, s, five))
      by (Refused refusal) c (inl s) = absurd (omega (arith, s, five))
      by (Found found) c (inl s) = absurd (other found (sym s ∙ five))
      by ReadFailed c (inl s) = c refl
      by Memory c (inl s) = absurd (omega (arith, s, five))

  -- words that give no names end with 2
  pub words_refused : given ≡ None → IsUnlessStopped 2 status
  words_refused none = by answer truth stopped
    where
      named : {n : N} → given ≡ Some n → ⊥
      named e = let both = sym none ∙ e in cc

      by : (a : Answer T) → IsTrueAnswer given held refuses finds a → IsUnlessStopped (status_of code a) status → IsUnlessStopped 2 status
      by Usage k s = s
      by (Refused refusal) k s = absurd (named k.1)
      by (Found found) k s = absurd (named k.1)
      by ReadFailed k s = absurd (named k.1)
      by Memory k (inl s) = inr (inr s)
      by Memory k (inr s) = inr s

  -- what is refused ends with 3, unless a read failed; nothing is found in what is refused
  pub refused : ((x : X) (refusal : Refusal) (found : T) → refuses x refusal → finds x found → ⊥) → Refuses given held refuses status
  refused apart x refusal named is = by answer truth stopped
    where
      by : (a : Answer T) → IsTrueAnswer given held refuses finds a → IsUnlessStopped (status_of code a) status → (status ≡ 5) ⊎ IsUnlessStopped 3 status
      by Usage k s = absurd (given-held given held x named k)
      by (Refused other) k s = inr s
      by (Found found) k s = absurd (apart x refusal found is (OfHeld-at given held (λ y. finds y found) x named k))
      by ReadFailed k (inl s) = inl s
      by ReadFailed k (inr s) = inr (inr s)
      by Memory k (inl s) = inr (inr (inr s))
      by Memory k (inr s) = inr (inr s)

  -- what is no refusal is judged, unless a read or a write failed or memory was wanting
  pub judged : {C : Type 0} (is_case : X → C → Type 0) (verdict : C → ℕ → Type 0) (Fit : T → Type 0) → IsPrintable Fit answer
      → ((x : X) (case : C) (refusal : Refusal) → is_case x case → refuses x refusal → ⊥)
      → ((x : X) (case : C) (found : T) → is_case x case → finds x found → Fit found → status ≡ code found → verdict case status)
      → Judges given held is_case verdict status
  judged is_case verdict Fit fit apart decides x case named is = by answer truth fit stopped
    where
      by : (a : Answer T) → IsTrueAnswer given held refuses finds a → IsPrintable Fit a → IsUnlessStopped (status_of code a) status → verdict case status ⊎ IsStopped status
      by a k f (inr s) = inr (inr s)
      by Usage k f (inl s) = absurd (given-held given held x named k)
      by (Refused refusal) k f (inl s) = absurd (apart x case refusal is (OfHeld-at given held (λ y. refuses y refusal) x named k))
      by (Found found) k f (inl s) = inl (decides x case found is (OfHeld-at given held (λ y. finds y found) x named k) f s)
      by ReadFailed k f (inl s) = inr (inl s)
      by Memory k f (inl s) = inr (inr (inr s))
