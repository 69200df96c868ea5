-- From what a run answered and printed, or did not, to what it promises. Where there is an answer it is the promise of
-- that answer. Where the certificate could not be written, nothing was printed, and the cause is the write that failed.
use Rattle.std.proofs.Common.{◌≡◌, ◌≤◌, inl, inr, ℕ, List, None, Result, Ok, Err, arith, refl, sym, subst}
use Rattle.std.specs.Prelude.{IfOk, IsErr}
use Rattle.tail_book.specs.Faults.{HasRisen}
use Rattle.tail_outside.specs.Outside.{OnlyRead}
use Rattle.tail_outside.specs.Shown.{FilesShown, SinkShown}
use Rattle.plan_report.specs.inside.Report.{HasPlanFor}
use Rattle.run_frame.specs.Answer.{IsUnlessStopped}
use Rattle.run_frame.specs.TableFiles.{AreGiven}
use Rattle.run_frame.specs.inside.Answer.{IsPrintable as IsPrintableBy, IsPrinted, status_of}
use Rattle.run_frame.specs.declared.answer.Answer.TheVariants.{Usage, Refused, Found, ReadFailed, Memory}
use Rattle.tail_book.specs.declared.outcome.Outcome.{Outcome}
use Rattle.tail_book.specs.declared.outcome.Outcome.TheVariants.{Optimal, Infeasible, Between, Above}
use Rattle.tailplan.specs.Answers.{Answer, IsTrueAnswer, answer_text, cert_of}
use Rattle.tailplan.specs.Kept.{EndsBeforeSearch, OnlyReads}
use Rattle.tailplan.specs.Promises.{Promise}
use Rattle.tailplan.specs.declared.answered.Unwritten.{Unwritten}
use Rattle.tailplan.specs.inside.Ending.{IsReported, KeepsFiles}
use Rattle.tailplan.specs.inside.Outcomes.{outcome_status}
use Rattle.tailplan.proofs.Promised.{promise}

-- no outcome ends as what is found before the search
outcome_late : (outcome : Outcome) (status : ℕ) → status ≡ outcome_status outcome → EndsBeforeSearch status → ⊥
outcome_late (Optimal plan cost) status is (inl two) = omega (arith, is, two)
outcome_late (Optimal plan cost) status is (inr (inl three)) = omega (arith, is, three)
outcome_late (Optimal plan cost) status is (inr (inr five)) = omega (arith, is, five)
outcome_late Infeasible status is (inl two) = omega (arith, is, two)
outcome_late Infeasible status is (inr (inl three)) = omega (arith, is, three)
outcome_late Infeasible status is (inr (inr five)) = omega (arith, is, five)
outcome_late (Between plan low high nodes) status is (inl two) = omega (arith, is, two)
outcome_late (Between plan low high nodes) status is (inr (inl three)) = omega (arith, is, three)
outcome_late (Between plan low high nodes) status is (inr (inr five)) = omega (arith, is, five)
outcome_late (Above low nodes) status is (inl two) = omega (arith, is, two)
outcome_late (Above low nodes) status is (inr (inl three)) = omega (arith, is, three)
outcome_late (Above low nodes) status is (inr (inr five)) = omega (arith, is, five)

-- nor does a run that was stopped
stopped_late : (status code : ℕ) → status ≡ code → 6 ≤ code → EndsBeforeSearch status → ⊥
stopped_late status code is late (inl two) = omega (arith, is, late, two)
stopped_late status code is late (inr (inl three)) = omega (arith, is, late, three)
stopped_late status code is late (inr (inr five)) = omega (arith, is, late, five)

abbrev CanBePrinted : Answer → Type 0
CanBePrinted = IsPrintableBy (λ solved. HasPlanFor solved.book solved.outcome)

module _ (words : List (List ℕ)) (files later : FilesShown) (before after : SinkShown) (status : ℕ) where
  abbrev WasWritten : Type 0
  WasWritten = AreGiven (cert_of words) × HasRisen files.write_faults later.write_faults

  pub promise_of : (answer : Result Answer Unwritten) → IfOk answer (IsTrueAnswer words files later) → IfOk answer CanBePrinted → (IsErr answer → WasWritten)
      → IsReported answer before after status → Promise words files later before after status
  promise_of (Ok answer) truth fit cause printed = promise words files later before after status answer truth printed fit
  promise_of (Err fail) truth fit cause reported = subst (λ (s : ℕ). Promise words files later before after s) (sym reported.0)
      (inr (record { named = (cause refl).0; write = (cause refl).1; silent = reported.1 }))

  by_status : (answer : Answer) → IsPrinted (answer_text answer) (status_of (λ solved. outcome_status solved.outcome) answer) before after status
      → IsUnlessStopped (status_of (λ solved. outcome_status solved.outcome) answer) status
  by_status answer printed = elim printed [
    | inl h ↦ inl h.0
    | inr (inl h) ↦ inr (inl h.0)
    | inr (inr h) ↦ inr (inr h.0)
  ]

  by_answer : (answer : Answer) → KeepsFiles files later answer → IsUnlessStopped (status_of (λ solved. outcome_status solved.outcome) answer) status
      → EndsBeforeSearch status → OnlyRead files later
  by_answer Usage kept s ends = kept
  by_answer (Refused refusal) kept s ends = kept
  by_answer ReadFailed kept s ends = kept
  by_answer (Found solved) kept (inl s) ends = absurd (outcome_late solved.outcome status s ends)
  by_answer (Found solved) kept (inr (inl s)) ends = absurd (stopped_late status 6 s (omega arith) ends)
  by_answer (Found solved) kept (inr (inr s)) ends = absurd (stopped_late status 7 s (omega arith) ends)
  by_answer Memory kept (inl s) ends = absurd (stopped_late status 7 s (omega arith) ends)
  by_answer Memory kept (inr (inl s)) ends = absurd (stopped_late status 6 s (omega arith) ends)
  by_answer Memory kept (inr (inr s)) ends = absurd (stopped_late status 7 s (omega arith) ends)

  pub only_reads_of : (answer : Result Answer Unwritten) → IfOk answer (KeepsFiles files later) → (cert_of words ≡ None → OnlyRead files later)
      → IsReported answer before after status → OnlyReads words status files later
  only_reads_of (Ok answer) kept same printed (inl none) = same none
  only_reads_of (Ok answer) kept same printed (inr ends) = by_answer answer kept (by_status answer printed) ends
  only_reads_of (Err fail) kept same reported (inl none) = same none
  only_reads_of (Err fail) kept same reported (inr ends) = absurd (stopped_late status 6 reported.0 (omega arith) ends)
