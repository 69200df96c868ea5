-- From the answer to why no plan is legal, true and printed, to what the run promises. The fronts that were read say what the whole
-- tables say. Tables are one book and no refusal, and what is told of it has the statuses 0 and 1.
use Rattle.std.proofs.Common.{◌≡◌, ◌≢◌, ◌∙◌, ℕ, inl, inr, arith, List, Ok, None, Some, IfSome, subst, sym}
use Rattle.tail_book.specs.Seen.{BookSeen}
use Rattle.tail_outside.specs.Outside.{PieceHasFailed, Takes}
use Rattle.tail_outside.specs.Shown.{FilesShown, SinkShown}
use Rattle.tail_text.specs.declared.refusal.Refusal.{Refusal}
use Rattle.plan_report.specs.Lines.{text_of}
use Rattle.run_frame.proofs.Ending as ending
use Rattle.run_frame.proofs.Fronts.{book_of-fronts}
use Rattle.run_frame.proofs.Held.{OfHeld-map}
use Rattle.run_frame.specs.inside.Answer.{IsAnswerTo, IsPrintable, IsPrinted, status_of}
use Rattle.run_frame.specs.Answer.{IsUnlessStopped}
use Rattle.run_frame.specs.TableFiles.{tables_held}
use Rattle.run_frame.specs.Tables.{NamesSeen, TablesSeen}
use Rattle.run_frame.specs.inside.TableFiles.{fronts}
use Rattle.run_frame.specs.declared.answer.Answer.TheVariants.{ReadFailed}
use Rattle.shortage_report.specs.ShortageText.{why_lines}
use Rattle.shortage_report.specs.Why.{IsTrueWhy}
use Rattle.shortage_report.specs.declared.why.Why.{Why}
use Rattle.shortage_report.specs.declared.why.Why.TheVariants.{Feasible, Short, Nothing}
use Rattle.shortage_report.specs.inside.Laws.{TrueWhysLeaveNoPlan}
use Rattle.shortage_report.specs.inside.Told.{CanBeTold}
use Rattle.tailplan.specs.Usage.{why_usage_line}
use Rattle.tailplan.specs.WhyAnswers.{AreBook, AreExplained, AreNoBook, IsTrueWhyAnswer, OfTables, WhyAnswer, why_answer_text}
use Rattle.tailplan.specs.WhyPromises.{IsWhyVerdict, JudgesWhy, RefusesWhy, WhyPromise}
use Rattle.tailplan.specs.WhyWords.{why_of}
use Rattle.tailplan.specs.declared.explained.Explained.{Explained}
use Rattle.tailplan.specs.inside.Whys.{why_status}

-- an answer to the tables that were read is a true answer to the words
pub true_answer : (words : List (List ℕ)) (files : FilesShown) (names : NamesSeen) (read : TablesSeen) (answer : WhyAnswer) → why_of words ≡ Some names
    → IfSome (tables_held files names) (λ tables. read ≡ fronts tables) → IsAnswerTo AreNoBook AreExplained read answer → IsTrueWhyAnswer words files answer
true_answer words files = ending.true_answer (why_of words) (tables_held files) AreNoBook AreExplained fronts
    (λ tables refusal h. sym (book_of-fronts tables) ∙ h) (λ tables found h. (sym (book_of-fronts tables) ∙ h.0, h.1))

-- a book is no refusal
apart : (tables : TablesSeen) (book : BookSeen) (refusal : Refusal) → AreBook tables book → AreNoBook tables refusal → ⊥
apart tables book refusal is refused = let both = sym is ∙ refused in cc

-- the tables are one book
same_book : (tables : TablesSeen) (a b : BookSeen) → AreBook tables a → AreBook tables b → a ≡ b
same_book tables a b first second = let both = sym first ∙ second in cc

-- the statuses are 0 and 1
never_five : (why : Why) → why_status why ≢ 5
never_five Feasible e = absurd (omega (arith, e))
never_five (Short found) e = absurd (omega (arith, e))
never_five (Nothing uncovered) e = absurd (omega (arith, e))

never_six : (why : Why) → why_status why ≢ 6
never_six Feasible e = absurd (omega (arith, e))
never_six (Short found) e = absurd (omega (arith, e))
never_six (Nothing uncovered) e = absurd (omega (arith, e))

-- what was told can be
abbrev IsTellable : Explained → Type 0
IsTellable found = CanBeTold found.book found.why

module _ (law : TrueWhysLeaveNoPlan) where
  -- what is true says whether some plan is legal
  decides : (book : BookSeen) (why : Why) (status : ℕ) → IsTrueWhy book why → status ≡ why_status why → IsWhyVerdict book status
  decides book Feasible status truth is = inl (is, truth)
  decides book (Short found) status truth is = inr (is, law book (Short found) truth tt)
  decides book (Nothing uncovered) status truth is = inr (is, truth.0)

  module _ (words : List (List ℕ)) (files : FilesShown) (before after : SinkShown) where
    -- what was told promises what its status says
    found_promises : (book : BookSeen) (why : Why) → OfTables words files (λ tables. AreExplained tables (record { book = book; why = why }))
        → Takes before after (text_of (why_lines book why)) → WhyPromise words files before after (why_status why)
    found_promises book Feasible k took = OfHeld-map (why_of words) (tables_held files) _ _ (λ tables own. record {
      book = book;
      is = own.0;
      legal = own.1;
      printed = took;
    }) k
    found_promises book (Short found) k took = OfHeld-map (why_of words) (tables_held files) _ _ (λ tables own. record {
      book = book;
      why = Short found;
      is = own.0;
      none = law book (Short found) own.1 tt;
      of_none = tt;
      truth = own.1;
      printed = took;
    }) k
    found_promises book (Nothing uncovered) k took = OfHeld-map (why_of words) (tables_held files) _ _ (λ tables own. record {
      book = book;
      why = Nothing uncovered;
      is = own.0;
      none = own.1.0;
      of_none = tt;
      truth = own.1;
      printed = took;
    }) k

    module _ (status : ℕ) (answer : WhyAnswer) (truth : IsTrueWhyAnswer words files answer)
        (printed : IsPrinted (why_answer_text answer) (status_of (λ found. why_status found.why) answer) before after status) where
      pub promise : IsPrintable IsTellable answer → WhyPromise words files before after status
      promise fit = ending.promise (why_of words) (tables_held files) AreNoBook AreExplained why_usage_line (λ found. why_lines found.book found.why) (λ found. why_status found.why)
          before after status answer truth printed (WhyPromise words files before after) IsTellable fit
          (λ h. h) (λ h. h) (λ h. h) (λ h. h) (λ h. h) (λ found fits k took. found_promises found.book found.why k took)

      pub piece_failed : status ≡ 6 → PieceHasFailed before after
      piece_failed = ending.piece_failed (why_of words) (tables_held files) AreNoBook AreExplained why_usage_line (λ found. why_lines found.book found.why) (λ found. why_status found.why)
          before after status answer truth printed (λ found. never_six found.why)

      pub read_failed : (Cause : Type 0) → (answer ≡ ReadFailed → Cause) → status ≡ 5 → Cause
      read_failed Cause cause = ending.read_failed (why_of words) (tables_held files) AreNoBook AreExplained why_usage_line (λ found. why_lines found.book found.why) (λ found. why_status found.why)
          before after status answer truth printed Cause cause (λ found. never_five found.why)

      pub words_refused : why_of words ≡ None → IsUnlessStopped 2 status
      words_refused = ending.words_refused (why_of words) (tables_held files) AreNoBook AreExplained why_usage_line (λ found. why_lines found.book found.why) (λ found. why_status found.why)
          before after status answer truth printed

      pub tables_refused : RefusesWhy words files status
      tables_refused = ending.refused (why_of words) (tables_held files) AreNoBook AreExplained why_usage_line (λ found. why_lines found.book found.why) (λ found. why_status found.why)
          before after status answer truth printed (λ tables refusal found is own. apart tables found.book refusal own.0 is)

      pub judged : IsPrintable IsTellable answer → JudgesWhy words files status
      judged fit = ending.judged (why_of words) (tables_held files) AreNoBook AreExplained why_usage_line (λ found. why_lines found.book found.why) (λ found. why_status found.why)
          before after status answer truth printed AreBook IsWhyVerdict IsTellable fit apart
          (λ tables book found is own fits s. subst (λ (b : BookSeen). IsWhyVerdict b status) (same_book tables found.book book own.0 is) (decides found.book found.why status own.1 s))
