-- From the answer of a repair that is true and printed to what the run promises. The fronts that were read say what the whole
-- files say. A book and a plan that are read, and are not too large, are one case and no refusal, and repairs have the statuses
-- 0 and 1.
use Rattle.std.proofs.Common.{◌≡◌, ◌≢◌, ◌∙◌, ℕ, true, false, inl, inr, arith, List, Ok, Err, None, Some, IfSome, ap₂, refl, subst, sym}
use Rattle.std.specs.Prelude.{Result, nat_le}
use Rattle.tail_book.specs.Cost.{plan_cost}
use Rattle.tail_book.specs.Lookup.{activities}
use Rattle.tail_book.specs.Seen.{BookSeen, RawPlanSeen}
use Rattle.tail_outside.specs.Outside.{PieceHasFailed, Takes}
use Rattle.tail_outside.specs.Shown.{FilesShown, SinkShown}
use Rattle.tail_text.specs.Checks.{look, must}
use Rattle.tail_text.specs.declared.refusal.Refusal.{Refusal}
use Rattle.book_maker.specs.Made.{book_of}
use Rattle.plan_homes.specs.Homes.{homes}
use Rattle.plan_homes.specs.Moves.{moves}
use Rattle.plan_repair.specs.LeastRepair.{IsTrueRepair}
use Rattle.plan_repair.specs.RepairText.{repair_lines, repair_text}
use Rattle.plan_repair.specs.inside.Report.{HasPlanFor}
use Rattle.plan_repair.specs.declared.raised.TheConstants.{REPAIR_LIMIT}
use Rattle.plan_repair.specs.declared.answer.Repair.{Repair}
use Rattle.plan_repair.specs.declared.answer.Repair.TheVariants.{Done, Infeasible}
use Rattle.plan_report.specs.Lines.{text_of}
use Rattle.plan_report.specs.PlanText.{plan_in, refused as refused_plan}
use Rattle.run_frame.proofs.Ending as ending
use Rattle.run_frame.proofs.Fronts.{book_of-fronts, front-limited}
use Rattle.run_frame.proofs.Held.{OfHeld-map}
use Rattle.run_frame.specs.inside.Answer.{IsAnswerTo, IsPrintable, IsPrinted, status_of}
use Rattle.run_frame.specs.Answer.{IsUnlessStopped}
use Rattle.run_frame.specs.inside.TableFiles.{front}
use Rattle.run_frame.specs.declared.answer.Answer.TheVariants.{ReadFailed}
use Rattle.tailplan.specs.RepairAnswers.{AreRefusedTexts, AreRepaired, IsTrueRepairAnswer, OfTexts, RepairAnswer, repair_answer_text}
use Rattle.tailplan.specs.RepairCases.{RepairCase, case_of, too_large}
use Rattle.tailplan.specs.RepairPromises.{IsRepairVerdict, JudgesRepair, RefusesTexts, RepairPromise}
use Rattle.tailplan.specs.FourTexts.{FourNamesSeen, FourTextsSeen, texts_held}
use Rattle.tailplan.specs.RepairWords.{repair_of}
use Rattle.tailplan.specs.Usage.{repair_usage_line}
use Rattle.tailplan.specs.declared.repaired.Repaired.{Repaired}
use Rattle.tailplan.specs.inside.Repairs.{repair_status}
use Rattle.tailplan.specs.inside.FourTexts.{text_fronts}

plan_in-front : (bytes : List ℕ) → plan_in (front bytes) ≡ plan_in bytes
plan_in-front bytes = front-limited plan_in (refused_plan 1 0) (λ b big. rw big refl) bytes

-- what is repaired of the fronts is what is repaired of the whole files
case_of-fronts : (texts : FourTextsSeen) → case_of (text_fronts texts) ≡ case_of texts
case_of-fronts texts =
    ap₂ (λ (b : Result BookSeen Refusal) (p : Result RawPlanSeen Refusal). look b (λ book. look p (λ plan. must (nat_le (activities book) REPAIR_LIMIT) too_large (Ok (record { book = book; plan = plan })))))
    (book_of-fronts texts.tables) (plan_in-front texts.fourth)

-- an answer to the files that were read is a true answer to the words
pub true_answer : (words : List (List ℕ)) (files : FilesShown) (names : FourNamesSeen) (read : FourTextsSeen) (answer : RepairAnswer) → repair_of words ≡ Some names
    → IfSome (texts_held files names) (λ texts. read ≡ text_fronts texts) → IsAnswerTo AreRefusedTexts AreRepaired read answer → IsTrueRepairAnswer words files answer
true_answer words files = ending.true_answer (repair_of words) (texts_held files) AreRefusedTexts AreRepaired text_fronts
    (λ texts refusal h. sym (case_of-fronts texts) ∙ h) (λ texts found h. (h.0, sym (case_of-fronts texts) ∙ h.1, h.2))

-- a book and a plan that are read are a case, unless the book is too large
pub case_of-both : (texts : FourTextsSeen) (book : BookSeen) (plan : RawPlanSeen) → book_of texts.tables.timetable texts.tables.fleet texts.tables.rules ≡ Ok book → plan_in texts.fourth ≡ Ok plan
    → nat_le (activities book) REPAIR_LIMIT ≡ true → case_of texts ≡ Ok (record { book = book; plan = plan })
case_of-both texts book plan is_book is_plan few = rw (is_book, is_plan, few) refl

pub case_of-large : (texts : FourTextsSeen) (book : BookSeen) (plan : RawPlanSeen) → book_of texts.tables.timetable texts.tables.fleet texts.tables.rules ≡ Ok book → plan_in texts.fourth ≡ Ok plan
    → nat_le (activities book) REPAIR_LIMIT ≡ false → case_of texts ≡ Err too_large
case_of-large texts book plan is_book is_plan many = rw (is_book, is_plan, many) refl

-- a case is no refusal
apart : (texts : FourTextsSeen) (case : RepairCase) (refusal : Refusal) → case_of texts ≡ Ok case → AreRefusedTexts texts refusal → ⊥
apart texts case refusal is refused = let both = sym is ∙ refused in cc

-- what is repaired is one case
same_case : (texts : FourTextsSeen) (a b : RepairCase) → case_of texts ≡ Ok a → case_of texts ≡ Ok b → a ≡ b
same_case texts a b first second = let both = sym first ∙ second in cc

-- the statuses of repairs are 0 and 1
never_five : (repair : Repair) → repair_status repair ≢ 5
never_five (Done plan count cost) e = absurd (omega (arith, e))
never_five Infeasible e = absurd (omega (arith, e))

never_six : (repair : Repair) → repair_status repair ≢ 6
never_six (Done plan count cost) e = absurd (omega (arith, e))
never_six Infeasible e = absurd (omega (arith, e))

-- a true repair says whether some plan is legal
decides : (book : BookSeen) (plan : RawPlanSeen) (repair : Repair) (status : ℕ) → IsTrueRepair book (homes book plan) repair → status ≡ repair_status repair
    → IsRepairVerdict (record { book = book; plan = plan }) status
decides book raw (Done plan count cost) status truth is = inl (is, (plan, truth.0.legal))
decides book raw Infeasible status truth is = inr (is, truth)

-- the lines of what was found can be made
abbrev IsWritable : Repaired → Type 0
IsWritable found = HasPlanFor found.book found.repair

-- what was printed has the moves and the cost of the plan
with_numbers : (before after : SinkShown) (book : BookSeen) (plan : List (List ℕ)) (count cost many dear : ℕ) → count ≡ many → cost ≡ dear
    → Takes before after (repair_text book (Done plan count cost)) → Takes before after (repair_text book (Done plan many dear))
with_numbers before after book plan count cost many dear same_count same_cost took =
    subst (λ (n : ℕ). Takes before after (repair_text book (Done plan many n))) same_cost (subst (λ (n : ℕ). Takes before after (repair_text book (Done plan n cost))) same_count took)

module _ (words : List (List ℕ)) (files : FilesShown) (before after : SinkShown) where
  -- a repair that was printed promises what its status says
  found_promises : (book : BookSeen) (repair : Repair) → OfTexts words files (λ texts. AreRepaired texts (record { book = book; repair = repair }))
      → Takes before after (text_of (repair_lines book repair)) → RepairPromise words files before after (repair_status repair)
  found_promises book (Done plan count cost) k took = OfHeld-map (repair_of words) (texts_held files) _ _ (λ texts own. record {
    case = record { book = book; plan = own.0 };
    plan = plan;
    is = own.1;
    least = own.2.0;
    printed = with_numbers before after book plan count cost (moves (homes book own.0) plan) (plan_cost book plan) own.2.1 own.2.2 took;
  }) k
  found_promises book Infeasible k took = OfHeld-map (repair_of words) (texts_held files) _ _ (λ texts own. record {
    case = record { book = book; plan = own.0 };
    is = own.1;
    none = own.2;
    printed = took;
  }) k

  module _ (status : ℕ) (answer : RepairAnswer) (truth : IsTrueRepairAnswer words files answer)
      (printed : IsPrinted (repair_answer_text answer) (status_of (λ found. repair_status found.repair) answer) before after status) where
    pub promise : IsPrintable IsWritable answer → RepairPromise words files before after status
    promise fit = ending.promise (repair_of words) (texts_held files) AreRefusedTexts AreRepaired repair_usage_line (λ found. repair_lines found.book found.repair) (λ found. repair_status found.repair)
        before after status answer truth printed (RepairPromise words files before after) IsWritable fit
        (λ h. h) (λ h. h) (λ h. h) (λ h. h) (λ h. h) (λ found fits k took. found_promises found.book found.repair k took)

    pub piece_failed : status ≡ 6 → PieceHasFailed before after
    piece_failed = ending.piece_failed (repair_of words) (texts_held files) AreRefusedTexts AreRepaired repair_usage_line (λ found. repair_lines found.book found.repair) (λ found. repair_status found.repair)
        before after status answer truth printed (λ found. never_six found.repair)

    pub read_failed : (Cause : Type 0) → (answer ≡ ReadFailed → Cause) → status ≡ 5 → Cause
    read_failed Cause cause = ending.read_failed (repair_of words) (texts_held files) AreRefusedTexts AreRepaired repair_usage_line (λ found. repair_lines found.book found.repair) (λ found. repair_status found.repair)
        before after status answer truth printed Cause cause (λ found. never_five found.repair)

    pub words_refused : repair_of words ≡ None → IsUnlessStopped 2 status
    words_refused = ending.words_refused (repair_of words) (texts_held files) AreRefusedTexts AreRepaired repair_usage_line (λ found. repair_lines found.book found.repair) (λ found. repair_status found.repair)
        before after status answer truth printed

    pub texts_refused : RefusesTexts words files status
    texts_refused = ending.refused (repair_of words) (texts_held files) AreRefusedTexts AreRepaired repair_usage_line (λ found. repair_lines found.book found.repair) (λ found. repair_status found.repair)
        before after status answer truth printed (λ texts refusal found is own. apart texts (record { book = found.book; plan = own.0 }) refusal own.1 is)

    pub judged : IsPrintable IsWritable answer → JudgesRepair words files status
    judged fit = ending.judged (repair_of words) (texts_held files) AreRefusedTexts AreRepaired repair_usage_line (λ found. repair_lines found.book found.repair) (λ found. repair_status found.repair)
        before after status answer truth printed (λ texts case. case_of texts ≡ Ok case) IsRepairVerdict IsWritable fit apart
        (λ texts case found is own fits s. subst (λ (c : RepairCase). IsRepairVerdict c status) (same_case texts (record { book = found.book; plan = own.0 }) case own.1 is)
        (decides found.book own.0 found.repair status own.2 s))
