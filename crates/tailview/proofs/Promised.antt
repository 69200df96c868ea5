-- From an answer that is true and printed to what a run promises. The fronts that were read say what the whole files
-- say. A book and plans that are read are one case and no refusal, and audits have the statuses 0 and 1. The picture
-- of a broken plan is the same whatever it costs, so there the cost that is drawn need not be known.
use Rattle.std.proofs.Common.{◌≡◌, ◌≢◌, ◌∙◌, ◌==◌, ℕ, suc, false, length, inl, inr, arith, List, [], ◌∷◌, Ok, None, Option, Some, IfSome, ap, option_map, refl, subst, sym}
use Rattle.std.proofs.lemmas.Bool.Decides.{nat_tests}
use Rattle.std.specs.Prelude.{Result}
use Rattle.tail_book.specs.Seen.{BookSeen, RawPlanSeen}
use Rattle.tail_outside.specs.Outside.{PieceHasFailed, Takes}
use Rattle.tail_outside.specs.Shown.{FilesShown, SinkShown}
use Rattle.tail_text.specs.Checks.{look}
use Rattle.tail_text.specs.declared.refusal.Refusal.{Refusal}
use Rattle.plan_audit.specs.Broken.{IsAuditOf, broken}
use Rattle.plan_audit.specs.declared.broken.Audit.{Audit}
use Rattle.plan_audit.specs.declared.broken.Audit.TheVariants.{Legal, Broken}
use Rattle.plan_audit.specs.declared.broken.Broken.{Broken as BrokenRule}
use Rattle.tail_book.specs.Cost.{plan_cost}
use Rattle.plan_audit.specs.Kept.{kept}
use Rattle.plan_picture.specs.Picture.{page_lines, picture}
use Rattle.plan_picture.specs.View.{ViewSeen}
use Rattle.plan_picture.specs.inside.Drawable.{IsDrawable}
use Rattle.tailview.specs.declared.answer.Judged.{Judged}
use Rattle.plan_report.specs.Lines.{text_of}
use Rattle.plan_report.specs.PlanText.{plan_in, refused as refused_plan}
use Rattle.book_maker.specs.Made.{book_of}
use Rattle.run_frame.proofs.Ending as ending
use Rattle.run_frame.proofs.Fronts.{book_of-fronts, front-limited}
use Rattle.run_frame.proofs.Held.{OfHeld-map}
use Rattle.run_frame.specs.inside.Answer.{IsAnswerTo, IsPrintable, IsPrinted, audit_status, status_of}
use Rattle.run_frame.specs.Answer.{IsUnlessStopped}
use Rattle.run_frame.specs.inside.TableFiles.{front}
use Rattle.run_frame.specs.declared.answer.Answer.TheVariants.{ReadFailed}
use Rattle.tailview.specs.Answers.{Answer, AreJudged, AreRefused, IsTrueAnswer, OfTexts, answer_text, drawn_lines, view_in}
use Rattle.tailview.specs.Drawn.{drawn_rules}
use Rattle.tailview.specs.Cases.{Case, before_in, case_of}
use Rattle.tailview.specs.Promises.{IsVerdict, JudgesPlan, Promise, RefusesTexts}
use Rattle.tailview.specs.inside.Texts.{text_fronts}
use Rattle.tailview.specs.Texts.{texts_held, ViewNamesSeen, TextsSeen}
use Rattle.tailview.specs.Usage.{usage_line}
use Rattle.tailview.specs.Words.{names_of}

plan_in-front : (bytes : List ℕ) → plan_in (front bytes) ≡ plan_in bytes
plan_in-front bytes = front-limited plan_in (refused_plan 1 0) (λ b big. rw big refl) bytes

before_in-front : (bytes : Option (List ℕ)) → before_in (option_map front bytes) ≡ before_in bytes
before_in-front None = refl
before_in-front (Some bytes) = ap (λ (p : Result RawPlanSeen Refusal). look p (λ plan. Ok (Some plan))) (plan_in-front bytes)

-- a book and two plans are a case, or the first refusal among them
abbrev case_by : Result BookSeen Refusal → Result RawPlanSeen Refusal → Result (Option RawPlanSeen) Refusal → Result Case Refusal
case_by b p q = look b (λ book. look p (λ plan. look q (λ before. Ok (record { book = book; plan = plan; before = before }))))

same_by : {a b : Result BookSeen Refusal} {s t : Result RawPlanSeen Refusal} {q r : Result (Option RawPlanSeen) Refusal} → a ≡ b → s ≡ t → q ≡ r → case_by a s q ≡ case_by b t r
same_by one other third = rw (one, other, third) refl

-- what is judged of the fronts is what is judged of the whole files
case_of-fronts : (texts : TextsSeen) → case_of (text_fronts texts) ≡ case_of texts
case_of-fronts texts = same_by (book_of-fronts texts.tables) (plan_in-front texts.plan) (before_in-front texts.before)

-- an answer to the files that were read is a true answer to the words
pub true_answer : (words : List (List ℕ)) (files : FilesShown) (names : ViewNamesSeen) (read : TextsSeen) (answer : Answer) → names_of words ≡ Some names
    → IfSome (texts_held files names) (λ texts. read ≡ text_fronts texts) → IsAnswerTo AreRefused AreJudged read answer → IsTrueAnswer words files answer
true_answer words files = ending.true_answer (names_of words) (texts_held files) AreRefused AreJudged text_fronts
    (λ texts refusal h. sym (case_of-fronts texts) ∙ h) (λ texts judged h. (h.0, h.1, sym (case_of-fronts texts) ∙ h.2, h.3, h.4, h.5))

-- a book and plans that are read are a case
pub case_of-all : (texts : TextsSeen) (book : BookSeen) (plan : RawPlanSeen) (before : Option RawPlanSeen) → book_of texts.tables.timetable texts.tables.fleet texts.tables.rules ≡ Ok book
    → plan_in texts.plan ≡ Ok plan → before_in texts.before ≡ Ok before → case_of texts ≡ Ok (record { book = book; plan = plan; before = before })
case_of-all texts book plan before is_book is_plan is_before = rw (is_book, is_plan, is_before) refl

-- a case is no refusal
apart : (texts : TextsSeen) (case : Case) (refusal : Refusal) → case_of texts ≡ Ok case → AreRefused texts refusal → ⊥
apart texts case refusal is refused = let both = sym is ∙ refused in cc

-- what is judged is one case
same_case : (texts : TextsSeen) (a b : Case) → case_of texts ≡ Ok a → case_of texts ≡ Ok b → a ≡ b
same_case texts a b first second = let both = sym first ∙ second in cc

-- the statuses of audits are 0 and 1
never_five : (found : Audit) → audit_status found ≢ 5
never_five (Legal cost) e = absurd (omega (arith, e))
never_five (Broken rules) e = absurd (omega (arith, e))

never_six : (found : Audit) → audit_status found ≢ 6
never_six (Legal cost) e = absurd (omega (arith, e))
never_six (Broken rules) e = absurd (omega (arith, e))

-- an audit says whether the plan breaks a rule
decides : (book : BookSeen) (plan : RawPlanSeen) (before : Option RawPlanSeen) (found : Audit) (status : ℕ) → IsAuditOf book plan found → status ≡ audit_status found
    → IsVerdict (record { book = book; plan = plan; before = before }) status
decides book plan before (Legal cost) status own is = inl (is, own.0)
decides book plan before (Broken rules) status own is = inr (is, own.0)

-- the lines of what was found can be drawn
abbrev IsDrawn : Judged → Type 0
IsDrawn judged = IsDrawable judged.book judged.plan (drawn_rules judged.found)

-- one rule and more are not none
not_none : (n : ℕ) → (suc n == 0) ≡ false
not_none n = grind (arith, nat_tests)

-- where rules are broken, the picture is the same whatever the plan costs
any_cost : (view : ViewSeen) (book : BookSeen) (plan : List (List ℕ)) (one other : ℕ) (rules : List BrokenRule) → rules ≢ []
    → text_of (page_lines view book plan one rules) ≡ text_of (page_lines view book plan other rules)
any_cost view book plan one other [] some = absurd (some refl)
any_cost view book plan one other (rule ∷ rules) some =
    let told : (length (rule ∷ rules) == 0) ≡ false = not_none (length rules) in rw told refl

-- what is drawn of a legal plan, and of one that breaks rules, is the picture of the plan that was read
legal_picture : (book : BookSeen) (raw : RawPlanSeen) (plan : List (List ℕ)) (view shown : ViewSeen) (cost : ℕ) → plan ≡ kept book raw → view ≡ shown
    → IsAuditOf book raw (Legal cost) → text_of (page_lines view book plan cost []) ≡ picture shown book raw
legal_picture book raw plan view shown cost same_plan same_view own =
    rw (same_plan, same_view, own.0, sym own.1.costs) refl

broken_picture : (book : BookSeen) (raw : RawPlanSeen) (plan : List (List ℕ)) (view shown : ViewSeen) (rules : List BrokenRule) → plan ≡ kept book raw → view ≡ shown
    → (broken book raw ≢ []) × (rules ≡ broken book raw) → text_of (page_lines view book plan 0 rules) ≡ picture shown book raw
broken_picture book raw plan view shown rules same_plan same_view own =
    rw (same_plan, same_view, own.1) (any_cost shown book (kept book raw) 0 (plan_cost book (kept book raw)) (broken book raw) own.0)

module _ (words : List (List ℕ)) (files : FilesShown) (before after : SinkShown) where
  -- a picture that was printed promises what its status says
  found_promises : (j : Judged) → OfTexts words files (λ texts. AreJudged texts j)
      → Takes before after (text_of (drawn_lines j)) → Promise words files before after (audit_status j.found)
  found_promises j k took = each j.found k took
    where
      each : (found : Audit) → OfTexts words files (λ texts. AreJudged texts (record { book = j.book; plan = j.plan; found = found; view = j.view }))
          → Takes before after (text_of (drawn_lines (record { book = j.book; plan = j.plan; found = found; view = j.view })))
          → Promise words files before after (audit_status found)
      each (Legal cost) k took = OfHeld-map (names_of words) (texts_held files) _ _ (λ texts own. record {
        case = record { book = j.book; plan = own.0; before = own.1 };
        drawn = record {
          is = own.2;
          printed = subst (λ (text : List ℕ). Takes before after text) (legal_picture j.book own.0 j.plan j.view (view_in j.book texts own.1) cost own.4 own.5 own.3) took;
        };
        unbroken = own.3.0;
        legal = own.3.1.legal;
      }) k
      each (Broken rules) k took = OfHeld-map (names_of words) (texts_held files) _ _ (λ texts own. record {
        case = record { book = j.book; plan = own.0; before = own.1 };
        drawn = record {
          is = own.2;
          printed = subst (λ (text : List ℕ). Takes before after text) (broken_picture j.book own.0 j.plan j.view (view_in j.book texts own.1) rules.items own.4 own.5 own.3) took;
        };
        some = own.3.0;
      }) k

  module _ (status : ℕ) (answer : Answer) (truth : IsTrueAnswer words files answer)
      (printed : IsPrinted (answer_text answer) (status_of (λ judged. audit_status judged.found) answer) before after status) where
    pub promise : IsPrintable IsDrawn answer → Promise words files before after status
    promise fit = ending.promise (names_of words) (texts_held files) AreRefused AreJudged usage_line drawn_lines (λ judged. audit_status judged.found)
        before after status answer truth printed (Promise words files before after) IsDrawn fit
        (λ h. h) (λ h. h) (λ h. h) (λ h. h) (λ h. h) (λ judged fits k took. found_promises judged k took)

    pub piece_failed : status ≡ 6 → PieceHasFailed before after
    piece_failed = ending.piece_failed (names_of words) (texts_held files) AreRefused AreJudged usage_line drawn_lines (λ judged. audit_status judged.found)
        before after status answer truth printed (λ judged. never_six judged.found)

    pub read_failed : (Cause : Type 0) → (answer ≡ ReadFailed → Cause) → status ≡ 5 → Cause
    read_failed Cause cause = ending.read_failed (names_of words) (texts_held files) AreRefused AreJudged usage_line drawn_lines (λ judged. audit_status judged.found)
        before after status answer truth printed Cause cause (λ judged. never_five judged.found)

    pub words_refused : names_of words ≡ None → IsUnlessStopped 2 status
    words_refused = ending.words_refused (names_of words) (texts_held files) AreRefused AreJudged usage_line drawn_lines (λ judged. audit_status judged.found)
        before after status answer truth printed

    pub texts_refused : RefusesTexts words files status
    texts_refused = ending.refused (names_of words) (texts_held files) AreRefused AreJudged usage_line drawn_lines (λ judged. audit_status judged.found)
        before after status answer truth printed (λ texts refusal judged is own. apart texts (record { book = judged.book; plan = own.0; before = own.1 }) refusal own.2 is)

    pub judged : IsPrintable IsDrawn answer → JudgesPlan words files status
    judged fit = ending.judged (names_of words) (texts_held files) AreRefused AreJudged usage_line drawn_lines (λ judged. audit_status judged.found)
        before after status answer truth printed (λ texts case. case_of texts ≡ Ok case) IsVerdict IsDrawn fit apart
        (λ texts case judged is own fits s. subst (λ (c : Case). IsVerdict c status) (same_case texts (record { book = judged.book; plan = own.0; before = own.1 }) case own.2 is)
        (decides judged.book own.0 own.1 judged.found status own.3 s))
