-- From an answer that is true and printed to what a run promises. What is judged is one case or one refusal, never
-- both; what is found has the statuses 0, 1 and 8 and all else others. So a status says which it was: an audit whether
-- the plan breaks a rule, a verdict whether the certificate is accepted, by the two laws that a yes comes exactly then.
use Rattle.std.proofs.Common.{◌≡◌, ◌≢◌, ◌≤◌, ◌∙◌, ℕ, inl, inr, arith, List, Option, Ok, Err, None, Some, IfSome, ap, drop, subst, sym, take}
use Rattle.std.proofs.lemmas.List.{take-append-drop}
use Rattle.tail_book.specs.Seen.{BookSeen, RawPlanSeen}
use Rattle.tail_outside.specs.Outside.{PieceHasFailed, Takes}
use Rattle.tail_outside.specs.Shown.{FilesShown, SinkShown}
use Rattle.tail_text.specs.declared.refusal.Refusal.{Refusal}
use Rattle.tail_book.specs.declared.claim.Claim.{Claim}
use Rattle.cert_checker.specs.Judged.{FailuresAreNo, FailuresStay, VerdictsAreOfEnds, judged as judged_text, verdict_of}
use Rattle.cert_checker.specs.Verdict.{AcceptedIsYes, YesIsAccepted, verdict}
use Rattle.cert_checker.specs.declared.verdict.Verdict.{Verdict}
use Rattle.cert_checker.specs.declared.verdict.Verdict.TheVariants.{Yes, No}
use Rattle.plan_audit.specs.Broken.{IsAuditOf}
use Rattle.plan_audit.specs.declared.broken.Audit.{Audit}
use Rattle.plan_audit.specs.declared.broken.Audit.TheVariants.{Legal, Broken}
use Rattle.plan_audit.specs.declared.broken.Broken.{Broken as BrokenRule}
use Rattle.plan_report.specs.inside.AuditText.{audit_text}
use Rattle.plan_report.specs.AuditText.{broken_lines, legal_line}
use Rattle.plan_report.specs.Lines.{text_of}
use Rattle.run_frame.proofs.Ending as ending
use Rattle.run_frame.proofs.Held.{OfHeld-map}
use Rattle.run_frame.specs.inside.Answer.{IsPrintable, IsPrinted, audit_status, status_of}
use Rattle.run_frame.specs.Answer.{IsUnlessStopped}
use Rattle.run_frame.specs.declared.answer.Answer.TheVariants.{ReadFailed}
use Rattle.tailcheck.specs.Answers.{Answer, AreJudged, AreRefused, IsDecided, IsJudgedSo, IsShort, IsTrueAnswer, OfTexts, answer_text, found_lines}
use Rattle.tailcheck.specs.Cases.{Case, PlanCase, CertificateCase, case_of}
use Rattle.tailcheck.specs.Promises.{IsVerdict, JudgesTexts, Promise, RefusesTexts}
use Rattle.tailcheck.specs.Texts.{texts_held, TextsSeen}
use Rattle.tailcheck.specs.Usage.{usage_line}
use Rattle.tailcheck.specs.VerdictText.{no_line, too_long_line, yes_line}
use Rattle.tailcheck.specs.Words.{check_of}
use Rattle.tailcheck.specs.declared.certified.TheConstants.{CERTIFICATE_LIMIT}
use Rattle.tailcheck.specs.declared.answer.Judgement.{Judgement}
use Rattle.tailcheck.specs.declared.answer.Judgement.TheVariants.{Plan, Certificate, TooLong}
use Rattle.tailcheck.specs.inside.Findings.{IsFit, found_status}

-- a case is no refusal
apart : (texts : TextsSeen) (case : Case) (refusal : Refusal) → case_of texts ≡ Ok case → AreRefused texts refusal → ⊥
apart texts case refusal is refused = let both = sym is ∙ refused in cc

-- what is judged is one case
same_case : (texts : TextsSeen) (a b : Case) → case_of texts ≡ Ok a → case_of texts ≡ Ok b → a ≡ b
same_case texts a b first second = let both = sym first ∙ second in cc

-- what is found is found in a case
case_found : (texts : TextsSeen) (found : Judgement) → AreJudged texts found → (case : Case) × (case_of texts ≡ Ok case)
case_found texts (Plan judged) own = (PlanCase judged.book own.0, own.1)
case_found texts (Certificate found) own = (CertificateCase own.0 own.1, own.2)
case_found texts TooLong own = (CertificateCase own.0 own.1, own.2)

found_apart : (texts : TextsSeen) (refusal : Refusal) (found : Judgement) → AreRefused texts refusal → AreJudged texts found → ⊥
found_apart texts refusal found refused own = let case = case_found texts found own in apart texts case.0 refusal case.1 refused

-- the statuses of what is found are 0, 1 and 8
never : (other : ℕ) → 2 ≤ other → other ≤ 7 → (found : Judgement) → found_status found ≢ other
never other low high (Plan judged) e = of_audit judged.found e
  where
    of_audit : (found : Audit) → audit_status found ≢ other
    of_audit (Legal cost) e = absurd (omega (arith, low, e))
    of_audit (Broken rules) e = absurd (omega (arith, low, e))
never other low high (Certificate (Yes claim)) e = absurd (omega (arith, low, e))
never other low high (Certificate (No line reason)) e = absurd (omega (arith, low, e))
never other low high TooLong e = absurd (omega (arith, high, e))

if_some : {T : Type 0} (P Q : T → Type 0) (given : Option T) → ((x : T) → P x → Q x) → IfSome given P → IfSome given Q
if_some P Q None step is = tt
if_some P Q (Some x) step is = step x is

-- a yes and a no are not the same verdict
no_yes : (line reason : ℕ) (claim : Claim) (found : Verdict) → found ≡ No line reason → found ≡ Yes claim → ⊥
no_yes line reason claim found is yes_too = let both = sym is ∙ yes_too in cc

-- an audit says whether the plan breaks a rule
audit_decides : (book : BookSeen) (plan : RawPlanSeen) (found : Audit) (status : ℕ) → IsAuditOf book plan found → status ≡ audit_status found → IsVerdict (PlanCase book plan) status
audit_decides book plan (Legal cost) status own is = inl (is, own.0)
audit_decides book plan (Broken rules) status own is = inr (is, own.0)

module _ (accepted : YesIsAccepted) (answered : AcceptedIsYes) (stay : FailuresStay) (ends : VerdictsAreOfEnds) (no : FailuresAreNo) where
  -- a certificate that is accepted meets no failure, so it is read whole
  short_yes : (book : BookSeen) (bytes : List ℕ) (claim : Claim) → IsDecided book bytes → verdict book bytes ≡ Yes claim → IsShort bytes
  short_yes book bytes claim (inl short) e = short
  short_yes book bytes claim (inr early) e =
      let (failure, fails) = early in
      let whole : judged_text book bytes ≡ Err failure =
      ap (judged_text book) (sym (take-append-drop CERTIFICATE_LIMIT bytes)) ∙ stay book (take CERTIFICATE_LIMIT bytes) (drop CERTIFICATE_LIMIT bytes) failure fails in
      let (line, reason, is) = no book (take CERTIFICATE_LIMIT bytes) failure fails in
      absurd (no_yes line reason claim (verdict book bytes) (ends book bytes ∙ ap verdict_of whole ∙ is) e)

  -- what was found says what the status says
  decides : (texts : TextsSeen) (found : Judgement) (status : ℕ) → AreJudged texts found → status ≡ found_status found → (case : Case) × (case_of texts ≡ Ok case) × IsVerdict case status
  decides texts (Plan judged) status own is = (PlanCase judged.book own.0, own.1, audit_decides judged.book own.0 judged.found status own.2 is)
  decides texts (Certificate (Yes claim)) status own is = (
    CertificateCase own.0 own.1,
    own.2,
    inl (
      is,
      if_some (IsJudgedSo own.0 (Yes claim)) _ own.1 (λ bytes h. (short_yes own.0 bytes claim h.0 h.1, (claim, accepted own.0 bytes claim h.1))) own.4,
    ),
  )
  decides texts (Certificate (No line reason)) status own is = (
    CertificateCase own.0 own.1,
    own.2,
    inr (inl (
      is,
      if_some (IsJudgedSo own.0 (No line reason)) _ own.1 (λ bytes h. (h.0, λ other. no_yes line reason other.0 (verdict own.0 bytes) h.1 (answered own.0 bytes other.0 other.1))) own.4,
    )),
  )
  decides texts TooLong status own is = (CertificateCase own.0 own.1, own.2, inr (inr (is, own.3)))

  module _ (words : List (List ℕ)) (files : FilesShown) (before after : SinkShown) where
    -- an audit that was printed promises what its status says
    audit_promises : (book : BookSeen) (found : Audit)
        → OfTexts words files (λ texts. (plan : RawPlanSeen) × (case_of texts ≡ Ok (PlanCase book plan)) × IsAuditOf book plan found)
        → Takes before after (audit_text book found) → Promise words files before after (audit_status found)
    audit_promises book (Legal cost) k took = OfHeld-map (check_of words) (texts_held files) _ _ (λ texts own. inl (record {
      book = book;
      plan = own.0;
      cost = cost;
      is = own.1;
      unbroken = own.2.0;
      legal = own.2.1;
      printed = ending.one_line before after (legal_line cost) took;
    })) k
    audit_promises book (Broken rules) k took = OfHeld-map (check_of words) (texts_held files) _ _ (λ texts own. inl (record {
      book = book;
      plan = own.0;
      is = own.1;
      some = own.2.0;
      printed = subst (λ (list : List BrokenRule). Takes before after (text_of (broken_lines book list))) own.2.1 took;
    })) k

    -- and so does whatever was found
    found_promises : (found : Judgement) → OfTexts words files (λ texts. AreJudged texts found) → Takes before after (text_of (found_lines found)) → Promise words files before after (found_status found)
    found_promises (Plan judged) k took = audit_promises judged.book judged.found k took
    found_promises (Certificate (Yes claim)) k took = OfHeld-map (check_of words) (texts_held files) _ _ (λ texts own. inr (record {
      book = own.0;
      text = own.1;
      claim = claim;
      is = own.2;
      accepted = if_some (IsJudgedSo own.0 (Yes claim)) _ own.1 (λ bytes h. accepted own.0 bytes claim h.1) own.4;
      truth = own.3;
      printed = ending.one_line before after (yes_line claim) took;
    })) k
    found_promises (Certificate (No line reason)) k took = OfHeld-map (check_of words) (texts_held files) _ _ (λ texts own. inr (record {
      book = own.0;
      text = own.1;
      line = line;
      reason = reason;
      is = own.2;
      failed = if_some (IsJudgedSo own.0 (No line reason)) _ own.1 (λ bytes h. h.1) own.4;
      printed = ending.one_line before after (no_line line reason) took;
    })) k
    found_promises TooLong k took = OfHeld-map (check_of words) (texts_held files) _ _ (λ texts own. record {
      book = own.0;
      text = own.1;
      is = own.2;
      long = own.3;
      printed = ending.one_line before after too_long_line took;
    }) k

    module _ (status : ℕ) (answer : Answer) (truth : IsTrueAnswer words files answer) (printed : IsPrinted (answer_text answer) (status_of found_status answer) before after status) where
      pub promise : IsPrintable IsFit answer → Promise words files before after status
      promise fit = ending.promise (check_of words) (texts_held files) AreRefused AreJudged usage_line found_lines found_status before after status answer truth printed
          (Promise words files before after) IsFit fit (λ h. h) (λ h. h) (λ h. h) (λ h. h) (λ h. h) (λ found fits k took. found_promises found k took)

      pub piece_failed : status ≡ 6 → PieceHasFailed before after
      piece_failed = ending.piece_failed (check_of words) (texts_held files) AreRefused AreJudged usage_line found_lines found_status before after status answer truth printed
          (never 6 (omega arith) (omega arith))

      pub read_failed : (Cause : Type 0) → (answer ≡ ReadFailed → Cause) → status ≡ 5 → Cause
      read_failed Cause cause = ending.read_failed (check_of words) (texts_held files) AreRefused AreJudged usage_line found_lines found_status before after status answer truth printed
          Cause cause (never 5 (omega arith) (omega arith))

      pub words_refused : check_of words ≡ None → IsUnlessStopped 2 status
      words_refused = ending.words_refused (check_of words) (texts_held files) AreRefused AreJudged usage_line found_lines found_status before after status answer truth printed

      pub texts_refused : RefusesTexts words files status
      texts_refused = ending.refused (check_of words) (texts_held files) AreRefused AreJudged usage_line found_lines found_status before after status answer truth printed found_apart

      pub judged : IsPrintable IsFit answer → JudgesTexts words files status
      judged fit = ending.judged (check_of words) (texts_held files) AreRefused AreJudged usage_line found_lines found_status before after status answer truth printed
          (λ texts case. case_of texts ≡ Ok case) IsVerdict IsFit fit apart
          (λ texts case found is own fits s. let of = decides texts found status own s in subst (λ (c : Case). IsVerdict c status) (same_case texts of.0 case of.1 is) of.2)
