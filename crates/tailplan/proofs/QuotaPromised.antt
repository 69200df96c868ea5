-- From the answer of a run under quotas that is true and printed to what the run promises. The fronts that were read say what the whole
-- files say. A book and its quotas are one case; where they are, neither a table nor the quotas are refused. What is found has the
-- statuses 0, 1 and 3.
use Rattle.std.proofs.Common.{◌≡◌, ◌≢◌, ◌∙◌, ◌⊎◌, ℕ, inl, inr, arith, List, Ok, Err, None, Some, IfSome, ap, refl, subst, sym}
use Rattle.std.specs.Prelude.{Result}
use Rattle.tail_book.specs.Seen.{BookSeen}
use Rattle.tail_book.specs.declared.outcome.Outcome.{Outcome}
use Rattle.tail_book.specs.declared.outcome.Outcome.TheVariants.{Optimal, Infeasible, Between, Above}
use Rattle.tail_outside.specs.Outside.{PieceHasFailed, Takes}
use Rattle.tail_outside.specs.Shown.{FilesShown, SinkShown}
use Rattle.tail_text.specs.Reading.{refusal_at}
use Rattle.tail_text.specs.declared.codes.TheConstants.{TOO_BIG}
use Rattle.tail_text.specs.declared.refusal.Refusal.{Refusal}
use Rattle.tail_text.specs.declared.refusal.Table.TheVariants.{Plan}
use Rattle.plan_report.specs.Lines.{text_of}
use Rattle.plan_report.specs.Report.{report_lines}
use Rattle.quota_rows.specs.QuotaTable.{QuotaRefusal, quotas_of, refused_at}
use Rattle.quota_rows.specs.declared.quota.Quota.{Quota}
use Rattle.run_frame.proofs.Ending as ending
use Rattle.run_frame.proofs.Fronts.{book_of-fronts, front-limited}
use Rattle.run_frame.proofs.Held.{OfHeld-map}
use Rattle.run_frame.specs.inside.Answer.{IsAnswerTo, IsPrintable, IsPrinted, status_of}
use Rattle.run_frame.specs.Answer.{IsStopped, IsUnlessStopped}
use Rattle.run_frame.specs.inside.TableFiles.{front}
use Rattle.run_frame.specs.declared.answer.Answer.TheVariants.{ReadFailed}
use Rattle.tailplan.proofs.Promised as outcomes
use Rattle.tailplan.specs.FourTexts.{FourNamesSeen, FourTextsSeen, texts_held}
use Rattle.tailplan.specs.QuotaAnswers.{AreKept, AreUnderQuotas, IsLeastUnder, IsTrueQuotaAnswer, OfFour, QuotaAnswer, quota_answer_text, quota_lines, quota_refusal_line}
use Rattle.tailplan.specs.QuotaCases.{HaveNoBook, HaveNoQuotas, IsQuotaCase, QuotaCase}
use Rattle.tailplan.specs.QuotaPromises.{IsQuotaVerdict, JudgesQuotas, QuotaPromise, RefusesQuotas}
use Rattle.tailplan.specs.QuotaWords.{quota_of}
use Rattle.tailplan.specs.Usage.{quota_usage_line}
use Rattle.tailplan.specs.WhyAnswers.{AreBook}
use Rattle.tailplan.specs.declared.under_quotas.UnderQuotas.{UnderQuotas}
use Rattle.tailplan.specs.declared.under_quotas.UnderQuotas.TheVariants.{Refused, Planned}
use Rattle.tailplan.specs.inside.FourTexts.{text_fronts}
use Rattle.tailplan.specs.inside.Outcomes.{outcome_status}
use Rattle.tailplan.specs.inside.Quotas.{CanBeReported, IsNoBound, quota_status}

-- a refusal of quotas as one of a file that refusals name, and back
abbrev told : Result (List Quota) QuotaRefusal → Result (List Quota) Refusal
told (Ok quotas) = Ok quotas
told (Err refusal) = Err (refusal_at refusal.code Plan refusal.place)

abbrev back : Result (List Quota) Refusal → Result (List Quota) QuotaRefusal
back (Ok quotas) = Ok quotas
back (Err refusal) = Err (refused_at refusal.code refusal.place)

back-told : (read : Result (List Quota) QuotaRefusal) → back (told read) ≡ read
back-told (Ok quotas) = refl
back-told (Err refusal) = refl

quotas_of-front : (book : BookSeen) (bytes : List ℕ) → quotas_of book (front bytes) ≡ quotas_of book bytes
quotas_of-front book bytes =
    sym (back-told (quotas_of book (front bytes)))
    ∙ ap back (front-limited (λ b. told (quotas_of book b)) (refusal_at TOO_BIG Plan 0) (λ b big. rw big refl) bytes)
    ∙ back-told (quotas_of book bytes)

-- what is found in the fronts is found in the whole files
still_found : (texts : FourTextsSeen) (found : UnderQuotas) → AreUnderQuotas (text_fronts texts) found → AreUnderQuotas texts found
still_found texts (Refused code place) h = (h.0, sym (book_of-fronts texts.tables) ∙ h.1, sym (quotas_of-front h.0 texts.fourth) ∙ h.2)
still_found texts (Planned solved) h = (h.0, (sym (book_of-fronts texts.tables) ∙ h.1.0, sym (quotas_of-front solved.book texts.fourth) ∙ h.1.1), h.2)

-- an answer to the files that were read is a true answer to the words
pub true_answer : (words : List (List ℕ)) (files : FilesShown) (names : FourNamesSeen) (read : FourTextsSeen) (answer : QuotaAnswer) → quota_of words ≡ Some names
    → IfSome (texts_held files names) (λ texts. read ≡ text_fronts texts) → IsAnswerTo HaveNoBook AreUnderQuotas read answer → IsTrueQuotaAnswer words files answer
true_answer words files = ending.true_answer (quota_of words) (texts_held files) HaveNoBook AreUnderQuotas text_fronts
    (λ texts refusal h. sym (book_of-fronts texts.tables) ∙ h) still_found

-- a book is no refusal
no_both : (texts : FourTextsSeen) (book : BookSeen) (refusal : Refusal) → AreBook texts.tables book → HaveNoBook texts refusal → ⊥
no_both texts book refusal is refused = let both = sym is ∙ refused in cc

-- the tables are one book
same_book : (texts : FourTextsSeen) (a b : BookSeen) → AreBook texts.tables a → AreBook texts.tables b → a ≡ b
same_book texts a b first second = let both = sym first ∙ second in cc

-- the quotas of a case are not refused
not_refused : (texts : FourTextsSeen) (case : QuotaCase) (refusal : QuotaRefusal) → IsQuotaCase texts case → HaveNoQuotas texts refusal → ⊥
not_refused texts case refusal is refused =
    let same : refused.0 ≡ case.book = same_book texts refused.0 case.book refused.1 is.0 in
    let here : quotas_of case.book texts.fourth ≡ Err refusal = subst (λ (b : BookSeen). quotas_of b texts.fourth ≡ Err refusal) same refused.2 in
    let both = sym here ∙ is.1 in absurd (cc both)

abbrev Same : QuotaCase → QuotaCase → Type 0
Same a b = a ≡ b

alike : {book other : BookSeen} {quotas more : List Quota} → book ≡ other → quotas ≡ more → Same (record { book = book; quotas = quotas }) (record { book = other; quotas = more })
alike same_books same_quotas = rw (same_books, same_quotas) refl

-- the files are one case
same_case : (texts : FourTextsSeen) (a b : QuotaCase) → IsQuotaCase texts a → IsQuotaCase texts b → a ≡ b
same_case texts a b first second =
    let same : a.book ≡ b.book = same_book texts a.book b.book first.0 second.0 in
    let here : quotas_of b.book texts.fourth ≡ Ok a.quotas = subst (λ (x : BookSeen). quotas_of x texts.fourth ≡ Ok a.quotas) same first.1 in
    let both = sym here ∙ second.1 in
    let quotas : a.quotas ≡ b.quotas = cc both in
    alike same quotas

-- where something is found the tables are a book
book_found : (texts : FourTextsSeen) (found : UnderQuotas) → AreUnderQuotas texts found → (book : BookSeen) × AreBook texts.tables book
book_found texts (Refused code place) h = (h.0, h.1)
book_found texts (Planned solved) h = (solved.book, h.1.0)

found_apart : (texts : FourTextsSeen) (refusal : Refusal) (found : UnderQuotas) → HaveNoBook texts refusal → AreUnderQuotas texts found → ⊥
found_apart texts refusal found refused own = let book = book_found texts found own in no_both texts book.0 refusal book.1 refused

-- the statuses of what is found are 0, 1 and 3
never_five : (found : UnderQuotas) → quota_status found ≢ 5
never_five (Refused code place) e = absurd (omega (arith, e))
never_five (Planned solved) e = outcomes.never_five solved.outcome e

never_six : (found : UnderQuotas) → quota_status found ≢ 6
never_six (Refused code place) e = absurd (omega (arith, e))
never_six (Planned solved) e = outcomes.never_six solved.outcome e

-- a true outcome says whether some legal plan keeps the quotas
decides : (book : BookSeen) (quotas : List Quota) (outcome : Outcome) (status : ℕ) → IsLeastUnder book quotas outcome → status ≡ outcome_status outcome
    → IsQuotaVerdict (record { book = book; quotas = quotas }) status
decides book quotas (Optimal plan cost) status truth is = inl (is, (plan, truth.kept))
decides book quotas Infeasible status truth is = inr (is, truth)
decides book quotas (Between plan low high nodes) status truth is = absurd truth
decides book quotas (Above low nodes) status truth is = absurd truth

-- what is found in a case judges it, and in refused quotas it is their refusal
judges : (texts : FourTextsSeen) (case : QuotaCase) (found : UnderQuotas) (status : ℕ) → IsQuotaCase texts case → AreUnderQuotas texts found → status ≡ quota_status found
    → IsQuotaVerdict case status
judges texts case (Refused code place) status is own s = absurd (not_refused texts case (refused_at code place) is own)
judges texts case (Planned solved) status is own s =
    subst (λ (c : QuotaCase). IsQuotaVerdict c status) (same_case texts (record { book = solved.book; quotas = own.0 }) case own.1 is)
    (decides solved.book own.0 solved.outcome status own.2 s)

refuses : (texts : FourTextsSeen) (refusal : QuotaRefusal) (found : UnderQuotas) (status : ℕ) → HaveNoQuotas texts refusal → AreUnderQuotas texts found → status ≡ quota_status found
    → status ≡ 3
refuses texts refusal (Refused code place) status is own s = s
refuses texts refusal (Planned solved) status is own s = absurd (not_refused texts (record { book = solved.book; quotas = own.0 }) refusal own.1 is)

module _ (words : List (List ℕ)) (files : FilesShown) (before after : SinkShown) where
  -- an outcome that was printed promises what its status says
  planned_promises : (book : BookSeen) (outcome : Outcome) → IsNoBound outcome → OfFour words files (λ texts. AreKept texts (record { book = book; outcome = outcome }))
      → Takes before after (text_of (report_lines book outcome)) → QuotaPromise words files before after (outcome_status outcome)
  planned_promises book (Optimal plan cost) fit k took = OfHeld-map (quota_of words) (texts_held files) _ _ (λ texts own. record {
    case = record { book = book; quotas = own.0 };
    plan = plan;
    cost = cost;
    is = own.1;
    least = own.2;
    printed = took;
  }) k
  planned_promises book Infeasible fit k took = OfHeld-map (quota_of words) (texts_held files) _ _ (λ texts own. record {
    case = record { book = book; quotas = own.0 };
    is = own.1;
    none = own.2;
    printed = took;
  }) k
  planned_promises book (Between plan low high nodes) fit k took = absurd fit
  planned_promises book (Above low nodes) fit k took = absurd fit

  found_promises : (found : UnderQuotas) → CanBeReported found → OfFour words files (λ texts. AreUnderQuotas texts found) → Takes before after (text_of (quota_lines found))
      → QuotaPromise words files before after (quota_status found)
  found_promises (Refused code place) fit k took = OfHeld-map (quota_of words) (texts_held files) _ _ (λ texts own. inr (record {
    refusal = refused_at code place;
    is = own;
    printed = ending.one_line before after (quota_refusal_line (refused_at code place)) took;
  })) k
  found_promises (Planned solved) fit k took = planned_promises solved.book solved.outcome fit.1 k took

  module _ (status : ℕ) (answer : QuotaAnswer) (truth : IsTrueQuotaAnswer words files answer)
      (printed : IsPrinted (quota_answer_text answer) (status_of quota_status answer) before after status) where
    pub promise : IsPrintable CanBeReported answer → QuotaPromise words files before after status
    promise fit = ending.promise (quota_of words) (texts_held files) HaveNoBook AreUnderQuotas quota_usage_line quota_lines quota_status
        before after status answer truth printed (QuotaPromise words files before after) CanBeReported fit
        (λ h. h) (λ h. OfHeld-map (quota_of words) (texts_held files) _ _ (λ texts own. inl own) h) (λ h. h) (λ h. h) (λ h. h) (λ found fits k took. found_promises found fits k took)

    pub piece_failed : status ≡ 6 → PieceHasFailed before after
    piece_failed = ending.piece_failed (quota_of words) (texts_held files) HaveNoBook AreUnderQuotas quota_usage_line quota_lines quota_status
        before after status answer truth printed never_six

    pub read_failed : (Cause : Type 0) → (answer ≡ ReadFailed → Cause) → status ≡ 5 → Cause
    read_failed Cause cause = ending.read_failed (quota_of words) (texts_held files) HaveNoBook AreUnderQuotas quota_usage_line quota_lines quota_status
        before after status answer truth printed Cause cause never_five

    pub words_refused : quota_of words ≡ None → IsUnlessStopped 2 status
    words_refused = ending.words_refused (quota_of words) (texts_held files) HaveNoBook AreUnderQuotas quota_usage_line quota_lines quota_status
        before after status answer truth printed

    -- a status 3, unless the run stopped
    ends : (status ≡ 3) ⊎ IsStopped status → (status ≡ 5) ⊎ IsUnlessStopped 3 status
    ends (inl s) = inr (inl s)
    ends (inr (inl s)) = inl s
    ends (inr (inr s)) = inr (inr s)

    pub quota_refused : IsPrintable CanBeReported answer → RefusesQuotas words files status
    quota_refused fit texts there (inl no_book) = ending.refused (quota_of words) (texts_held files) HaveNoBook AreUnderQuotas quota_usage_line quota_lines quota_status
        before after status answer truth printed found_apart texts no_book.0 there no_book.1
    quota_refused fit texts there (inr no_quotas) = ends (ending.judged (quota_of words) (texts_held files) HaveNoBook AreUnderQuotas quota_usage_line quota_lines quota_status
        before after status answer truth printed HaveNoQuotas (λ refusal s. s ≡ 3) CanBeReported fit
        (λ x refusal other refused is. no_both x refused.0 other refused.1 is) (λ x refusal found is own fits s. refuses x refusal found status is own s)
        texts no_quotas.0 there no_quotas.1)

    pub kept : IsPrintable CanBeReported answer → JudgesQuotas words files status
    kept fit = ending.judged (quota_of words) (texts_held files) HaveNoBook AreUnderQuotas quota_usage_line quota_lines quota_status
        before after status answer truth printed IsQuotaCase IsQuotaVerdict CanBeReported fit
        (λ texts case refusal is refused. no_both texts case.book refusal is.0 refused)
        (λ texts case found is own fits s. judges texts case found status is own s)
