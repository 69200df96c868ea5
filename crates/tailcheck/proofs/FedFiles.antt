-- A checker that is fed with a file. What was fed is a front of the file, where its bytes are told. At the end of the file it is the
-- whole; where a failure was met, that failure is the verdict on the whole, and it is met within the limit; and where more than
-- the limit is there, the front is as long as the limit. Of a file whose bytes are not told, the checker stands for some text all
-- the same, so its yes is true.
use Rattle.std.specs.Prelude.{◌≢◌}
use Rattle.std.proofs.Common.{◌≡◌, ◌∙◌, ℕ, ◌+◌, ◌-◌, ◌<◌, ◌≤◌, inl, inr, List, [], ◌++◌, Option, Some, None, IfSome, Result, Ok, Err, length, length-append, length-take-le, take, drop, ap, refl, subst, sym, arith}
use Rattle.std.proofs.lemmas.List.{append-nil, length-drop, length-take, take_at}
use Rattle.std.proofs.Math.Seq.{take-append-add}
use Rattle.tail_book.specs.Seen.{BookSeen}
use Rattle.tail_outside.specs.inside.Outside.{IsRead}
use Rattle.tail_outside.proofs.ReadLemmas.{Begins, read-piece}
use Rattle.cert_checker.specs.Judged.{Begun, CheckerSeen, FailuresStay, Stands, VerdictsAreOfEnds, judged, taken_of, verdict_of}
use Rattle.cert_checker.specs.Verdict.{first_state, verdict}
use Rattle.cert_checker.proofs.ByPieces.{nothing_fed as before}
use Rattle.cert_checker.specs.declared.checker.Taken.TheVariants.{More, Done}
use Rattle.cert_checker.specs.declared.verdict.Verdict.{Verdict}
use Rattle.tailcheck.specs.Answers.{IsJudgedSo, IsTooLong}
use Rattle.tailcheck.specs.declared.certified.TheConstants.{CERTIFICATE_LIMIT}
use Rattle.tailcheck.specs.declared.feeding.Fed.TheVariants.{Decided, TooLong}
use Rattle.tailcheck.specs.inside.Fed.{IsFedSo}

-- so many bytes of the file were fed, and no failure was met
pub record IsFed (held : Option (List ℕ)) (checker : CheckerSeen) (taken : ℕ) : Type 0 where
  pub text : List ℕ
  pub stands : Stands checker text
  pub count : length text ≡ taken
  pub unmet : (failure : Verdict) → checker.judged ≢ Err failure
  pub front : IfSome held (Begins text)

-- nothing is behind the bytes so far, so they are the whole file
whole : (text bytes : List ℕ) → Begins text bytes → drop (length text) bytes ≡ [] → text ≡ bytes
whole text bytes begins over = sym (append-nil text) ∙ subst (λ (rest : List ℕ). text ++ rest ≡ bytes) over begins

-- a read that gives nothing was at the end of the file
at_end : (bytes : List ℕ) (at n most : ℕ) (buffer : List ℕ) → IsRead bytes at (take most buffer) n → n ≡ 0 → 0 < most → 0 < length buffer → drop at bytes ≡ []
at_end bytes at n most buffer read none some room = elim (read.none.0 none) [
  | inl no_room ↦ (let long = length-take most buffer in absurd (omega (arith, no_room, long, some, room)))
  | inr over ↦ over
]

-- what was fed is a front of the bytes within the limit
front_of : (text bytes : List ℕ) (limit : ℕ) → Begins text bytes → length text ≤ limit → take limit bytes ≡ text ++ take (limit - length text) (drop (length text) bytes)
front_of text bytes limit begins few =
    let rest = drop (length text) bytes in
    let all : limit ≡ length text + (limit - length text) = omega (arith, few) in
    ap (take limit) (sym begins) ∙ ap (λ (n : ℕ). take n (text ++ rest)) all ∙ take-append-add text rest (limit - length text)

pub nothing_fed : (held : Option (List ℕ)) (checker : CheckerSeen) → Stands checker [] → IsFed held checker 0
nothing_fed held checker stands = record {
  text = [];
  stands = stands;
  count = refl;
  unmet = λ failure fails. (let met = before checker.book first_state [] refl refl ∙ sym stands.1 ∙ fails in absurd (cc met));
  front = begins held;
}
  where
    begins : (held : Option (List ℕ)) → IfSome held (Begins [])
    begins None = tt
    begins (Some bytes) = refl

module _ (stay : FailuresStay) (ends : VerdictsAreOfEnds) where
  -- a failure is the verdict on every text that begins so
  fails_so : (book : BookSeen) (front more : List ℕ) (failure : Verdict) → judged book front ≡ Err failure → verdict book (front ++ more) ≡ failure
  fails_so book front more failure fails = ends book (front ++ more) ∙ ap verdict_of (stay book front more failure fails)

  pub failed_there : (held : Option (List ℕ)) (checker : CheckerSeen) (text : List ℕ) (failure : Verdict) → Stands checker text → checker.judged ≡ Err failure
      → IfSome held (Begins text) → length text ≤ CERTIFICATE_LIMIT → IsFedSo checker held Decided
  failed_there held checker text failure stands met front few = (text, stands, of held front)
    where
      fails : judged checker.book text ≡ Err failure
      fails = sym stands.1 ∙ met

      here : verdict checker.book text ≡ failure
      here = ends checker.book text ∙ ap verdict_of fails

      of : (held : Option (List ℕ)) → IfSome held (Begins text) → IfSome held (IsJudgedSo checker.book (verdict checker.book text))
      of None begins = tt
      of (Some bytes) begins =
          let rest = drop (length text) bytes in (
            inr (failure, ap (judged checker.book) (front_of text bytes CERTIFICATE_LIMIT begins few) ∙ stay checker.book text (take (CERTIFICATE_LIMIT - length text) rest) failure fails),
            ap (verdict checker.book) (sym begins) ∙ fails_so checker.book text rest failure fails ∙ sym here,
          )

-- at the end of the file
pub ended_there : (held now : Option (List ℕ)) (checker : CheckerSeen) (taken n most : ℕ) (buffer : List ℕ) → now ≡ held → IsFed held checker taken → taken ≤ CERTIFICATE_LIMIT
    → IfSome now (λ bytes. IsRead bytes taken (take most buffer) n) → n ≡ 0 → 0 < most → 0 < length buffer → IsFedSo checker held Decided
ended_there held now checker taken n most buffer same fed few read none some room =
    (fed.text, fed.stands, of held fed.front (subst (λ (h : Option (List ℕ)). IfSome h (λ bytes. IsRead bytes taken (take most buffer) n)) same read))
  where
    of : (held : Option (List ℕ)) → IfSome held (Begins fed.text) → IfSome held (λ bytes. IsRead bytes taken (take most buffer) n)
        → IfSome held (IsJudgedSo checker.book (verdict checker.book fed.text))
    of None begins read = tt
    of (Some bytes) begins read =
        let over : drop (length fed.text) bytes ≡ [] = ap (λ (k : ℕ). drop k bytes) fed.count ∙ at_end bytes taken n most buffer read none some room in
        let all = whole fed.text bytes begins over in
        let count = fed.count in
        let short : length fed.text ≤ CERTIFICATE_LIMIT = omega (arith, count, few) in
        (inl (subst (λ (b : List ℕ). length b ≤ CERTIFICATE_LIMIT) all short), ap (verdict checker.book) (sym all))

-- behind the limit, where there is more
pub too_long_there : (held now : Option (List ℕ)) (checker : CheckerSeen) (taken n : ℕ) (buffer : List ℕ) → now ≡ held → IsFed held checker taken → taken ≡ CERTIFICATE_LIMIT
    → IfSome now (λ bytes. IsRead bytes taken (take 1 buffer) n) → n ≢ 0 → IsFedSo checker held TooLong
too_long_there held now checker taken n buffer same fed full read some =
    of held fed.front (subst (λ (h : Option (List ℕ)). IfSome h (λ bytes. IsRead bytes taken (take 1 buffer) n)) same read)
  where
    of : (held : Option (List ℕ)) → IfSome held (Begins fed.text) → IfSome held (λ bytes. IsRead bytes taken (take 1 buffer) n) → IfSome held (IsTooLong checker.book)
    of None begins read = tt
    of (Some bytes) begins read =
        let within = read.within in
        let left = length-drop taken bytes in
        let more : CERTIFICATE_LIMIT < length bytes = omega (arith, within, left, full, some) in
        let front : take CERTIFICATE_LIMIT bytes ≡ fed.text = ap (take CERTIFICATE_LIMIT) (sym begins) ∙ take_at fed.text (drop (length fed.text) bytes) CERTIFICATE_LIMIT (fed.count ∙ full) in
        (more, λ failure fails. fed.unmet failure (fed.stands.1 ∙ ap (judged checker.book) (sym front) ∙ fails))

-- what was fed with the piece is a front as well
pub front_more : (held now : Option (List ℕ)) (taken n most : ℕ) (buffer : List ℕ) → now ≡ held → (text : List ℕ) → length text ≡ taken → IfSome held (Begins text)
    → IfSome now (λ bytes. IsRead bytes taken (take most buffer) n) → n ≤ most → IfSome held (Begins (text ++ take n buffer))
front_more held now taken n most buffer same text count front read few =
    read-piece held now text buffer n most same front (subst (λ (k : ℕ). IfSome now (λ bytes. IsRead bytes k (take most buffer) n)) (sym count) read) few

-- a piece more, which met no failure
no_failure : (met : Result Begun Verdict) (failure : Verdict) → More ≡ taken_of met → met ≢ Err failure
no_failure met failure more fails = (let done = more ∙ ap taken_of fails in absurd (cc done))

pub fed_more : (held now : Option (List ℕ)) (old new : CheckerSeen) (taken n most : ℕ) (buffer : List ℕ) → now ≡ held → (fed : IsFed held old taken)
    → IfSome now (λ bytes. IsRead bytes taken (take most buffer) n) → n ≤ most → n ≤ length buffer
    → ((text : List ℕ) → Stands old text → Stands new (text ++ take n buffer)) → More ≡ taken_of new.judged → IsFed held new (taken + n)
fed_more held now old new taken n most buffer same fed read few fits goes more = record {
  text = fed.text ++ take n buffer;
  stands = goes fed.text fed.stands;
  count = (let count = fed.count in let many = length-take-le n buffer fits in let sum = length-append fed.text (take n buffer) in omega (arith, count, many, sum));
  unmet = λ failure. no_failure new.judged failure more;
  front = front_more held now taken n most buffer same fed.text fed.count fed.front read few;
}

module _ (stay : FailuresStay) (ends : VerdictsAreOfEnds) where
  -- a piece more, at which a failure was met
  pub failed_more : (held now : Option (List ℕ)) (old new : CheckerSeen) (taken n most : ℕ) (buffer : List ℕ) (failure : Verdict) → now ≡ held → IsFed held old taken
      → IfSome now (λ bytes. IsRead bytes taken (take most buffer) n) → n ≤ most → n ≤ length buffer → taken + n ≤ CERTIFICATE_LIMIT
      → ((text : List ℕ) → Stands old text → Stands new (text ++ take n buffer)) → Done failure ≡ taken_of new.judged → IsFedSo new held Decided
  failed_more held now old new taken n most buffer failure same fed read few fits limit goes done =
      let count = fed.count in
      let many = length-take-le n buffer fits in
      let sum = length-append fed.text (take n buffer) in
      failed_there stay ends held new (fed.text ++ take n buffer) failure (goes fed.text fed.stands) (met new.judged done)
      (front_more held now taken n most buffer same fed.text fed.count fed.front read few) (omega (arith, count, many, sum, limit))
    where
      met : (met : Result Begun Verdict) → Done failure ≡ taken_of met → met ≡ Err failure
      met (Ok begun) e = absurd (cc e)
      met (Err other) e = cc e
