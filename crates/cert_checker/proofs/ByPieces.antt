-- A text that is judged in pieces. What stands behind the last newline goes on with the next piece: its first part ends the line that
-- was begun. So what a piece makes of what was met is what the whole text leaves, however it was cut. A failure stays: a line that failed is the
-- same with more behind it, and a text that is too long for a line is so with more of it, ended or not.
use Rattle.std.specs.Prelude.{if◌then◌else◌, ◌==◌, nat_lt}
use Rattle.std.specs.List.{onto_first}
use Rattle.std.proofs.Common.{◌≡◌, ◌∙◌, ◌+◌, ◌<◌, ◌≤◌, ℕ, Bool, true, false, List, [], ◌∷◌, ◌++◌, All, length, length-append, append_assoc}
use Rattle.std.proofs.Common.{Option, Some, None, Result, Ok, Err, refl, sym, ap, subst, arith}
use Rattle.std.proofs.lemmas.Bool.Decides.{nat_tests}
use Rattle.std.proofs.lemmas.Bool.{eqb-true, ne_eqb}
use Rattle.std.proofs.lemmas.List.{append-nil}
use Rattle.std.proofs.lemmas.List.Elements.{All-head, All-tail, All-cons, All-append}
use Rattle.std.proofs.lemmas.List.Splits.{slice_split-cons_no, slice_split_at, slice_split_none, length-slice_split}
use Rattle.tail_book.specs.Seen.{BookSeen}
use Rattle.tail_text.specs.Checks.{look}
use Rattle.tail_text.specs.Parts.{parts_of}
use Rattle.cert_lines.specs.declared.cert_line.CertLine.{CertLine}
use Rattle.cert_lines.specs.declared.cert_line.TheConstants.{LENGTH_LIMIT}
use Rattle.cert_lines.specs.OneSpelling.{ReadLinesAreSpelled, SpelledLinesAreShort}
use Rattle.cert_lines.specs.Reading.{line_of}
use Rattle.cert_checker.specs.Judged.{Begun, FailuresAreNo, FailuresStay, VerdictsAreOfEnds, begun_unless, begun_with, judged, judged_from, verdict_of}
use Rattle.cert_checker.specs.Reasons.{number_of_reason}
use Rattle.cert_checker.specs.State.{State}
use Rattle.cert_checker.specs.Step.{take_line}
use Rattle.cert_checker.specs.Verdict.{and_on, at_line, end_with, failed, first_state, is_label, is_of_version, judge_line, judge_of_version, leaf_fails, ready_for, take_read, take_text, verdict, verdict_from}
use Rattle.cert_checker.specs.declared.verdict.Reason.{Reason}
use Rattle.cert_checker.specs.declared.verdict.Reason.TheVariants.{BadLine}
use Rattle.cert_checker.specs.declared.verdict.Verdict.{Verdict}
use Rattle.cert_checker.specs.declared.verdict.Verdict.TheVariants.{No}
use Rattle.cert_checker.specs.inside.Pieces.{fed, onto_rest}
use Rattle.cert_checker.proofs.LineByLine.{last_line, line_on, no_line}

-- the bytes have no newline
abbrev IsOther : ℕ → Type 0
IsOther b = (b == 10) ≡ false

abbrev HasNone : List ℕ → Type 0
HasNone bytes = All IsOther bytes

none_yet : HasNone []
none_yet k d lt = absurd (omega (arith, lt))

one_more : (bytes : List ℕ) (x : ℕ) → HasNone bytes → (x == 10) ≡ false → HasNone (bytes ++ x ∷ [])
one_more bytes x none no_newline = All-append IsOther bytes (x ∷ []) none (All-cons IsOther x [] no_newline none_yet)

parts_some : (text : List ℕ) → 0 < length (parts_of 10 text)
parts_some text = omega (arith, length-slice_split (λ b. b == 10) text)

-- the parts of a text behind bytes that have no newline: its first part goes on with them
behind : (rest text : List ℕ) → HasNone rest → parts_of 10 (rest ++ text) ≡ onto_rest rest (parts_of 10 text)
behind [] text none = some (parts_of 10 text) (parts_some text)
  where
    some : (parts : List (List ℕ)) → 0 < length parts → parts ≡ onto_rest [] parts
    some [] lt = absurd (omega (arith, lt))
    some (part ∷ parts) lt = refl
behind (x ∷ rest) text none =
    slice_split-cons_no _ x (rest ++ text) (All-head IsOther x rest none) ∙ ap (onto_first x) (behind rest text (All-tail IsOther x rest none)) ∙ first (parts_of 10 text)
  where
    first : (parts : List (List ℕ)) → onto_first x (onto_rest rest parts) ≡ onto_rest (x ∷ rest) parts
    first [] = refl
    first (part ∷ parts) = refl

alone : (rest : List ℕ) → HasNone rest → parts_of 10 rest ≡ rest ∷ []
alone rest none = slice_split_none _ rest none

ended : (rest : List ℕ) (x : ℕ) (text : List ℕ) → HasNone rest → (x == 10) ≡ true → parts_of 10 (rest ++ x ∷ text) ≡ rest ∷ parts_of 10 text
ended rest x text none newline = slice_split_at _ rest x text none newline

longer : (rest : List ℕ) (x : ℕ) (text : List ℕ) → rest ++ x ∷ text ≡ (rest ++ x ∷ []) ++ text
longer rest x text = sym (append_assoc rest (x ∷ []) text)

-- the steps of judging, one line after the other
module _ (book : BookSeen) (state : State) where
  pub begun_last : (rest : List ℕ) → judged_from book state (rest ∷ []) ≡ begun_with state rest
  unfolding judged_from
  begun_last rest = refl

  pub begun_on : (text : List ℕ) (more : List (List ℕ)) → 0 < length more
      → judged_from book state (text ∷ more) ≡ look (take_text book state text) (λ kept. judged_from book kept more)
  unfolding judged_from
  begun_on text [] some = absurd (omega (arith, some))
  begun_on text (next ∷ texts) some = refl

-- bytes behind the last newline that are too many, and others
begun_by : (state : State) (rest : List ℕ) (long : Bool) → nat_lt LENGTH_LIMIT (length rest) ≡ long → begun_with state rest ≡ begun_unless long state rest
begun_by state rest long is = ap (λ (long : Bool). begun_unless long state rest) is

pub begun_long : (state : State) (rest : List ℕ) → LENGTH_LIMIT < length rest → begun_with state rest ≡ Err (failed (state.lines + 1) BadLine)
begun_long state rest long = begun_by state rest true (grind (arith, nat_tests))

pub begun_short : (state : State) (rest : List ℕ) → length rest ≤ LENGTH_LIMIT → begun_with state rest ≡ Ok (record { state = state; rest = rest })
begun_short state rest short = begun_by state rest false (grind (arith, nat_tests))

-- a checker to which nothing was fed
pub nothing_fed : (book : BookSeen) (state : State) (rest : List ℕ) → state ≡ first_state → rest ≡ [] → Ok (record { state = state; rest = rest }) ≡ judged book []
nothing_fed book state rest first none = rw (first, none) (sym (begun_last book first_state []))

-- where a part ends a line that was begun or was not, or goes on with it
pub fed_last : (book : BookSeen) (state : State) (rest part : List ℕ) (parts more : List (List ℕ)) → parts ≡ part ∷ more → (length more == 0) ≡ true
    → judged_from book state (onto_rest rest parts) ≡ begun_with state (rest ++ part)
fed_last book state rest part parts [] is none = ap (λ (ps : List (List ℕ)). judged_from book state (onto_rest rest ps)) is ∙ begun_last book state (rest ++ part)
fed_last book state rest part parts (next ∷ more) is none = (let same = eqb-true (length (next ∷ more)) 0 none in absurd (omega (arith, same)))

fed_on : (book : BookSeen) (state : State) (rest part : List ℕ) (parts more : List (List ℕ)) → parts ≡ part ∷ more → (length more == 0) ≡ false
    → judged_from book state (onto_rest rest parts) ≡ look (take_text book state (rest ++ part)) (λ kept. judged_from book kept (onto_rest [] more))
fed_on book state rest part parts [] is some = absurd (cc some)
fed_on book state rest part parts (next ∷ more) is some =
    ap (λ (ps : List (List ℕ)). judged_from book state (onto_rest rest ps)) is ∙ begun_on book state (rest ++ part) (next ∷ more) (omega arith)

pub fed_taken : (book : BookSeen) (state kept : State) (rest none part : List ℕ) (parts more : List (List ℕ)) → parts ≡ part ∷ more → (length more == 0) ≡ false
    → none ≡ [] → take_text book state (rest ++ part) ≡ Ok kept → judged_from book state (onto_rest rest parts) ≡ judged_from book kept (onto_rest none more)
fed_taken book state kept rest none part parts more is some empty taken =
    fed_on book state rest part parts more is some ∙ ap (λ (step : Result State Verdict). look step (λ kept. judged_from book kept (onto_rest [] more))) taken
    ∙ ap (λ (rest : List ℕ). judged_from book kept (onto_rest rest more)) (sym empty)

pub fed_failing : (book : BookSeen) (state : State) (rest part : List ℕ) (parts more : List (List ℕ)) (failure : Verdict) → parts ≡ part ∷ more → (length more == 0) ≡ false
    → take_text book state (rest ++ part) ≡ Err failure → judged_from book state (onto_rest rest parts) ≡ Err failure
fed_failing book state rest part parts more failure is some fails =
    fed_on book state rest part parts more is some ∙ ap (λ (step : Result State Verdict). look step (λ kept. judged_from book kept (onto_rest [] more))) fails

pub fed_all : (book : BookSeen) (state : State) (rest : List ℕ) (parts : List (List ℕ)) → parts ≡ [] → length rest ≤ LENGTH_LIMIT
    → judged_from book state (onto_rest rest parts) ≡ Ok (record { state = state; rest = rest })
fed_all book state rest parts is short =
    ap (λ (ps : List (List ℕ)). judged_from book state (onto_rest rest ps)) is ∙ begun_last book state rest ∙ begun_short state rest short

module _ (read : ReadLinesAreSpelled) (short : SpelledLinesAreShort) where
  -- a text that is too long is none of a certificate's lines
  none_so_long : (text : List ℕ) → LENGTH_LIMIT < length text → line_of text ≡ None
  none_so_long text long = by_line (line_of text) refl
    where
      by_line : (line : Option CertLine) → line_of text ≡ line → line_of text ≡ None
      by_line None is = is
      by_line (Some line) is =
          let told = read text line is in
          let fits : length text ≤ LENGTH_LIMIT = subst (λ (t : List ℕ). length t ≤ LENGTH_LIMIT) (sym told.1) (short line told.0).0 in
          absurd (omega (arith, fits, long))

  module _ (book : BookSeen) where
    pub fails_so_long : (state : State) (text : List ℕ) → LENGTH_LIMIT < length text → take_text book state text ≡ Err (failed (state.lines + 1) BadLine)
    fails_so_long state text long = ap (take_read book state) (none_so_long text long)

    pub fails_begun : (state : State) (text : List ℕ) (failure : Verdict) → begun_with state text ≡ Err failure → take_text book state text ≡ Err failure
    fails_begun state text failure e = by_long (nat_lt LENGTH_LIMIT (length text)) refl e
      where
        by_long : (long : Bool) → nat_lt LENGTH_LIMIT (length text) ≡ long → begun_unless long state text ≡ Err failure → take_text book state text ≡ Err failure
        by_long true is e = fails_so_long state text (grind (arith, nat_tests)) ∙ ap (λ (v : Verdict). Err v) (cc e)
        by_long false is e = absurd (cc e)

    -- whether it is ended or goes on
    stays_long : (text rest : List ℕ) (state : State) → LENGTH_LIMIT < length rest → HasNone rest
        → judged_from book state (parts_of 10 (rest ++ text)) ≡ Err (failed (state.lines + 1) BadLine)
    stays_long [] rest state long none =
        ap (λ (t : List ℕ). judged_from book state (parts_of 10 t)) (append-nil rest) ∙ ap (judged_from book state) (alone rest none)
        ∙ begun_last book state rest ∙ begun_long state rest long
    stays_long (x ∷ text) rest state long none =
        by_byte (x == 10) refl (λ more. stays_long text (rest ++ x ∷ []) state (omega (arith, length-append rest (x ∷ []), long)) more)
      where
        by_byte : (newline : Bool) → (x == 10) ≡ newline
            → (HasNone (rest ++ x ∷ []) → judged_from book state (parts_of 10 ((rest ++ x ∷ []) ++ text)) ≡ Err (failed (state.lines + 1) BadLine))
            → judged_from book state (parts_of 10 (rest ++ x ∷ text)) ≡ Err (failed (state.lines + 1) BadLine)
        by_byte true is later =
            ap (judged_from book state) (ended rest x text none is) ∙ begun_on book state rest (parts_of 10 text) (parts_some text)
            ∙ ap (λ (step : Result State Verdict). look step (λ kept. judged_from book kept (parts_of 10 text))) (fails_so_long state rest long)
        by_byte false is later = ap (λ (t : List ℕ). judged_from book state (parts_of 10 t)) (longer rest x text) ∙ later (one_more rest x none is)

    goes_on : (text rest : List ℕ) (state : State) (more : List ℕ) → HasNone rest
        → judged_from book state (parts_of 10 (rest ++ (text ++ more))) ≡ fed book (judged_from book state (parts_of 10 (rest ++ text))) more
    goes_on [] rest state more none = by_long (nat_lt LENGTH_LIMIT (length rest)) refl
      where
        here : judged_from book state (parts_of 10 (rest ++ [])) ≡ begun_with state rest
        here = ap (λ (t : List ℕ). judged_from book state (parts_of 10 t)) (append-nil rest) ∙ ap (judged_from book state) (alone rest none) ∙ begun_last book state rest

        by_long : (long : Bool) → nat_lt LENGTH_LIMIT (length rest) ≡ long
            → judged_from book state (parts_of 10 (rest ++ more)) ≡ fed book (judged_from book state (parts_of 10 (rest ++ []))) more
        by_long true is =
            stays_long more rest state (grind (arith, nat_tests)) none
            ∙ sym (ap (λ (r : Result Begun Verdict). fed book r more) (here ∙ begun_by state rest true is))
        by_long false is =
            ap (judged_from book state) (behind rest more none)
            ∙ sym (ap (λ (r : Result Begun Verdict). fed book r more) (here ∙ begun_by state rest false is))
    goes_on (x ∷ text) rest state more none =
        by_byte (x == 10) refl (λ kept. goes_on text [] kept more none_yet) (λ none. goes_on text (rest ++ x ∷ []) state more none)
      where
        by_step : (step : Result State Verdict)
            → ((kept : State) → judged_from book kept (parts_of 10 (text ++ more)) ≡ fed book (judged_from book kept (parts_of 10 text)) more)
            → look step (λ kept. judged_from book kept (parts_of 10 (text ++ more))) ≡ fed book (look step (λ kept. judged_from book kept (parts_of 10 text))) more
        by_step (Ok kept) later = later kept
        by_step (Err failure) later = refl

        by_byte : (newline : Bool) → (x == 10) ≡ newline
            → ((kept : State) → judged_from book kept (parts_of 10 (text ++ more)) ≡ fed book (judged_from book kept (parts_of 10 text)) more)
            → (HasNone (rest ++ x ∷ [])
            → judged_from book state (parts_of 10 ((rest ++ x ∷ []) ++ (text ++ more))) ≡ fed book (judged_from book state (parts_of 10 ((rest ++ x ∷ []) ++ text))) more)
            → judged_from book state (parts_of 10 (rest ++ x ∷ (text ++ more))) ≡ fed book (judged_from book state (parts_of 10 (rest ++ x ∷ text))) more
        by_byte true is later same =
            ap (judged_from book state) (ended rest x (text ++ more) none is) ∙ begun_on book state rest (parts_of 10 (text ++ more)) (parts_some (text ++ more))
            ∙ by_step (take_text book state rest) later
            ∙ sym (ap (λ (r : Result Begun Verdict). fed book r more)
            (ap (judged_from book state) (ended rest x text none is) ∙ begun_on book state rest (parts_of 10 text) (parts_some text)))
        by_byte false is later same =
            ap (λ (t : List ℕ). judged_from book state (parts_of 10 t)) (longer rest x (text ++ more)) ∙ same (one_more rest x none is)
            ∙ sym (ap (λ (t : List ℕ). fed book (judged_from book state (parts_of 10 t)) more) (longer rest x text))

    -- what a piece more makes of what was met is what the whole text leaves
    pub by_pieces : (text more : List ℕ) → judged book (text ++ more) ≡ fed book (judged book text) more
    by_pieces text more = goes_on text [] first_state more none_yet

    -- so a checker that stood for a text stands for the text with the piece
    pub stands_on : (old new : Result Begun Verdict) (text piece : List ℕ) → new ≡ fed book old piece → old ≡ judged book text → new ≡ judged book (text ++ piece)
    stands_on old new text piece is stood = is ∙ ap (λ (r : Result Begun Verdict). fed book r piece) stood ∙ sym (by_pieces text piece)

  pub failures_stay : FailuresStay
  failures_stay book front more failure fails = by_pieces book front more ∙ ap (λ (r : Result Begun Verdict). fed book r more) fails

-- the verdict is that of the end
ends : (book : BookSeen) (texts : List (List ℕ)) (state : State) → verdict_from book state texts ≡ verdict_of (judged_from book state texts)
unfolding judged_from
ends book [] state = no_line book state
ends book (rest ∷ []) state = last_line book state rest ∙ by_long (nat_lt LENGTH_LIMIT (length rest)) refl
  where
    by_long : (long : Bool) → nat_lt LENGTH_LIMIT (length rest) ≡ long
        → end_with state rest ≡ verdict_of (begun_unless long state rest)
    by_long true is =
        let many : LENGTH_LIMIT < length rest = grind (arith, nat_tests) in
        let some : (length rest == 0) ≡ false = ne_eqb (length rest) 0 (λ none. omega (arith, many, none)) in
        rw (some, is) refl
    by_long false is = refl
ends book (text ∷ next ∷ texts) state =
    line_on book state text (next ∷ texts) (ne_eqb (length (next ∷ texts)) 0 (λ none. omega (arith, none)))
    ∙ by_step (take_text book state text) (λ kept. ends book (next ∷ texts) kept)
  where
    by_step : (step : Result State Verdict) → ((kept : State) → verdict_from book kept (next ∷ texts) ≡ verdict_of (judged_from book kept (next ∷ texts)))
        → and_on step (λ kept. verdict_from book kept (next ∷ texts)) ≡ verdict_of (look step (λ kept. judged_from book kept (next ∷ texts)))
    by_step (Ok kept) later = later kept
    by_step (Err failure) later = refl

pub verdicts_are_of_ends : VerdictsAreOfEnds
verdicts_are_of_ends book text = ends book (parts_of 10 text) first_state

pub ends_so : (book : BookSeen) (met : Result Begun Verdict) (text : List ℕ) (found : Verdict) → met ≡ judged book text → found ≡ verdict_of met → found ≡ verdict book text
ends_so book met text found stood is = is ∙ ap verdict_of stood ∙ sym (verdicts_are_of_ends book text)

-- a failure is a no
abbrev IsNo : Verdict → Type 0
IsNo failure = (line : ℕ) × (reason : ℕ) × (failure ≡ No line reason)

no_at : (n : ℕ) (step : Result State Reason) (failure : Verdict) → at_line n step ≡ Err failure → IsNo failure
no_at n (Ok next) failure e = absurd (cc e)
no_at n (Err why) failure e = (n, number_of_reason why, cc e)

no_in : (book : BookSeen) (state : State) (line : CertLine) (opened : Option ℕ) (failure : Verdict) → judge_line book state line opened ≡ Err failure → IsNo failure
no_in book state line None failure e = no_at (state.lines + 1) (take_line book (ready_for book state line) line) failure e
no_in book state line (Some opened) failure e = (opened, 6, cc e)

no_of_version : (book : BookSeen) (state : State) (line : CertLine) (test : Bool) (failure : Verdict) → judge_of_version book state line test ≡ Err failure → IsNo failure
no_of_version book state line true failure e = no_in book state line (if is_label line then None else leaf_fails book state.leaf) failure e
no_of_version book state line false failure e = (state.lines + 1, 1, cc e)

no_read : (book : BookSeen) (state : State) (line : Option CertLine) (failure : Verdict) → take_read book state line ≡ Err failure → IsNo failure
no_read book state None failure e = (state.lines + 1, 1, cc e)
no_read book state (Some line) failure e = no_of_version book state line (is_of_version state.version line) failure e

no_begun : (long : Bool) (state : State) (rest : List ℕ) (failure : Verdict) → begun_unless long state rest ≡ Err failure → IsNo failure
no_begun true state rest failure e = (state.lines + 1, 1, cc e)
no_begun false state rest failure e = absurd (cc e)

no_from : (book : BookSeen) (texts : List (List ℕ)) (state : State) (failure : Verdict) → judged_from book state texts ≡ Err failure → IsNo failure
unfolding judged_from
no_from book [] state failure e = no_begun false state [] failure e
no_from book (rest ∷ []) state failure e = no_begun (nat_lt LENGTH_LIMIT (length rest)) state rest failure e
no_from book (text ∷ next ∷ texts) state failure e = by_step (take_text book state text) refl (λ kept e. no_from book (next ∷ texts) kept failure e) e
  where
    by_step : (step : Result State Verdict) → take_text book state text ≡ step → ((kept : State) → judged_from book kept (next ∷ texts) ≡ Err failure → IsNo failure)
        → look step (λ kept. judged_from book kept (next ∷ texts)) ≡ Err failure → IsNo failure
    by_step (Ok kept) is later e = later kept e
    by_step (Err other) is later e = no_read book state (line_of text) failure (is ∙ ap (λ (v : Verdict). Err v) (cc e))

pub failures_are_no : FailuresAreNo
failures_are_no book text failure e = no_from book (parts_of 10 text) first_state failure e
