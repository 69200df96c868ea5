-- A failure is told with a line, and every text that is the same up to that line has it. The lines are taken one after the other,
-- and what is kept behind a line depends on the lines so far alone: so the line that is judged last decides, and it stands in both
-- texts. A failure has the number of that line, but for an open leaf, which has its own. Between the line of an open leaf and the
-- next one stand its labels alone, since every other line closes it or opens another: so the number of that leaf's line and
-- of the labels behind it are the line that is judged last. A failure at the end of the text has the number of no whole line.
use Rattle.std.specs.Prelude.{⊤, if◌then◌else◌, ◌==◌, ◌&&◌, nat_le, nat_lt}
use Rattle.std.proofs.Common.{◌≡◌, ◌∙◌, ◌+◌, ◌<◌, ◌≤◌, ℕ, zero, suc, Bool, true, false, List, [], ◌∷◌, ◌++◌, length, take, drop}
use Rattle.std.proofs.Common.{Option, Some, None, Result, Ok, Err, refl, sym, ap, subst, arith}
use Rattle.std.proofs.lemmas.Bool.{eq-eqb, ne_eqb}
use Rattle.tail_book.specs.Lookup.{activities}
use Rattle.tail_book.specs.Seen.{BookSeen}
use Rattle.tail_text.specs.Parts.{parts_of}
use Rattle.branch_marks.specs.declared.event.Event.TheVariants as events
use Rattle.branch_marks.specs.MarkTests.{is_alive}
use Rattle.cert_lines.specs.declared.cert_line.CertLine.{CertLine}
use Rattle.cert_lines.specs.declared.cert_line.CertLine.TheVariants as lines
use Rattle.cert_lines.specs.Reading.{line_of}
use Rattle.cert_checker.specs.Reasons.{is_shown_leaf, number_of_reason}
use Rattle.cert_checker.specs.State.{OpenLeaf, State, Section, Start, InTree, InBound, InLean, InPlan, Claimed}
use Rattle.cert_checker.specs.Step.{take_label_in, take_line}
use Rattle.cert_checker.specs.Verdict.{at_line, claimed_at, end_with, failed, first_state, is_label, is_of_version}
use Rattle.cert_checker.specs.Verdict.{judge_line, judge_of_version, leaf_fails, ready_for, take_read, take_text, verdict, verdict_from}
use Rattle.cert_checker.specs.declared.verdict.Reason.{Reason}
use Rattle.cert_checker.specs.declared.verdict.Reason.TheVariants.{NotAlive, OpenCover, OutOfPlace}
use Rattle.cert_checker.specs.declared.verdict.Verdict.{Verdict}
use Rattle.cert_checker.specs.declared.verdict.Verdict.TheVariants.{No}
use Rattle.cert_checker.specs.inside.ToldLines.{HaveSameLines, labels_first, told_with}
use Rattle.cert_checker.proofs.LineByLine.{last_line, line_fails, line_taken, no_line}
use Rattle.cert_checker.proofs.Opening.{IsOf, IsQuiet, line_behind, ready_quiet, two_tests}
use Rattle.cert_checker.proofs.Standing.{ready_leaf, ready_lines}

-- lists that are the same for long are so for less
shorter : {A : Type 0} (r m : ℕ) (xs ys : List A) → r ≤ m → take m xs ≡ take m ys → take r xs ≡ take r ys
shorter zero m xs ys le e = refl
shorter (suc r) zero xs ys le e = absurd (omega (arith, le))
shorter (suc r) (suc m) [] [] le e = refl
shorter (suc r) (suc m) [] (y ∷ ys) le e = absurd (cc e)
shorter (suc r) (suc m) (x ∷ xs) [] le e = absurd (cc e)
shorter (suc r) (suc m) (x ∷ xs) (y ∷ ys) le e =
    let first : x ≡ y = cc e in
    let rest : take m xs ≡ take m ys = cc e in
    rw first (ap (λ (zs : List _). y ∷ zs) (shorter r m xs ys (omega (arith, le)) rest))

behind_one : {A : Type 0} (n : ℕ) (xs : List A) (y : A) (ys : List A) → drop n xs ≡ y ∷ ys → drop (suc n) xs ≡ ys
behind_one zero [] y ys e = absurd (cc e)
behind_one zero (x ∷ xs) y ys e = cc e
behind_one (suc n) [] y ys e = absurd (cc e)
behind_one (suc n) (x ∷ xs) y ys e = behind_one n xs y ys e

some_left : (line : List ℕ) (more : List (List ℕ)) → (length (line ∷ more) == 0) ≡ false
some_left line more = ne_eqb (length (line ∷ more)) 0 (λ none. omega (arith, none))

-- what is kept behind a line is numbered by it, and so is its failure
record IsNumbered (n : ℕ) (step : Result State Reason) (kept : State) : Type 0 where
  next : State
  taken : step ≡ Ok next
  is : record next { lines = n } ≡ kept

numbered : (n : ℕ) (step : Result State Reason) (kept : State) → at_line n step ≡ Ok kept → IsNumbered n step kept
numbered n (Ok next) kept e = record { next = next; taken = refl; is = cc e }
numbered n (Err why) kept e = absurd (cc e)

fails_at : (m : ℕ) (step : Result State Reason) (n reason : ℕ) → at_line m step ≡ Err (No n reason) → n ≡ m
fails_at m (Ok next) n reason e = absurd (cc e)
fails_at m (Err why) n reason e = cc e

-- a failure at the end is behind the last line
ends_at : (state : State) (rest : List ℕ) (n reason : ℕ) → end_with state rest ≡ No n reason → n ≡ state.lines + 1
ends_at state rest n reason e = by_rest (length rest == 0) _ state.section e
  where
    by_rest : (none : Bool) (why : Reason) (section : Section) → (if none then claimed_at state.lines section else failed (state.lines + 1) why) ≡ No n reason
        → n ≡ state.lines + 1
    by_rest false why section e = cc e
    by_rest true why Start e = cc e
    by_rest true why InTree e = cc e
    by_rest true why (InBound bound) e = cc e
    by_rest true why (InLean lean) e = cc e
    by_rest true why (InPlan fliers) e = cc e
    by_rest true why (Claimed claim) e = absurd (cc e)

-- a leaf that fails is open
fails_open : (book : BookSeen) (leaf : OpenLeaf) (opened : ℕ) → leaf_fails book (Some leaf) ≡ Some opened → leaf.line ≡ opened
fails_open book leaf opened e = by_shown (is_shown_leaf book leaf) e
  where
    by_shown : (shown : Bool) → (if shown then None else Some leaf.line) ≡ Some opened → leaf.line ≡ opened
    by_shown true e = absurd (cc e)
    by_shown false e = cc e

still_quiet : (section : Section) (leaf after : OpenLeaf) → IsQuiet section (Some leaf) → IsQuiet section (Some after)
still_quiet Start leaf after quiet = absurd (cc quiet)
still_quiet InTree leaf after quiet = tt
still_quiet (InBound bound) leaf after quiet = λ zero. (let none = quiet zero in absurd (cc none))
still_quiet (InLean lean) leaf after quiet = absurd (cc quiet)
still_quiet (InPlan fliers) leaf after quiet = absurd (cc quiet)
still_quiet (Claimed claim) leaf after quiet = tt

module _ (book : BookSeen) (whole : List (List ℕ)) where
  -- the labels behind the line of the open leaf are those so far, and those that the lines that are left begin with
  abbrev HasLabels : ℕ → List (List ℕ) → Option OpenLeaf → Type 0
  HasLabels n left None = ⊤
  HasLabels n left (Some leaf) = leaf.line + labels_first (drop leaf.line whole) ≡ n + labels_first left

  -- so many lines were taken of them all, and these are left
  record StandsAt (state : State) (left : List (List ℕ)) : Type 0 where
    left_is : drop state.lines whole ≡ left
    quiet : IsQuiet state.section state.leaf
    labels : HasLabels state.lines left state.leaf

  opened_by : (n : ℕ) (left : List (List ℕ)) (leaf : Option OpenLeaf) → drop n whole ≡ left → IsOf n leaf → HasLabels n left leaf
  opened_by n left None is of = tt
  opened_by n left (Some leaf) is of = rw of (ap (λ (xs : List (List ℕ)). n + labels_first xs) is)

  module _ (state : State) (text : List ℕ) (left : List (List ℕ)) (stands : StandsAt state (text ∷ left)) where
    next_left : drop (state.lines + 1) whole ≡ left
    next_left =
        let one : suc state.lines ≡ state.lines + 1 = omega arith in
        subst (λ (n : ℕ). drop n whole ≡ left) one (behind_one state.lines whole text left stands.left_is)

    -- a line that is no label
    other_passes : (line : CertLine) (next : State) → is_label line ≡ false → take_line book state line ≡ Ok next
        → StandsAt (record next { lines = state.lines + 1 }) left
    other_passes line next other taken =
        let behind = line_behind book state next stands.quiet line other taken in
        record { left_is = next_left; quiet = behind.quiet; labels = opened_by (state.lines + 1) left next.leaf next_left behind.opened }

    -- a label, which is of the leaf that is open
    label_passes : (line : CertLine) (next : State) → line_of text ≡ Some line → is_label line ≡ true → take_line book state line ≡ Ok next
        → StandsAt (record next { lines = state.lines + 1 }) left
    label_passes (lines.Event (events.Label at weight counters)) next read label taken = by_leaf state.leaf stands.quiet stands.labels taken
      where
        one_more : labels_first (text ∷ left) ≡ suc (labels_first left)
        one_more = rw read refl

        by_leaf : (leaf : Option OpenLeaf) → IsQuiet state.section leaf → HasLabels state.lines (text ∷ left) leaf
            → take_label_in book state (record { at = at; weight = weight; counters = counters }) leaf ≡ Ok next
            → StandsAt (record next { lines = state.lines + 1 }) left
        by_leaf None quiet labels e = absurd (cc e)
        by_leaf (Some leaf) quiet labels e =
            let after : OpenLeaf = record leaf { next = at; family = leaf.family ++ record { at = at; weight = weight; counters = counters } ∷ [] } in
            let kept : State = record state { leaf = Some after } in
            let many : leaf.line + labels_first (drop leaf.line whole) ≡ (state.lines + 1) + labels_first left = omega (arith, labels, one_more) in
            subst (λ (next : State). StandsAt (record next { lines = state.lines + 1 }) left)
            (two_tests (nat_le leaf.next at && (nat_lt at (activities book) && length counters == length book.rules.counters))
            (is_alive book leaf.marks leaf.k at) OutOfPlace NotAlive kept next e)
            (record { left_is = next_left; quiet = still_quiet state.section leaf after quiet; labels = many })
    label_passes (lines.Event (events.Fact fact)) next read label taken = absurd (cc label)
    label_passes (lines.Event (events.Split pair)) next read label taken = absurd (cc label)
    label_passes (lines.Event (events.Hole a)) next read label taken = absurd (cc label)
    label_passes (lines.Event (events.Stuck k)) next read label taken = absurd (cc label)
    label_passes (lines.Event events.Bound) next read label taken = absurd (cc label)
    label_passes (lines.Event (events.Dual a dual)) next read label taken = absurd (cc label)
    label_passes (lines.Event (events.Cover k value)) next read label taken = absurd (cc label)
    label_passes (lines.Header version n m c) next read label taken = absurd (cc label)
    label_passes lines.Lean next read label taken = absurd (cc label)
    label_passes lines.Plan next read label taken = absurd (cc label)
    label_passes (lines.Fly a k) next read label taken = absurd (cc label)
    label_passes (lines.Claim claim) next read label taken = absurd (cc label)

  -- where a lean leaf was priced the same lines were taken
  ready_at : (state : State) (line : CertLine) (left : List (List ℕ)) → StandsAt state left → StandsAt (ready_for book state line) left
  ready_at state line left stands = record {
    left_is = rw (ready_lines book state line) stands.left_is;
    quiet = ready_quiet book state line stands.quiet;
    labels = rw (ready_lines book state line, ready_leaf book state line) stands.labels;
  }

  module _ (state : State) (text : List ℕ) (left : List (List ℕ)) (stands : StandsAt state (text ∷ left)) where
    ready_on : (line : CertLine) (next : State) → StandsAt (record next { lines = (ready_for book state line).lines + 1 }) left → StandsAt (record next { lines = state.lines + 1 }) left
    ready_on line next here = subst (λ (n : ℕ). StandsAt (record next { lines = n + 1 }) left) (ready_lines book state line) here

    -- behind a line that is taken one line less is left
    record IsOneOn (kept : State) : Type 0 where
      lines : kept.lines ≡ state.lines + 1
      here : StandsAt kept left

    one_on : (kept : State) → take_text book state text ≡ Ok kept → IsOneOn kept
    one_on kept e = by_read (line_of text) refl e
      where
        by_label : (line : CertLine) (label : Bool) → line_of text ≡ Some line → is_label line ≡ label
            → judge_line book state line (if label then None else leaf_fails book state.leaf) ≡ Ok kept → IsOneOn kept
        by_label line true read label e =
            let is = numbered (state.lines + 1) (take_line book (ready_for book state line) line) kept e in
            subst IsOneOn is.is (record { lines = refl; here = ready_on line is.next (label_passes (ready_for book state line) text left (ready_at state line (text ∷ left) stands) line is.next read label is.taken) })
        by_label line false read label e = by_opened (leaf_fails book state.leaf) e
          where
            by_opened : (opened : Option ℕ) → judge_line book state line opened ≡ Ok kept → IsOneOn kept
            by_opened None e =
                let is = numbered (state.lines + 1) (take_line book (ready_for book state line) line) kept e in
                subst IsOneOn is.is (record { lines = refl; here = ready_on line is.next (other_passes (ready_for book state line) text left (ready_at state line (text ∷ left) stands) line is.next label is.taken) })
            by_opened (Some opened) e = absurd (cc e)

        by_version : (line : CertLine) (test : Bool) → line_of text ≡ Some line → judge_of_version book state line test ≡ Ok kept → IsOneOn kept
        by_version line true is e = by_label line (is_label line) is refl e
        by_version line false is e = absurd (cc e)

        by_read : (read : Option CertLine) → line_of text ≡ read → take_read book state read ≡ Ok kept → IsOneOn kept
        by_read None is e = absurd (cc e)
        by_read (Some line) is e = by_version line (is_of_version state.version line) is e

    -- a line that fails is at most the one that the failure is told with
    fails_within : (m n reason : ℕ) → n ≤ m → (reason ≡ 6 → m ≡ n + labels_first (drop n whole) + 1) → take_text book state text ≡ Err (No n reason)
        → state.lines + 1 ≤ m
    fails_within m n reason le told e = by_read (line_of text) e
      where
        here : n ≡ state.lines + 1 → state.lines + 1 ≤ m
        here is = omega (arith, is, le)

        by_leaf : (leaf : Option OpenLeaf) (opened : ℕ) → HasLabels state.lines (text ∷ left) leaf → leaf_fails book leaf ≡ Some opened
            → opened ≡ n → reason ≡ 6 → state.lines + 1 ≤ m
        by_leaf None opened labels fails is six = absurd (cc fails)
        by_leaf (Some leaf) opened labels fails is six =
            let line : leaf.line ≡ n = fails_open book leaf opened fails ∙ is in
            let with = told six in
            let many : n + labels_first (drop n whole) ≡ state.lines + labels_first (text ∷ left) =
            subst (λ (n : ℕ). n + labels_first (drop n whole) ≡ state.lines + labels_first (text ∷ left)) line labels in
            omega (arith, with, many)

        by_opened : (line : CertLine) (label : Bool) → judge_line book state line (if label then None else leaf_fails book state.leaf) ≡ Err (No n reason)
            → state.lines + 1 ≤ m
        by_opened line true e = here (fails_at (state.lines + 1) (take_line book (ready_for book state line) line) n reason e)
        by_opened line false e = by_fails (leaf_fails book state.leaf) refl e
          where
            by_fails : (fails : Option ℕ) → leaf_fails book state.leaf ≡ fails → judge_line book state line fails ≡ Err (No n reason) → state.lines + 1 ≤ m
            by_fails None is e = here (fails_at (state.lines + 1) (take_line book (ready_for book state line) line) n reason e)
            by_fails (Some opened) is e =
                let same : opened ≡ n = cc e in
                let six : 6 ≡ reason = cc e in
                by_leaf state.leaf opened stands.labels is same (sym six)

        by_version : (line : CertLine) (test : Bool) → judge_of_version book state line test ≡ Err (No n reason) → state.lines + 1 ≤ m
        by_version line true e = by_opened line (is_label line) e
        by_version line false e = here (let is : state.lines + 1 ≡ n = cc e in sym is)

        by_read : (read : Option CertLine) → take_read book state read ≡ Err (No n reason) → state.lines + 1 ≤ m
        by_read None e = here (let is : state.lines + 1 ≡ n = cc e in sym is)
        by_read (Some line) e = by_version line (is_of_version state.version line) e

  -- the failure is told once so many of the lines that are left were read: with these lines, every text has it
  record IsTold (state : State) (left : List (List ℕ)) (m : ℕ) (failure : Verdict) : Type 0 where
    count : ℕ
    within : state.lines + count ≤ m
    decides : (other : List (List ℕ)) → count < length other → take count left ≡ take count other → verdict_from book state other ≡ failure

  module _ (m n reason : ℕ) (le : n ≤ m) (with : reason ≡ 6 → m ≡ n + labels_first (drop n whole) + 1) where
    told : (left : List (List ℕ)) (state : State) → StandsAt state left → m < state.lines + length left → verdict_from book state left ≡ No n reason
        → IsTold state left m (No n reason)
    told [] state stands lt e = (let is = ends_at state [] n reason (sym (no_line book state) ∙ e) in absurd (omega (arith, is, le, lt)))
    told (rest ∷ []) state stands lt e = (let is = ends_at state rest n reason (sym (last_line book state rest) ∙ e) in absurd (omega (arith, is, le, lt)))
    told (text ∷ next ∷ texts) state stands lt e = by_step (take_text book state text) refl (λ kept here lt e. told (next ∷ texts) kept here lt e)
      where
        by_step : (step : Result State Verdict) → take_text book state text ≡ step
            → ((kept : State) → StandsAt kept (next ∷ texts) → m < kept.lines + length (next ∷ texts) → verdict_from book kept (next ∷ texts) ≡ No n reason
            → IsTold kept (next ∷ texts) m (No n reason))
            → IsTold state (text ∷ next ∷ texts) m (No n reason)
        by_step (Err failure) is goes =
            let same : failure ≡ No n reason = sym (line_fails book state text (next ∷ texts) failure (some_left next texts) is) ∙ e in
            let fails : take_text book state text ≡ Err (No n reason) = is ∙ ap (λ (v : Verdict). Err v) same in
            record { count = 1; within = fails_within state text (next ∷ texts) stands m n reason le with fails; decides = there fails }
          where
            there : take_text book state text ≡ Err (No n reason) → (other : List (List ℕ)) → 1 < length other
                → take 1 (text ∷ next ∷ texts) ≡ take 1 other → verdict_from book state other ≡ No n reason
            there fails [] lt same = absurd (omega (arith, lt))
            there fails (one ∷ []) lt same = absurd (omega (arith, lt))
            there fails (one ∷ two ∷ more) lt same =
                let is : text ≡ one = cc same in
                line_fails book state one (two ∷ more) (No n reason) (some_left two more)
                (subst (λ (t : List ℕ). take_text book state t ≡ Err (No n reason)) is fails)
        by_step (Ok kept) is goes =
            let on = one_on state text (next ∷ texts) stands kept is in
            let number = on.lines in
            let same = sym (line_taken book state text (next ∷ texts) kept (some_left next texts) is) ∙ e in
            let later = goes kept on.here (omega (arith, number, lt)) same in
            let within = later.within in
            record { count = suc later.count; within = omega (arith, number, within); decides = there later }
          where
            there : (later : IsTold kept (next ∷ texts) m (No n reason)) → (other : List (List ℕ)) → suc later.count < length other
                → take (suc later.count) (text ∷ next ∷ texts) ≡ take (suc later.count) other → verdict_from book state other ≡ No n reason
            there later [] lt same = absurd (omega (arith, lt))
            there later (one ∷ []) lt same = absurd (omega (arith, lt))
            there later (one ∷ two ∷ more) lt same =
                let first : text ≡ one = cc same in
                let rest : take later.count (next ∷ texts) ≡ take later.count (two ∷ more) = cc same in
                line_taken book state one (two ∷ more) kept (some_left two more) (subst (λ (t : List ℕ). take_text book state t ≡ Ok kept) first is)
                ∙ later.decides (two ∷ more) (omega (arith, lt)) rest

-- a failure is told with its own line or a later one
told_later : (lines : List (List ℕ)) (n reason : ℕ) → n ≤ told_with lines n reason
told_later lines n reason = by_reason (reason == number_of_reason OpenCover)
  where
    by_reason : (open_cover : Bool) → n ≤ (if open_cover then n + labels_first (drop n lines) + 1 else n)
    by_reason true = omega arith
    by_reason false = omega arith

told_behind : (lines : List (List ℕ)) (n reason : ℕ) → reason ≡ 6 → told_with lines n reason ≡ n + labels_first (drop n lines) + 1
told_behind lines n reason six = ap (λ (b : Bool). if b then n + labels_first (drop n lines) + 1 else n) (eq-eqb reason 6 six)

pub same_failure : (book : BookSeen) (text other : List ℕ) (n reason : ℕ) → verdict book text ≡ No n reason
    → HaveSameLines (told_with (parts_of 10 text) n reason) text other → verdict book other ≡ No n reason
same_failure book text other n reason e same =
    let parts = parts_of 10 text in
    let m = told_with parts n reason in
    let begins : StandsAt book parts first_state parts = record { left_is = refl; quiet = refl; labels = tt } in
    let ended = same.ended in
    let is = told book parts m n reason (told_later parts n reason) (told_behind parts n reason) parts first_state begins (omega (arith, ended)) e in
    let within = is.within in
    let ended_too = same.ended_too in
    is.decides (parts_of 10 other) (omega (arith, within, ended_too)) (shorter is.count m parts (parts_of 10 other) (omega (arith, within)) same.same)
