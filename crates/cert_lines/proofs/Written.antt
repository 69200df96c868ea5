-- A text that is read as a line is its spelling: the first word is the keyword's, each word behind it is what is written
-- of the number that it is read as, and there are no more words. The words with a space between each two are the text.
use Rattle.std.proofs.Common.{◌≡◌, ◌∙◌, inl, inr, ◌<◌, ℕ, suc, ℤ, pos, true, false, List, [], ◌∷◌, Option, Some, None, length, nat_lt, ◌==◌, refl, sym, arith, map}
use Rattle.std.proofs.lemmas.Bool.{leb-true}
use Rattle.std.proofs.lemmas.Bool.Decides.{nat_tests}
use Rattle.std.proofs.lemmas.Fmt.{decimal_digit}
use Rattle.std.proofs.lemmas.List.Elements.{All-cons}
use Rattle.std.proofs.lemmas.List.Splits.{join_with_byte-slice_split}
use Rattle.std.proofs.lemmas.Slice.Eq.{bytes_eq-Decides}
use Rattle.std.specs.Fmt.{decimal, signed_decimal}
use Rattle.std.specs.Ordering.{int_eq}
use Rattle.std.specs.Prelude.{option_map, option_and_then, if◌then◌else◌, codes, All, nat_le}
use Rattle.std.specs.Str.{bytes_eq}
use Rattle.tail_book.specs.declared.claim.Claim.{Claim}
use Rattle.tail_book.specs.declared.claim.Claim.TheVariants.{Optimal, Infeasible, Limit}
use Rattle.tail_book.specs.declared.limits.TheConstants.{COUNTER_LIMIT}
use Rattle.tail_text.specs.Parts.{parts_of, space}
use Rattle.branch_marks.specs.Events.{IsLineNumber, IsLineValue, IsLineCounter, IsNotable}
use Rattle.branch_marks.specs.declared.event.Event.{Event}
use Rattle.branch_marks.specs.declared.event.Event.TheVariants as events
use Rattle.branch_marks.specs.declared.fact.Fact.TheVariants.{Bar, Must, Cut}
use Rattle.branch_marks.specs.declared.fact.Pair.{Pair}
use Rattle.branch_marks.specs.declared.fact.Pair.TheVariants as pairs
use Rattle.cert_lines.specs.declared.cert_line.CertLine.{CertLine}
use Rattle.cert_lines.specs.declared.cert_line.CertLine.TheVariants as lines
use Rattle.cert_lines.specs.declared.keyword.Keyword.{Keyword}
use Rattle.cert_lines.specs.declared.keyword.Keyword.TheVariants as key
use Rattle.cert_lines.specs.Grammar.{IsLine, IsLineClaim, IsLineCost, IsVersion}
use Rattle.cert_lines.specs.Keyword.{key_text, keyword_among, keyword_of, seldom_keyword_of}
use Rattle.cert_lines.specs.OneSpelling.{ReadLinesAreSpelled}
use Rattle.cert_lines.specs.Reading.{bounds_in, claim_in, cost_in, dual_in, event_with, header_in, label_in, limit_of, line_in, line_with, split_in, version_in, where_done}
use Rattle.cert_lines.specs.Spelling.{claim_line_words, event_words, words_of}
use Rattle.cert_lines.specs.Words.{amount, counters_in, counters_of, large, number_and_value, one_number, small, two_numbers, value}
use Rattle.cert_lines.proofs.ReadBack.{spaced_joined}
use Rattle.cert_lines.proofs.Steps.{through_either, through_if, through_map, through_then}
use Rattle.cert_lines.proofs.Values.{amount_written, large_written, small_written, value_written}

-- a word is the one that it was compared with
same_word : (word text : List ℕ) → bytes_eq word text ≡ true → word ≡ text
same_word word text e = (bytes_eq-Decides word text).0 e

among : (keys : List Keyword) (word : List ℕ) (after : Option Keyword) (key : Keyword) → (after ≡ Some key → word ≡ key_text key)
    → keyword_among keys word after ≡ Some key → word ≡ key_text key
among [] word after key given e = given e
among (first ∷ keys) word after key given e =
    through_either (bytes_eq word (key_text first)) (λ found. word ≡ key_text found) (Some first) (keyword_among keys word after) key
    (λ test is. let found : first ≡ key = cc is in rw (← found) (same_word word (key_text first) test))
    (λ test rest. among keys word after key given rest) e

-- the keywords of many lines, and of few
abbrev many : List Keyword
many = key.Label ∷ key.Cover ∷ key.Dual ∷ key.Bar ∷ key.Must ∷ key.Cut ∷ key.Bound ∷ []

abbrev few : List Keyword
few = key.Split ∷ key.Lean ∷ key.Hole ∷ key.Stuck ∷ key.Fly ∷ key.Plan ∷ key.Claim ∷ key.Tailcert ∷ []

key_written : (word : List ℕ) (found : Keyword) → keyword_of word ≡ Some found → word ≡ key_text found
key_written word found e = among many word (seldom_keyword_of word) found (λ rest. among few word None found (λ none. absurd (cc none)) rest) e

-- nothing is left
more_than_none : (n : ℕ) → (suc n == 0) ≡ false
more_than_none n = grind (arith, nat_tests)

done_written : {A : Type 0} (words : List (List ℕ)) (P : A → Type 0) (a b : A) → (words ≡ [] → P a) → where_done words a ≡ Some b → P b
done_written [] P a b given e = let is : a ≡ b = cc e in rw (← is) (given refl)
done_written (word ∷ words) P a b given e =
    let some : (length (word ∷ words) == 0) ≡ false = more_than_none (length words) in
    let none : None ≡ Some b = rw some at e in
    absurd (cc none)

-- one number, two, or a number and a value
one_written : (words : List (List ℕ)) (a : ℕ) → one_number words ≡ Some a → (words ≡ decimal a ∷ []) × IsLineNumber a
one_written [] a e = absurd (cc e)
one_written (word ∷ []) a e = let told = small_written word a e in (rw told.0 refl, told.1)
one_written (word ∷ other ∷ words) a e = absurd (cc e)

-- words that write two numbers
abbrev WritesTwo : List (List ℕ) → ℕ × ℕ → Type 0
WritesTwo words both = (words ≡ decimal both.0 ∷ decimal both.1 ∷ []) × IsLineNumber both.0 × IsLineNumber both.1

two_written : (words : List (List ℕ)) (both : ℕ × ℕ) → two_numbers words ≡ Some both → WritesTwo words both
two_written [] both e = absurd (cc e)
two_written (one ∷ []) both e = absurd (cc e)
two_written (one ∷ other ∷ []) both e =
    through_then (λ first. option_map (λ second. (first, second)) (small other)) (WritesTwo (one ∷ other ∷ [])) (small one) both
    (λ a is_a. through_map (λ second. (a, second)) (WritesTwo (one ∷ other ∷ [])) (small other) both
    (λ b is_b. let first = small_written one a is_a in let second = small_written other b is_b in (rw (first.0, second.0) refl, first.1, second.1))) e
two_written (one ∷ other ∷ more ∷ words) both e = absurd (cc e)

-- words that write a number and a value
abbrev WritesValue : List (List ℕ) → ℕ × ℤ → Type 0
WritesValue words both = (words ≡ decimal both.0 ∷ signed_decimal both.1 ∷ []) × IsLineNumber both.0 × IsLineValue both.1

number_and_value_written : (words : List (List ℕ)) (both : ℕ × ℤ) → number_and_value words ≡ Some both → WritesValue words both
number_and_value_written [] both e = absurd (cc e)
number_and_value_written (one ∷ []) both e = absurd (cc e)
number_and_value_written (one ∷ other ∷ []) both e =
    through_then (λ first. option_map (λ second. (first, second)) (value other)) (WritesValue (one ∷ other ∷ [])) (small one) both
    (λ a is_a. through_map (λ second. (a, second)) (WritesValue (one ∷ other ∷ [])) (value other) both
    (λ v is_v. let first = small_written one a is_a in let second = value_written other v is_v in (rw (first.0, second.0) refl, first.1, second.1))) e
number_and_value_written (one ∷ other ∷ more ∷ words) both e = absurd (cc e)

-- words that write counters
record WritesCounters (words : List (List ℕ)) (counters : List ℤ) : Type 0 where
  written : words ≡ map signed_decimal counters
  each : All IsLineCounter counters
  many : length counters ≡ length words

counters_written : (words : List (List ℕ)) (counters : List ℤ) → counters_of words ≡ Some counters → WritesCounters words counters
unfolding counters_of
counters_written [] counters e = let is : [] ≡ counters = cc e in rw (← is) (record { written = refl; each = λ k d lt. absurd (omega (arith, lt)); many = refl })
counters_written (word ∷ words) counters e =
    through_then (λ first. option_map (λ rest. first ∷ rest) (counters_of words)) (WritesCounters (word ∷ words)) (amount word) counters
    (λ v is_v. through_map (λ rest. v ∷ rest) (WritesCounters (word ∷ words)) (counters_of words) counters
    (λ more is_more.
    let first = amount_written word v is_v in
    let rest = counters_written words more is_more in
    record { written = rw (first.0, rest.written) refl; each = All-cons IsLineCounter v more first.1 rest.each; many = rw rest.many refl })) e

-- the events and lines, keyword by keyword
abbrev WritesEvent : List (List ℕ) → Event → Type 0
WritesEvent words event = (words ≡ event_words event) × IsNotable event

dual_written : (words : List (List ℕ)) (event : Event) → dual_in words ≡ Some event → WritesEvent (codes "dual" ∷ words) event
dual_written words event e =
    through_then (λ dual. if int_eq dual.1 (pos 0) then None else Some (events.Dual dual.0 dual.1)) (WritesEvent (codes "dual" ∷ words)) (number_and_value words) event
    (λ both is given. let told = number_and_value_written words both is in
    through_either (int_eq both.1 (pos 0)) (WritesEvent (codes "dual" ∷ words)) None (Some (events.Dual both.0 both.1)) event
    (λ zero none. absurd (cc none))
    (λ some made. let made_is : events.Dual both.0 both.1 ≡ event = cc made in rw (← made_is) (rw told.0 refl, (told.1, told.2, not_zero both.1 some))) given) e
  where
    not_zero : (v : ℤ) → int_eq v (pos 0) ≡ false → ¬ v ≡ pos 0
    not_zero v e is = let told : int_eq (pos 0) (pos 0) ≡ false = rw is at e in absurd (cc told)

label_written : (words : List (List ℕ)) (event : Event) → label_in words ≡ Some event → WritesEvent (codes "label" ∷ words) event
label_written [] event e = absurd (cc e)
label_written (one ∷ []) event e = absurd (cc e)
label_written (one ∷ other ∷ words) event e =
    through_then (λ at. option_and_then (λ weight. option_map (λ counters. events.Label at weight counters) (counters_in words)) (value other)) P (small one) event
    (λ a is_a. through_then (λ weight. option_map (λ counters. events.Label a weight counters) (counters_in words)) P (value other) event
    (λ v is_v. through_map (λ counters. events.Label a v counters) P (counters_in words) event
    (λ counters is. through_if (nat_le (length words) COUNTER_LIMIT) (λ found. P (events.Label a v found)) (counters_of words) counters
    (λ few given.
    let first = small_written one a is_a in
    let second = value_written other v is_v in
    let rest = counters_written words counters given in (
      rw (first.0, second.0, rest.written) refl,
      record { activity = first.1; value = second.1; count = omega (arith, rest.many, leb-true (length words) COUNTER_LIMIT few); each = rest.each },
    )) is))) e
  where
    P : Event → Type 0
    P = WritesEvent (codes "label" ∷ one ∷ other ∷ words)

split_written : (words : List (List ℕ)) (pair : Pair) → split_in words ≡ Some pair → WritesEvent (codes "split" ∷ words) (events.Split pair)
split_written [] pair e = absurd (cc e)
split_written (kind ∷ []) pair e = absurd (cc e)
split_written (kind ∷ one ∷ []) pair e = absurd (cc e)
split_written (kind ∷ one ∷ other ∷ more ∷ words) pair e = absurd (cc e)
split_written (kind ∷ one ∷ other ∷ []) pair e =
    through_either (bytes_eq kind (codes "fly")) P flies (if bytes_eq kind (codes "link") then links else None) pair
    (λ fly given. through_map (λ both. pairs.Fly both.0 both.1) P (two_numbers (one ∷ other ∷ [])) pair
    (λ both two. let told = two_written (one ∷ other ∷ []) both two in (rw (same_word kind (codes "fly") fly, told.0) refl, (told.1, told.2))) given)
    (λ no_fly rest. through_if (bytes_eq kind (codes "link")) P links pair
    (λ link given. through_map (λ both. pairs.Link both.0 both.1) P (two_numbers (one ∷ other ∷ [])) pair
    (λ both two. let told = two_written (one ∷ other ∷ []) both two in (rw (same_word kind (codes "link") link, told.0) refl, (told.1, told.2))) given) rest) e
  where
    P : Pair → Type 0
    P made = WritesEvent (codes "split" ∷ kind ∷ one ∷ other ∷ []) (events.Split made)

    flies : Option Pair
    flies = option_map (λ both. pairs.Fly both.0 both.1) (two_numbers (one ∷ other ∷ []))

    links : Option Pair
    links = option_map (λ both. pairs.Link both.0 both.1) (two_numbers (one ∷ other ∷ []))

event_written : (key : Keyword) (words : List (List ℕ)) (event : Event) → event_with key words ≡ Some event → WritesEvent (key_text key ∷ words) event
event_written key.Bar words event e =
    through_map (λ both. events.Fact (Bar both.0 both.1)) (WritesEvent (codes "bar" ∷ words)) (two_numbers words) event
    (λ both two. let told = two_written words both two in (rw told.0 refl, (told.1, told.2))) e
event_written key.Must words event e =
    through_map (λ both. events.Fact (Must both.0 both.1)) (WritesEvent (codes "must" ∷ words)) (two_numbers words) event
    (λ both two. let told = two_written words both two in (rw told.0 refl, (told.1, told.2))) e
event_written key.Cut words event e =
    through_map (λ both. events.Fact (Cut both.0 both.1)) (WritesEvent (codes "cut" ∷ words)) (two_numbers words) event
    (λ both two. let told = two_written words both two in (rw told.0 refl, (told.1, told.2))) e
event_written key.Hole words event e =
    through_map events.Hole (WritesEvent (codes "hole" ∷ words)) (one_number words) event (λ a is. let told = one_written words a is in (rw told.0 refl, told.1)) e
event_written key.Stuck words event e =
    through_map events.Stuck (WritesEvent (codes "stuck" ∷ words)) (one_number words) event (λ a is. let told = one_written words a is in (rw told.0 refl, told.1)) e
event_written key.Bound words event e = done_written words (WritesEvent (codes "bound" ∷ words)) events.Bound event (λ none. (rw none refl, tt)) e
event_written key.Dual words event e = dual_written words event e
event_written key.Cover words event e =
    through_map (λ both. events.Cover both.0 both.1) (WritesEvent (codes "cover" ∷ words)) (number_and_value words) event
    (λ both is. let told = number_and_value_written words both is in (rw told.0 refl, (told.1, told.2))) e
event_written key.Label words event e = label_written words event e
event_written key.Split words event e =
    through_map events.Split (WritesEvent (codes "split" ∷ words)) (split_in words) event (λ pair is. split_written words pair is) e
event_written key.Tailcert words event e = absurd (cc e)
event_written key.Lean words event e = absurd (cc e)
event_written key.Plan words event e = absurd (cc e)
event_written key.Fly words event e = absurd (cc e)
event_written key.Claim words event e = absurd (cc e)

abbrev WritesLine : List (List ℕ) → CertLine → Type 0
WritesLine words line = (words ≡ words_of line) × IsLine line

-- a word that writes a version
version_written : (word : List ℕ) (version : ℕ) → version_in word ≡ Some version → (word ≡ decimal version) × IsVersion version
version_written word version e =
    through_either (bytes_eq word (codes "1")) P (Some 1) (if bytes_eq word (codes "2") then Some 2 else None) version
    (λ one given. let is : 1 ≡ version = cc given in rw (← is) (same_word word (codes "1") one ∙ sym (decimal_digit 1 (omega arith)), inl refl))
    (λ other rest. through_if (bytes_eq word (codes "2")) P (Some 2) version
    (λ two given. let is : 2 ≡ version = cc given in rw (← is) (same_word word (codes "2") two ∙ sym (decimal_digit 2 (omega arith)), inr refl)) rest) e
  where
    P : ℕ → Type 0
    P found = (word ≡ decimal found) × IsVersion found

header_written : (words : List (List ℕ)) (line : CertLine) → header_in words ≡ Some line → WritesLine (codes "tailcert" ∷ words) line
header_written [] line e = absurd (cc e)
header_written (v ∷ []) line e = absurd (cc e)
header_written (v ∷ n ∷ []) line e = absurd (cc e)
header_written (v ∷ n ∷ m ∷ []) line e = absurd (cc e)
header_written (v ∷ n ∷ m ∷ c ∷ more ∷ words) line e = absurd (cc e)
header_written (v ∷ n ∷ m ∷ c ∷ []) line e =
    through_then (λ version. option_and_then (λ activities. option_map (λ others. lines.Header version activities others.0 others.1) (two_numbers (m ∷ c ∷ []))) (small n)) P (version_in v) line
    (λ version is_version given.
    through_then (λ activities. option_map (λ others. lines.Header version activities others.0 others.1) (two_numbers (m ∷ c ∷ []))) P (small n) line
    (λ a is_a. through_map (λ others. lines.Header version a others.0 others.1) P (two_numbers (m ∷ c ∷ [])) line
    (λ both two. let kind = version_written v version is_version in let first = small_written n a is_a in let told = two_written (m ∷ c ∷ []) both two in
    (rw (kind.0, first.0, told.0) refl, (kind.1, first.1, told.1, told.2)))) given) e
  where
    P : CertLine → Type 0
    P = WritesLine (codes "tailcert" ∷ v ∷ n ∷ m ∷ c ∷ [])

abbrev WritesClaim : List (List ℕ) → Claim → Type 0
WritesClaim words claim = (words ≡ claim_line_words claim) × IsLineClaim claim

cost_written : (words : List (List ℕ)) (cost : ℕ) → cost_in words ≡ Some cost → (words ≡ decimal cost ∷ []) × IsLineCost cost
cost_written [] cost e = absurd (cc e)
cost_written (word ∷ []) cost e = let told = large_written word cost e in (rw told.0 refl, told.1)
cost_written (word ∷ other ∷ words) cost e = absurd (cc e)

limit_written : (low : ℕ) → IsLineCost low → (word : List ℕ) (claim : Claim) → limit_of low word ≡ Some claim → WritesClaim (codes "claim" ∷ codes "limit" ∷ decimal low ∷ word ∷ []) claim
limit_written low fits word claim e =
    through_either (bytes_eq word (codes "-")) P _ _ claim
    (λ hyphen given. let is : Limit low None ≡ claim = cc given in let text = same_word word (codes "-") hyphen in rw (← is) (rw text refl, fits))
    (λ no_hyphen rest. through_then (λ high. if nat_lt low high then Some (Limit low (Some high)) else None) P (large word) claim
    (λ high is_high given. let told = large_written word high is_high in
    through_if (nat_lt low high) P (Some (Limit low (Some high))) claim
    (λ above made. let is : Limit low (Some high) ≡ claim = cc made in rw (← is) (rw told.0 refl, (told.1, below low high above))) given) rest) e
  where
    P : Claim → Type 0
    P = WritesClaim (codes "claim" ∷ codes "limit" ∷ decimal low ∷ word ∷ [])

    below : (low high : ℕ) → nat_lt low high ≡ true → low < high
    below low high e = grind (arith, nat_tests)

bounds_written : (words : List (List ℕ)) (claim : Claim) → bounds_in words ≡ Some claim → WritesClaim (codes "claim" ∷ codes "limit" ∷ words) claim
bounds_written [] claim e = absurd (cc e)
bounds_written (one ∷ []) claim e = absurd (cc e)
bounds_written (one ∷ other ∷ more ∷ words) claim e = absurd (cc e)
bounds_written (one ∷ other ∷ []) claim e =
    through_then (λ low. limit_of low other) (WritesClaim (codes "claim" ∷ codes "limit" ∷ one ∷ other ∷ [])) (large one) claim
    (λ low is_low given. let told = large_written one low is_low in rw told.0 (limit_written low told.1 other claim given)) e

claim_written : (words : List (List ℕ)) (claim : Claim) → claim_in words ≡ Some claim → WritesClaim (codes "claim" ∷ words) claim
claim_written [] claim e = absurd (cc e)
claim_written (kind ∷ words) claim e =
    through_either (bytes_eq kind (codes "infeasible")) P _ _ claim
    (λ none given. let text = same_word kind (codes "infeasible") none in done_written words P Infeasible claim (λ done. (rw (text, done) refl, tt)) given)
    (λ some rest. through_either (bytes_eq kind (codes "optimal")) P _ _ claim
    (λ optimal given. let text = same_word kind (codes "optimal") optimal in
    through_map Optimal P (cost_in words) claim (λ cost is. let told = cost_written words cost is in (rw (text, told.0) refl, told.1)) given)
    (λ others last. through_if (bytes_eq kind (codes "limit")) P (bounds_in words) claim
    (λ limit given. let text = same_word kind (codes "limit") limit in rw text (bounds_written words claim given)) last) rest) e
  where
    P : Claim → Type 0
    P = WritesClaim (codes "claim" ∷ kind ∷ words)

event_line_written : (key : Keyword) (words : List (List ℕ)) (line : CertLine) → option_map lines.Event (event_with key words) ≡ Some line → WritesLine (key_text key ∷ words) line
event_line_written key words line e =
    through_map lines.Event (WritesLine (key_text key ∷ words)) (event_with key words) line (λ event is. event_written key words event is) e

keyword_written : (key : Keyword) (words : List (List ℕ)) (line : CertLine) → line_with key words ≡ Some line → WritesLine (key_text key ∷ words) line
keyword_written key.Tailcert words line e = header_written words line e
keyword_written key.Lean words line e = done_written words (WritesLine (codes "lean" ∷ words)) lines.Lean line (λ none. (rw none refl, tt)) e
keyword_written key.Plan words line e = done_written words (WritesLine (codes "plan" ∷ words)) lines.Plan line (λ none. (rw none refl, tt)) e
keyword_written key.Fly words line e =
    through_map (λ both. lines.Fly both.0 both.1) (WritesLine (codes "fly" ∷ words)) (two_numbers words) line
    (λ both two. let told = two_written words both two in (rw told.0 refl, (told.1, told.2))) e
keyword_written key.Claim words line e =
    through_map lines.Claim (WritesLine (codes "claim" ∷ words)) (claim_in words) line (λ claim is. claim_written words claim is) e
keyword_written key.Bar words line e = event_line_written key.Bar words line e
keyword_written key.Must words line e = event_line_written key.Must words line e
keyword_written key.Cut words line e = event_line_written key.Cut words line e
keyword_written key.Hole words line e = event_line_written key.Hole words line e
keyword_written key.Stuck words line e = event_line_written key.Stuck words line e
keyword_written key.Bound words line e = event_line_written key.Bound words line e
keyword_written key.Dual words line e = event_line_written key.Dual words line e
keyword_written key.Cover words line e = event_line_written key.Cover words line e
keyword_written key.Label words line e = event_line_written key.Label words line e
keyword_written key.Split words line e = event_line_written key.Split words line e

words_written : (words : List (List ℕ)) (line : CertLine) → line_in words ≡ Some line → WritesLine words line
words_written [] line e = absurd (cc e)
words_written (first ∷ words) line e =
    through_then (λ key. line_with key words) (WritesLine (first ∷ words)) (keyword_of first) line
    (λ key is given. rw (key_written first key is) (keyword_written key words line given)) e

pub line_written : ReadLinesAreSpelled
line_written text line e =
    let told = words_written (parts_of space text) line e in
    (told.1, sym (join_with_byte-slice_split space text) ∙ rw told.0 (sym (spaced_joined (words_of line))))
