-- The spelling of a line is read as that line: its words have no space inside, so the text falls into them again, and
-- each word is read as what it was written for.
use Rattle.std.proofs.Common.{◌≡◌, ◌∙◌, inl, inr, ◌<◌, ◌≤◌, ◌*◌, ◌^◌, ℕ, suc, ℤ, pos, negsuc, Bool, true, false, List, [], ◌∷◌, ◌++◌, Some, None, length, nat_le, nat_lt, ◌==◌, ◌&&◌, get_or, refl, ap, subst, arith, map, length-append}
use Rattle.std.proofs.lemmas.Bool.{and_parts, leb-true}
use Rattle.std.proofs.lemmas.Bool.Decides.{Decides-int_eq, nat_tests}
use Rattle.std.proofs.lemmas.Fmt.{decimal_digit, length-decimal-le}
use Rattle.std.proofs.lemmas.Int.{ints}
use Rattle.std.proofs.lemmas.List.{append-nil}
use Rattle.std.proofs.lemmas.List.Elements.{All-cons, All-append}
use Rattle.std.proofs.lemmas.List.Splits.{slice_split_at, slice_split_none}
use Rattle.std.proofs.lemmas.List.Sums.{AllPass-from_list_all}
use Rattle.std.proofs.lemmas.Slice.Eq.{bytes_eq-Decides}
use Rattle.std.specs.Char.{is_ascii_digit}
use Rattle.std.specs.Fmt.{decimal, signed_decimal}
use Rattle.std.specs.List.{AllByRecursion, join_with_byte, list_all}
use Rattle.std.specs.Ordering.{int_eq}
use Rattle.std.specs.Prelude.{codes, All}
use Rattle.std.specs.Str.{bytes_eq}
use Rattle.tail_book.specs.declared.claim.Claim.{Claim}
use Rattle.tail_book.specs.declared.claim.Claim.TheVariants.{Optimal, Infeasible, Limit}
use Rattle.tail_book.specs.declared.limits.TheConstants.{COUNTER_LIMIT}
use Rattle.tail_text.specs.Parts.{parts_of, space}
use Rattle.branch_marks.specs.Events.{IsLineNumber, IsLineValue, IsLineCounter, IsNotable}
use Rattle.branch_marks.specs.declared.event.Event.{Event}
use Rattle.branch_marks.specs.declared.event.Event.TheVariants as events
use Rattle.branch_marks.specs.declared.fact.Fact.TheVariants.{Bar, Must, Cut, Tie}
use Rattle.branch_marks.specs.declared.fact.Pair.TheVariants.{Fly, Link}
use Rattle.cert_lines.specs.declared.cert_line.CertLine.{CertLine}
use Rattle.cert_lines.specs.declared.cert_line.CertLine.TheVariants as lines
use Rattle.cert_lines.specs.Grammar.{IsLine, IsLineClaim, IsVersion}
use Rattle.cert_lines.specs.OneSpelling.{SpelledLinesAreRead, SpelledLinesAreShort}
use Rattle.cert_lines.specs.Reading.{line_in, version_in}
use Rattle.cert_lines.specs.Spelling.{behind, claim_line_words, event_words, spaced, words_of}
use Rattle.cert_lines.specs.Words.{counters_of, number_and_value, two_numbers}
use Rattle.tail_text.proofs.DecimalLemmas.{decimal-digits}
use Rattle.cert_lines.proofs.Values.{amount_read, large_read, small_read, value_read}

-- a word of a line: each byte comes behind the space, and there are few
record IsWord (word : List ℕ) : Type 0 where
  behind : All (λ c. 33 ≤ c) word
  few : length word ≤ 20

text_word : (word : List ℕ) → (list_all (λ c. nat_le 33 c) word && nat_le (length word) 20) ≡ true → IsWord word
text_word word e =
    let parts = and_parts (list_all (λ c. nat_le 33 c) word) (nat_le (length word) 20) e in
    let each = AllPass-from_list_all (λ c. nat_le 33 c) word parts.0 in
    record { behind = λ k d lt. leb-true 33 (get_or word k d) (each k d lt); few = leb-true (length word) 20 parts.1 }

digit_behind : (c : ℕ) → is_ascii_digit c ≡ true → 33 ≤ c
digit_behind c e = let parts = and_parts (nat_le 48 c) (nat_le c 57) e in omega (arith, leb-true 48 c parts.0)

digits_behind : (n : ℕ) → n < 2 ^ 64 → All (λ c. 33 ≤ c) (decimal n)
digits_behind n small = let each = AllPass-from_list_all is_ascii_digit (decimal n) (decimal-digits n small) in λ k d lt. digit_behind (get_or (decimal n) k d) (each k d lt)

number_word : (n : ℕ) → n < 2 ^ 64 → IsWord (decimal n)
number_word n small = record { behind = digits_behind n small; few = length-decimal-le 20 n (omega arith) (omega (arith, small)) small }

small_word : (n : ℕ) → IsLineNumber n → IsWord (decimal n)
small_word n fits = number_word n (omega (arith, fits))

value_word : (v : ℤ) → IsLineValue v → IsWord (signed_decimal v)
value_word (pos n) fits = number_word n (omega (arith, ints, fits.most))
value_word (negsuc n) fits =
    let small : suc n < 2 ^ 63 = omega (arith, ints, fits.least) in
    let short = length-decimal-le 19 (suc n) (omega arith) (omega (arith, small)) (omega (arith, small)) in
    record { behind = All-cons (λ c. 33 ≤ c) 45 (decimal (suc n)) (omega arith) (digits_behind (suc n) (omega (arith, small))); few = omega (arith, short) }

counter_word : (v : ℤ) → IsLineCounter v → IsWord (signed_decimal v)
counter_word v fits = value_word v (record { least = omega (arith, ints, fits.least); most = fits.most })

-- the counters are words, and as many
first_of_all : (P : ℤ → Type 0) (v : ℤ) (counters : List ℤ) → All P (v ∷ counters) → P v
first_of_all P v counters h = h 0 v (omega arith)

others_of_all : (P : ℤ → Type 0) (v : ℤ) (counters : List ℤ) → All P (v ∷ counters) → All P counters
others_of_all P v counters h = λ k d lt. h (suc k) d (omega (arith, lt))

counter_words : (counters : List ℤ) → All IsLineCounter counters → AllByRecursion IsWord (map signed_decimal counters) × (length (map signed_decimal counters) ≡ length counters)
counter_words [] each = (tt, refl)
counter_words (v ∷ counters) each =
    let rest = counter_words counters (others_of_all IsLineCounter v counters each) in
    ((counter_word v (first_of_all IsLineCounter v counters each), rest.0), rw rest.1 refl)

-- the words of a line: a few, one at least
record AreWords (words : List (List ℕ)) : Type 0 where
  each : AllByRecursion IsWord words
  some : 0 < length words
  most : length words ≤ 9

event_good : (made : Event) → IsNotable made → AreWords (event_words made)
event_good (events.Fact (Bar k a)) h = record { each = (text_word (codes "bar") refl, (small_word k h.0, (small_word a h.1, tt))); some = omega arith; most = omega arith }
event_good (events.Fact (Must k a)) h = record { each = (text_word (codes "must") refl, (small_word k h.0, (small_word a h.1, tt))); some = omega arith; most = omega arith }
event_good (events.Fact (Cut a b)) h = record { each = (text_word (codes "cut") refl, (small_word a h.0, (small_word b h.1, tt))); some = omega arith; most = omega arith }
event_good (events.Fact (Tie a b)) h = absurd h
event_good (events.Split (Fly k a)) h = record { each = (text_word (codes "split") refl, (text_word (codes "fly") refl, (small_word k h.0, (small_word a h.1, tt)))); some = omega arith; most = omega arith }
event_good (events.Split (Link a b)) h = record { each = (text_word (codes "split") refl, (text_word (codes "link") refl, (small_word a h.0, (small_word b h.1, tt)))); some = omega arith; most = omega arith }
event_good (events.Hole a) h = record { each = (text_word (codes "hole") refl, (small_word a h, tt)); some = omega arith; most = omega arith }
event_good (events.Stuck k) h = record { each = (text_word (codes "stuck") refl, (small_word k h, tt)); some = omega arith; most = omega arith }
event_good events.Bound h = record { each = (text_word (codes "bound") refl, tt); some = omega arith; most = omega arith }
event_good (events.Dual a v) h = record { each = (text_word (codes "dual") refl, (small_word a h.0, (value_word v h.1, tt))); some = omega arith; most = omega arith }
event_good (events.Cover k v) h = record { each = (text_word (codes "cover") refl, (small_word k h.0, (value_word v h.1, tt))); some = omega arith; most = omega arith }
event_good (events.Label a v counters) h =
    let rest = counter_words counters h.each in
    record { each = (text_word (codes "label") refl, (small_word a h.activity, (value_word v h.value, rest.0))); some = omega arith; most = omega (arith, rest.1, h.count) }

claim_good : (claim : Claim) → IsLineClaim claim → AreWords (claim_line_words claim)
claim_good (Optimal cost) h = record { each = (text_word (codes "claim") refl, (text_word (codes "optimal") refl, (number_word cost h, tt))); some = omega arith; most = omega arith }
claim_good Infeasible h = record { each = (text_word (codes "claim") refl, (text_word (codes "infeasible") refl, tt)); some = omega arith; most = omega arith }
claim_good (Limit low None) h = record { each = (text_word (codes "claim") refl, (text_word (codes "limit") refl, (number_word low h, (text_word (codes "-") refl, tt)))); some = omega arith; most = omega arith }
claim_good (Limit low (Some high)) h =
    record { each = (text_word (codes "claim") refl, (text_word (codes "limit") refl, (number_word low (omega (arith, h.0, h.1)), (number_word high h.0, tt)))); some = omega arith; most = omega arith }

version_word : (version : ℕ) → IsVersion version → IsWord (decimal version)
version_word version (inl is) = number_word version (omega (arith, is))
version_word version (inr is) = number_word version (omega (arith, is))

words_good : (made : CertLine) → IsLine made → AreWords (words_of made)
words_good (lines.Header version n m c) h =
    record { each = (text_word (codes "tailcert") refl, (version_word version h.0, (small_word n h.1, (small_word m h.2, (small_word c h.3, tt))))); some = omega arith; most = omega arith }
words_good (lines.Event made) h = event_good made h
words_good lines.Lean h = record { each = (text_word (codes "lean") refl, tt); some = omega arith; most = omega arith }
words_good lines.Plan h = record { each = (text_word (codes "plan") refl, tt); some = omega arith; most = omega arith }
words_good (lines.Fly a k) h = record { each = (text_word (codes "fly") refl, (small_word a h.0, (small_word k h.1, tt))); some = omega arith; most = omega arith }
words_good (lines.Claim claim) h = claim_good claim h

-- the spelling is the words, joined by spaces
behind_joined : (word : List ℕ) (words : List (List ℕ)) → word ++ behind words ≡ join_with_byte space (word ∷ words)
behind_joined word [] = append-nil word
behind_joined word (next ∷ words) = ap (λ rest. word ++ (space ∷ rest)) (behind_joined next words)

pub spaced_joined : (words : List (List ℕ)) → spaced words ≡ join_with_byte space words
spaced_joined [] = refl
spaced_joined (word ∷ words) = behind_joined word words

-- no word has a space, so the text falls into its words
no_space : (c : ℕ) → 33 ≤ c → (c == 32) ≡ false
no_space c h = grind (arith, nat_tests)

lacks : (word : List ℕ) → IsWord word → All (λ c. (c == 32) ≡ false) word
lacks word h = λ k d lt. no_space (get_or word k d) (h.behind k d lt)

parts_again : (word : List ℕ) (words : List (List ℕ)) → AllByRecursion IsWord (word ∷ words) → parts_of space (join_with_byte space (word ∷ words)) ≡ word ∷ words
parts_again word [] h = slice_split_none (λ b. b == 32) word (lacks word h.0)
parts_again word (next ∷ words) h =
    slice_split_at (λ b. b == 32) word 32 (join_with_byte space (next ∷ words)) (lacks word h.0) refl ∙ ap (λ (parts : List (List ℕ)). word ∷ parts) (parts_again next words h.1)

words_again : (words : List (List ℕ)) → AreWords words → parts_of space (join_with_byte space words) ≡ words
words_again [] h = absurd (omega (arith, h.some))
words_again (word ∷ words) h = parts_again word words h.each

-- each word is read as what it was written for
two_read : (a b : ℕ) → IsLineNumber a → IsLineNumber b → two_numbers (decimal a ∷ decimal b ∷ []) ≡ Some (a, b)
two_read a b first second = rw (small_read a first, small_read b second) refl

number_and_value_read : (a : ℕ) (v : ℤ) → IsLineNumber a → IsLineValue v → number_and_value (decimal a ∷ signed_decimal v ∷ []) ≡ Some (a, v)
number_and_value_read a v first second = rw (small_read a first, value_read v second) refl

counters_read : (counters : List ℤ) → All IsLineCounter counters → counters_of (map signed_decimal counters) ≡ Some counters
unfolding counters_of
counters_read [] each = refl
counters_read (v ∷ counters) each =
    rw (amount_read v (first_of_all IsLineCounter v counters each), counters_read counters (others_of_all IsLineCounter v counters each)) refl

not_zero : (v : ℤ) → (¬ v ≡ pos 0) → (test : Bool) → int_eq v (pos 0) ≡ test → test ≡ false
not_zero v h true e = absurd (h ((Decides-int_eq v (pos 0)).0 e))
not_zero v h false e = refl

no_hyphen : (word : List ℕ) → list_all is_ascii_digit word ≡ true → (test : Bool) → bytes_eq word (codes "-") ≡ test → test ≡ false
no_hyphen word digits true e =
    let is : word ≡ codes "-" = (bytes_eq-Decides word (codes "-")).0 e in
    let none : list_all is_ascii_digit (codes "-") ≡ true = subst (λ (text : List ℕ). list_all is_ascii_digit text ≡ true) is digits in
    absurd (cc none)
no_hyphen word digits false e = refl

few_counters : (n : ℕ) → n ≤ COUNTER_LIMIT → nat_le n COUNTER_LIMIT ≡ true
few_counters n h = grind (arith, nat_tests)

is_below : (low high : ℕ) → low < high → nat_lt low high ≡ true
is_below low high h = grind (arith, nat_tests)

event_read : (made : Event) → IsNotable made → line_in (event_words made) ≡ Some (lines.Event made)
event_read (events.Fact (Bar k a)) h = rw (two_read k a h.0 h.1) refl
event_read (events.Fact (Must k a)) h = rw (two_read k a h.0 h.1) refl
event_read (events.Fact (Cut a b)) h = rw (two_read a b h.0 h.1) refl
event_read (events.Fact (Tie a b)) h = absurd h
event_read (events.Split (Fly k a)) h = rw (two_read k a h.0 h.1) refl
event_read (events.Split (Link a b)) h = rw (two_read a b h.0 h.1) refl
event_read (events.Hole a) h = rw (small_read a h) refl
event_read (events.Stuck k) h = rw (small_read k h) refl
event_read events.Bound h = refl
event_read (events.Dual a v) h = rw (number_and_value_read a v h.0 h.1, not_zero v h.2 (int_eq v (pos 0)) refl) refl
event_read (events.Cover k v) h = rw (number_and_value_read k v h.0 h.1) refl
event_read (events.Label a v counters) h =
    let many = (counter_words counters h.each).1 in
    rw (small_read a h.activity, value_read v h.value, many, few_counters (length counters) h.count, counters_read counters h.each) refl

claim_read : (claim : Claim) → IsLineClaim claim → line_in (claim_line_words claim) ≡ Some (lines.Claim claim)
claim_read (Optimal cost) h = rw (large_read cost h) refl
claim_read Infeasible h = refl
claim_read (Limit low None) h = rw (large_read low h) refl
claim_read (Limit low (Some high)) h =
    rw (large_read low (omega (arith, h.0, h.1)), no_hyphen (decimal high) (decimal-digits high h.0) (bytes_eq (decimal high) (codes "-")) refl, large_read high h.0, is_below low high h.1) refl

one_is : decimal 1 ≡ codes "1"
one_is = decimal_digit 1 (omega arith)

two_is : decimal 2 ≡ codes "2"
two_is = decimal_digit 2 (omega arith)

version_read : (version : ℕ) → IsVersion version → version_in (decimal version) ≡ Some version
version_read version (inl is) = rw (is, one_is) refl
version_read version (inr is) = rw (is, two_is) refl

words_read : (made : CertLine) → IsLine made → line_in (words_of made) ≡ Some made
words_read (lines.Header version n m c) h = rw (version_read version h.0, small_read n h.1, two_read m c h.2 h.3) refl
words_read (lines.Event made) h = event_read made h
words_read lines.Lean h = refl
words_read lines.Plan h = refl
words_read (lines.Fly a k) h = rw (two_read a k h.0 h.1) refl
words_read (lines.Claim claim) h = claim_read claim h

pub line_read : SpelledLinesAreRead
line_read made h = rw (spaced_joined (words_of made), words_again (words_of made) (words_good made h)) (words_read made h)

-- words and the spaces between them are few bytes, none of them before the space
joined_short : (words : List (List ℕ)) → AllByRecursion IsWord words → length (join_with_byte space words) ≤ 21 * length words
joined_short [] h = omega arith
joined_short (word ∷ []) h = omega (arith, h.0.few)
joined_short (word ∷ next ∷ words) h =
    omega (arith, length-append word (space ∷ join_with_byte space (next ∷ words)), h.0.few, joined_short (next ∷ words) h.1)

behind_space : (word : List ℕ) → IsWord word → All (λ c. 32 ≤ c) word
behind_space word h = λ k d lt. omega (arith, h.behind k d lt)

joined_behind : (words : List (List ℕ)) → AllByRecursion IsWord words → All (λ c. 32 ≤ c) (join_with_byte space words)
joined_behind [] h = λ k d lt. absurd (omega (arith, lt))
joined_behind (word ∷ []) h = behind_space word h.0
joined_behind (word ∷ next ∷ words) h =
    All-append (λ c. 32 ≤ c) word (space ∷ join_with_byte space (next ∷ words)) (behind_space word h.0)
    (All-cons (λ c. 32 ≤ c) space (join_with_byte space (next ∷ words)) (omega arith) (joined_behind (next ∷ words) h.1))

pub line_short : SpelledLinesAreShort
line_short made h =
    let good = words_good made h in
    rw (spaced_joined (words_of made)) (omega (arith, joined_short (words_of made) good.each, good.most), joined_behind (words_of made) good.each)
