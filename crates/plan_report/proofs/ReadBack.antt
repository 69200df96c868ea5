-- The report of a plan is read as the names of the plan: it is small enough, it begins with no byte order mark, its first
-- line says what was found, and each later line is read as the names of one route.
use Rattle.std.proofs.Common.{◌≡◌, ◌∙◌, ℕ, ◌+◌, ◌*◌, ◌^◌, ◌<◌, ◌≤◌, true, List, [], ◌∷◌, ◌++◌, Ok, false, length, length-append, refl, ap, map, arith, nat_le, not}
use Rattle.std.proofs.lemmas.Bool.Decides.{nat_tests}
use Rattle.std.proofs.lemmas.Fmt.{length-decimal-le}
use Rattle.std.proofs.lemmas.List.Elements.{All-append, All-head, All-tail}
use Rattle.std.proofs.lemmas.List.Splits.{slice_split_at, slice_split_none}
use Rattle.std.specs.Char.{is_ascii_digit}
use Rattle.std.specs.Fmt.{decimal}
use Rattle.std.specs.List.{All, AllByRecursion, flat_map, list_all}
use Rattle.std.specs.Prelude.{codes, ◌==◌}
use Rattle.tail_book.specs.Lookup.{activities, aircraft}
use Rattle.tail_book.specs.Seen.{BookSeen}
use Rattle.tail_book.specs.inside.Sound.{IsBook}
use Rattle.tail_book.specs.declared.outcome.Outcome.TheVariants as outcome
use Rattle.plan_report.specs.inside.Laws.{HasNoRepeats, RepairedIsReadBack, ReportIsReadBack, names_from, names_of_plan}
use Rattle.plan_report.specs.Lines.{newline, text_of}
use Rattle.tail_text.specs.Parts.{parts_of}
use Rattle.plan_report.specs.TextLines.{lines_of, whole_line}
use Rattle.plan_report.specs.PlanText.{is_cost, is_heading, lines_from, plan_in, without_mark}
use Rattle.plan_report.specs.inside.Report.{IsPlanFor}
use Rattle.plan_report.specs.Report.{aircraft_line, aircraft_lines}
use Rattle.tail_book.specs.declared.limits.TheConstants.{ACTIVITY_LIMIT, TAIL_LIMIT}
use Rattle.tail_text.specs.declared.refusal.TheConstants.{SIZE_LIMIT}
use Rattle.plan_report.proofs.CountLemmas.{at_most}
use Rattle.tail_text.proofs.DecimalLemmas.{decimal-digits, number_of-decimal}
use Rattle.plan_report.proofs.NameBytes.{Lacks, lacks}
use Rattle.plan_report.proofs.NamedLines.{aircraft_lines-ended, length-line, line_texts, lines_lack, lines_read}
use Rattle.plan_report.proofs.TextLemmas.{ended, lines_of-text}

-- all activities of a plan, route by route
abbrev flown : List (List ℕ) → List ℕ
flown plan = flat_map (λ route. route) plan

flown-below : (n : ℕ) (plan : List (List ℕ)) → All (All (λ a. a < n)) plan → All (λ a. a < n) (flown plan)
flown-below n [] below = λ i d lt. absurd (omega (arith, lt))
flown-below n (route ∷ plan) below =
    All-append (λ a. a < n) route (flown plan) (All-head (All (λ a. a < n)) route plan below) (flown-below n plan (All-tail (All (λ a. a < n)) route plan below))

routes_short : (n : ℕ) (plan : List (List ℕ)) → length (flown plan) ≤ n → AllByRecursion (λ route. length route ≤ n) plan
routes_short n [] h = tt
routes_short n (route ∷ plan) h =
    let whole : length (flown (route ∷ plan)) ≡ length route + length (flown plan) = length-append route (flown plan) in
    (omega (arith, h, whole), routes_short n plan (omega (arith, h, whole)))

fits_in : (n limit : ℕ) → n ≤ limit → nat_le n limit ≡ true
fits_in n limit h = grind (arith, nat_tests)

module _ (book : BookSeen) (sound : IsBook book) where
  lines_length : (k : ℕ) (routes : List (List ℕ)) → k + length routes ≤ aircraft book → All (All (λ a. a < activities book)) routes
      → length (text_of (aircraft_lines book k routes)) ≤ 18 * length routes + 17 * length (flown routes)
  lines_length k [] fits known = omega arith
  lines_length k (route ∷ routes) fits known =
      omega (
        arith,
        length-append (aircraft_line book k route) (text_of (aircraft_lines book (k + 1) routes)),
        length-append route (flown routes),
        length-line book sound k route (omega (arith, fits)) (All-head (All (λ a. a < activities book)) route routes known),
        lines_length (k + 1) routes (omega (arith, fits)) (All-tail (All (λ a. a < activities book)) route routes known),
      )

  -- what is written under a first line that says what was found
  read_under : (first : List ℕ) (plan : List (List ℕ)) → length first ≤ 60 → Lacks 10 first → is_heading (parts_of 32 first) ≡ true
      → without_mark (ended first ++ text_of (aircraft_lines book 0 plan)) ≡ ended first ++ text_of (aircraft_lines book 0 plan)
      → IsPlanFor book plan → HasNoRepeats book plan → plan_in (ended first ++ text_of (aircraft_lines book 0 plan)) ≡ Ok (names_of_plan book plan)
  read_under first plan short clean heading unmarked known once =
      let few : length (flown plan) ≤ activities book = at_most (activities book) (flown plan) (flown-below (activities book) plan known.activities) once in
      let all : 0 + length plan ≤ aircraft book = omega (arith, known.one_each) in
      let size : nat_le (length (ended first ++ text_of (aircraft_lines book 0 plan))) SIZE_LIMIT ≡ true =
      fits_in _ _ (omega (arith, length-append (ended first) (text_of (aircraft_lines book 0 plan)), length-append first newline, short, lines_length 0 plan all known.activities, few, known.one_each, sound.few_activities, sound.few_tails)) in
      let texts : lines_of (ended first ++ text_of (aircraft_lines book 0 plan)) ≡ map whole_line (first ∷ line_texts book sound 0 plan) =
      rw (aircraft_lines-ended book sound 0 plan) (lines_of-text (first ∷ line_texts book sound 0 plan) (clean, lines_lack book sound 0 plan all known.activities)) in
      let lines : lines_from 2 TAIL_LIMIT (map whole_line (line_texts book sound 0 plan)) ≡ Ok (names_from book 0 plan) =
      lines_read book sound 2 TAIL_LIMIT 0 plan (omega (arith, known.one_each, sound.few_tails)) all known.activities (routes_short ACTIVITY_LIMIT plan (omega (arith, few, sound.few_activities))) in
      rw (size, unmarked, texts, heading, lines) refl

-- a number has no space and no newline
decimal_lacks : (byte n : ℕ) → is_ascii_digit byte ≡ false → n < 2 ^ 64 → Lacks byte (decimal n)
decimal_lacks byte n fails small = lacks is_ascii_digit byte (decimal n) fails (decimal-digits n small)

decimal_short : (n : ℕ) → n < 2 ^ 64 → length (decimal n) ≤ 20
decimal_short n small = length-decimal-le 20 n (omega arith) (omega (arith, small)) small

-- the parts of the first lines
optimal_parts : (cost : ℕ) → cost < 2 ^ 64 → is_heading (parts_of 32 (codes "optimal " ++ decimal cost)) ≡ true
optimal_parts cost small =
    rw (slice_split_none (λ b. b == 32) (decimal cost) (decimal_lacks 32 cost refl small), number_of-decimal 18_446_744_073_709_551_615 cost small (omega (arith, small))) refl

costs_parts : (low high : ℕ) → low < 2 ^ 64 → high < 2 ^ 64 → parts_of 32 (decimal low ++ 32 ∷ decimal high) ≡ decimal low ∷ decimal high ∷ []
costs_parts low high small_low small_high =
    slice_split_at (λ b. b == 32) (decimal low) 32 (decimal high) (decimal_lacks 32 low refl small_low) refl
    ∙ ap (λ (parts : List (List ℕ)). decimal low ∷ parts) (slice_split_none (λ b. b == 32) (decimal high) (decimal_lacks 32 high refl small_high))

-- `repaired` and two numbers; the parts of what stands behind `repaired` are the numbers
repaired_then : (numbers : List ℕ) (moves cost : ℕ) → parts_of 32 numbers ≡ decimal moves ∷ decimal cost ∷ [] → is_cost (decimal moves) ≡ true → is_cost (decimal cost) ≡ true
    → is_heading (parts_of 32 (codes "repaired " ++ numbers)) ≡ true
repaired_then numbers moves cost parts is_moves is_number = rw (parts, is_moves, is_number) refl

-- `limit` and two costs; the parts of what stands behind `limit` are the costs
limit_then : (costs : List ℕ) (low high : ℕ) → parts_of 32 costs ≡ decimal low ∷ decimal high ∷ [] → is_cost (decimal low) ≡ true → is_cost (decimal high) ≡ true
    → is_heading (parts_of 32 (codes "limit " ++ costs)) ≡ true
limit_then costs low high parts is_low is_high = rw (parts, is_low, is_high) refl

is_cost-decimal : (n : ℕ) → n < 2 ^ 64 → is_cost (decimal n) ≡ true
is_cost-decimal n small = rw (number_of-decimal 18_446_744_073_709_551_615 n small (omega (arith, small))) refl

-- the first lines have no newline inside
text_lacks : (text : List ℕ) → list_all (λ c. not (c == 10)) text ≡ true → Lacks 10 text
text_lacks text passes = lacks (λ c. not (c == 10)) 10 text refl passes

joined_lack : (xs ys : List ℕ) → Lacks 10 xs → Lacks 10 ys → Lacks 10 (xs ++ ys)
joined_lack xs ys = All-append (λ c. (c == 10) ≡ false) xs ys

-- what stands in the first line of a limit, behind its first part
abbrev costs : ℕ → ℕ → List ℕ
costs low high = decimal low ++ 32 ∷ decimal high

costs_lack : (low high : ℕ) → low < 2 ^ 64 → high < 2 ^ 64 → Lacks 10 (costs low high)
costs_lack low high small_low small_high =
    joined_lack (decimal low) (32 ∷ decimal high) (decimal_lacks 10 low refl small_low)
    (joined_lack (codes " ") (decimal high) (text_lacks (codes " ") refl) (decimal_lacks 10 high refl small_high))

costs_short : (low high : ℕ) → low < 2 ^ 64 → high < 2 ^ 64 → length (costs low high) ≤ 41
costs_short low high small_low small_high =
    omega (arith, length-append (decimal low) (32 ∷ decimal high), decimal_short low small_low, decimal_short high small_high)

pub read_back : ReportIsReadBack
read_back book sound (outcome.Optimal plan cost) known = λ once small.
    read_under book sound (codes "optimal " ++ decimal cost) plan (omega (arith, length-append (codes "optimal ") (decimal cost), decimal_short cost small))
    (joined_lack (codes "optimal ") (decimal cost) (text_lacks (codes "optimal ") refl) (decimal_lacks 10 cost refl small)) (optimal_parts cost small) refl known once
read_back book sound outcome.Infeasible known = tt
read_back book sound (outcome.Between plan low high nodes) known = λ once small_low small_high.
    read_under book sound (codes "limit " ++ costs low high) plan (omega (arith, length-append (codes "limit ") (costs low high), costs_short low high small_low small_high))
    (joined_lack (codes "limit ") (costs low high) (text_lacks (codes "limit ") refl) (costs_lack low high small_low small_high))
    (limit_then (costs low high) low high (costs_parts low high small_low small_high) (is_cost-decimal low small_low) (is_cost-decimal high small_high)) refl known once
read_back book sound (outcome.Above low nodes) known = tt

pub repaired_back : RepairedIsReadBack
repaired_back book sound plan moves cost known once small_moves small_cost =
    read_under book sound (codes "repaired " ++ costs moves cost) plan (omega (arith, length-append (codes "repaired ") (costs moves cost), costs_short moves cost small_moves small_cost))
    (joined_lack (codes "repaired ") (costs moves cost) (text_lacks (codes "repaired ") refl) (costs_lack moves cost small_moves small_cost))
    (repaired_then (costs moves cost) moves cost (costs_parts moves cost small_moves small_cost) (is_cost-decimal moves small_moves) (is_cost-decimal cost small_cost)) refl known once
