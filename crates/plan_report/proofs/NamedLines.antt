-- The line of an aircraft is read as its name and the ids of its route.
--
-- A line is a name with a colon, and then a space and an id for each activity. None of these has a space or a newline
-- inside, so the words between spaces are what was written, and by induction on the routes so is line after line.
use Rattle.std.proofs.Common.{◌≡◌, ◌∙◌, ℕ, ◌+◌, ◌-◌, ◌*◌, ◌<◌, ◌≤◌, true, false, List, [], ◌∷◌, ◌++◌, Ok, length, length-append, refl, ap, map, arith, nat_lt, nat_le, slice_index, ◌==◌}
use Rattle.std.proofs.lemmas.Bool.Decides.{nat_tests}
use Rattle.std.proofs.lemmas.List.{append-nil, length-map}
use Rattle.std.proofs.lemmas.List.Elements.{All-append, All-cons, All-head, All-tail}
use Rattle.std.proofs.lemmas.List.Splits.{slice_split_at, slice_split_none}
use Rattle.std.proofs.Math.Seq.{take-append_seam, get_or-append_seam}
use Rattle.std.specs.List.{All, AllByRecursion, list_all}
use Rattle.std.specs.Prelude.{codes}
use Rattle.tail_book.specs.Lookup.{activities, activity_of, aircraft, no_activity, no_tail, tail_of}
use Rattle.tail_book.specs.Name.{is_name, is_name_byte}
use Rattle.tail_book.specs.Seen.{BookSeen}
use Rattle.tail_book.specs.inside.Sound.{IsBook}
use Rattle.plan_report.specs.inside.Laws.{names_from}
use Rattle.plan_report.specs.Lines.{newline}
use Rattle.tail_text.specs.Parts.{parts_of}
use Rattle.plan_report.specs.TextLines.{whole_line}
use Rattle.plan_report.specs.PlanText.{line_in, lines_from, tail_in}
use Rattle.plan_report.specs.Report.{aircraft_line, aircraft_lines, ids_of}
use Rattle.tail_book.specs.declared.limits.TheConstants.{ACTIVITY_LIMIT}
use Rattle.plan_report.proofs.NameBytes.{Lacks, is_name-lacks, is_name-short}
use Rattle.plan_report.proofs.TextLemmas.{ended}

-- a name with a colon behind it is read as the name
tail_in-colon : (place : ℕ) (name : List ℕ) → is_name name ≡ true → tail_in place (name ++ 58 ∷ []) ≡ Ok name
tail_in-colon place name named =
    let long : length (name ++ 58 ∷ []) - 1 ≡ length name = omega (arith, length-append name (58 ∷ [])) in
    let colon : slice_index (name ++ 58 ∷ []) (length name) ≡ 58 = get_or-append_seam name 58 [] 0 in
    rw (long, colon, take-append_seam name (58 ∷ []), named) refl

few : (n limit : ℕ) → n ≤ limit → nat_le n limit ≡ true
few n limit h = grind (arith, nat_tests)

room_left : (n : ℕ) → 0 < n → nat_lt 0 n ≡ true
room_left n h = grind (arith, nat_tests)

module _ (book : BookSeen) (sound : IsBook book) where
  -- an activity of the book
  abbrev Known : ℕ → Type 0
  Known a = a < activities book

  abbrev id_text : ℕ → List ℕ
  id_text a = (activity_of book a).id

  abbrev tail_text : ℕ → List ℕ
  tail_text k = (tail_of book k).name

  id_named : (a : ℕ) → Known a → is_name (id_text a) ≡ true
  id_named a known = (sound.activities a no_activity known).id

  tail_named : (k : ℕ) → k < aircraft book → is_name (tail_text k) ≡ true
  tail_named k lt = (sound.tails k no_tail lt).name

  -- what stands in an aircraft's line before its newline
  abbrev pub line_text : ℕ → List ℕ → List ℕ
  line_text k route = tail_text k ++ codes ":" ++ ids_of book route

  pub aircraft_line-ended : (k : ℕ) (route : List ℕ) → aircraft_line book k route ≡ ended (line_text k route)
  aircraft_line-ended k route = refl

  abbrev pub line_texts : ℕ → List (List ℕ) → List (List ℕ)
  line_texts k [] = []
  line_texts k (route ∷ routes) = line_text k route ∷ line_texts (k + 1) routes

  pub aircraft_lines-ended : (k : ℕ) (routes : List (List ℕ)) → aircraft_lines book k routes ≡ map ended (line_texts k routes)
  aircraft_lines-ended k [] = refl
  aircraft_lines-ended k (route ∷ routes) = rw (aircraft_line-ended k route, aircraft_lines-ended (k + 1) routes) refl

  ids_lack : (byte : ℕ) → is_name_byte byte ≡ false → (32 == byte) ≡ false → (route : List ℕ) → All Known route → Lacks byte (ids_of book route)
  ids_lack byte fails other [] known = λ i d lt. absurd (omega (arith, lt))
  ids_lack byte fails other (a ∷ route) known =
      All-cons (λ c. (c == byte) ≡ false) 32 (id_text a ++ ids_of book route) other
      (All-append (λ c. (c == byte) ≡ false) (id_text a) (ids_of book route)
      (is_name-lacks byte (id_text a) fails (id_named a (All-head Known a route known)))
      (ids_lack byte fails other route (All-tail Known a route known)))

  front_lacks : (byte k : ℕ) → is_name_byte byte ≡ false → (58 == byte) ≡ false → k < aircraft book → Lacks byte (tail_text k ++ 58 ∷ [])
  front_lacks byte k fails other lt =
      All-append (λ c. (c == byte) ≡ false) (tail_text k) (58 ∷ []) (is_name-lacks byte (tail_text k) fails (tail_named k lt))
      (All-cons (λ c. (c == byte) ≡ false) 58 [] other (λ i d within. absurd (omega (arith, within))))

  line_lacks : (k : ℕ) (route : List ℕ) → k < aircraft book → All Known route → Lacks 10 (line_text k route)
  line_lacks k route lt known =
      All-append (λ c. (c == 10) ≡ false) (tail_text k ++ 58 ∷ []) (ids_of book route) (front_lacks 10 k refl refl lt) (ids_lack 10 refl refl route known)

  -- no line has a newline inside
  pub lines_lack : (k : ℕ) (routes : List (List ℕ)) → k + length routes ≤ aircraft book → All (All Known) routes → AllByRecursion (Lacks 10) (line_texts k routes)
  lines_lack k [] fits known = tt
  lines_lack k (route ∷ routes) fits known =
      (line_lacks k route (omega (arith, fits)) (All-head (All Known) route routes known), lines_lack (k + 1) routes (omega (arith, fits)) (All-tail (All Known) route routes known))

  -- the parts are what stands before the first space, and the ids
  ids_parts : (front : List ℕ) (route : List ℕ) → Lacks 32 front → All Known route → parts_of 32 (front ++ ids_of book route) ≡ front ∷ map id_text route
  ids_parts front [] lacks known = rw append-nil (slice_split_none (λ b. b == 32) front lacks)
  ids_parts front (a ∷ route) lacks known =
      slice_split_at (λ b. b == 32) front 32 (id_text a ++ ids_of book route) lacks refl
      ∙ ap (λ (parts : List (List ℕ)). front ∷ parts) (ids_parts (id_text a) route (is_name-lacks 32 (id_text a) refl (id_named a (All-head Known a route known))) (All-tail Known a route known))

  line_parts : (k : ℕ) (route : List ℕ) → k < aircraft book → All Known route → parts_of 32 (line_text k route) ≡ (tail_text k ++ 58 ∷ []) ∷ map id_text route
  line_parts k route lt known = ids_parts (tail_text k ++ 58 ∷ []) route (front_lacks 32 k refl refl lt) known

  ids_named : (route : List ℕ) → All Known route → list_all is_name (map id_text route) ≡ true
  ids_named [] known = refl
  ids_named (a ∷ route) known = rw (id_named a (All-head Known a route known), ids_named route (All-tail Known a route known)) refl

  line_read : (place k : ℕ) (route : List ℕ) → k < aircraft book → All Known route → length route ≤ ACTIVITY_LIMIT
      → line_in place (whole_line (line_text k route)) ≡ Ok (record { tail = tail_text k; ids = map id_text route })
  line_read place k route lt known short =
      let fits : nat_le (length (map id_text route)) ACTIVITY_LIMIT ≡ true = few _ _ (omega (arith, length-map route id_text, short)) in
      rw (line_parts k route lt known, tail_in-colon place (tail_text k) (tail_named k lt), ids_named route known, fits) refl

  -- the lines of the aircraft are read as the names of the plan
  pub lines_read : (place room k : ℕ) (routes : List (List ℕ)) → length routes ≤ room → k + length routes ≤ aircraft book → All (All Known) routes
      → AllByRecursion (λ route. length route ≤ ACTIVITY_LIMIT) routes → lines_from place room (map whole_line (line_texts k routes)) ≡ Ok (names_from book k routes)
  unfolding lines_from
  lines_read place room k [] space fits known short = refl
  lines_read place room k (route ∷ routes) space fits known short =
      let first = line_read place k route (omega (arith, fits)) (All-head (All Known) route routes known) short.0 in
      let rest = lines_read (place + 1) (room - 1) (k + 1) routes (omega (arith, space)) (omega (arith, fits)) (All-tail (All Known) route routes known) short.1 in
      rw (room_left room (omega (arith, space)), first, rest) refl

  -- how long the lines are
  length-ids_of : (route : List ℕ) → All Known route → length (ids_of book route) ≤ 17 * length route
  length-ids_of [] known = omega arith
  length-ids_of (a ∷ route) known =
      omega (arith, length-append (id_text a) (ids_of book route), is_name-short (id_text a) (id_named a (All-head Known a route known)), length-ids_of route (All-tail Known a route known))

  pub length-line : (k : ℕ) (route : List ℕ) → k < aircraft book → All Known route → length (aircraft_line book k route) ≤ 18 + 17 * length route
  length-line k route lt known =
      omega (arith, length-append (tail_text k) (58 ∷ []), length-append (tail_text k ++ 58 ∷ []) (ids_of book route), length-append (line_text k route) newline, is_name-short (tail_text k) (tail_named k lt), length-ids_of route known)
