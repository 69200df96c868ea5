-- What holds of the names of a plan as they are met: their numbers are of the book, no aircraft and no activity is met
-- twice, and no activity is met before the first aircraft. Each name keeps these, the first by how numbers are found and
-- the second by how a name is met.
use Rattle.std.proofs.Common.{◌≡◌, ◌∙◌, refl, ap, arith, ℕ, ◌<◌, Bool, true, false, cond, if◌then◌else◌, nat_lt, List, [], ◌∷◌, ◌++◌, length, Option, Some, None, position, All}
use Rattle.std.specs.Prelude.{⊤, nat_eq}
use Rattle.std.specs.List.{IsDistinct, position_or_len}
use Rattle.std.specs.Str.{bytes_eq}
use Rattle.std.proofs.lemmas.Bool.Decides.{nat_tests}
use Rattle.std.proofs.lemmas.Cmp.{nat_eq_equiv}
use Rattle.std.proofs.lemmas.List.{append-nil, length-map}
use Rattle.std.proofs.lemmas.List.Elements.{All-nil, All-push}
use Rattle.std.proofs.lemmas.Map.Keys.{IsDistinct-push}
use Rattle.tail_book.specs.Seen.{BookSeen, RawLineSeen, RawPlanSeen}
use Rattle.tail_book.specs.Numbers.{contains}
use Rattle.tail_book.specs.Lookup.{activities, aircraft}
use Rattle.plan_audit.specs.declared.met.Met.{Met}
use Rattle.plan_audit.specs.declared.met.Met.TheVariants.{Unknown, Twice, Tail, Activity}
use Rattle.plan_audit.specs.inside.Met.{IsMetOf}
use Rattle.plan_audit.specs.Met.{tails_met, activities_met, as_tail, as_activity, tail_named, activity_named, tail_names, activity_ids, with_ids, with_tail, with_line, with_lines, names_met}
use Rattle.plan_audit.specs.Kept.{next_route}
use Rattle.plan_audit.proofs.MetLemmas.{tails_met-append, activities_met-append}

-- some aircraft is met
abbrev pub HasTail : List Met → Type 0
HasTail [] = ⊥
HasTail (Unknown name ∷ met) = HasTail met
HasTail (Twice name ∷ met) = HasTail met
HasTail (Tail k ∷ met) = ⊤
HasTail (Activity a ∷ met) = HasTail met

pub record IsWellMet (book : BookSeen) (met : List Met) : Type 0 where
  pub of_book : All (IsMetOf book) met
  pub tails : IsDistinct nat_eq (tails_met met)
  pub activities : IsDistinct nat_eq (activities_met met)
  pub led : next_route met ≡ []

-- a number that is found is within the list
position-within : {A : Type 0} (p : A → Bool) (xs : List A) (a : ℕ) → position p xs ≡ Some a → a < length xs
position-within p xs a e = by (position_or_len p xs) (length xs) e
  where
    by : (i n : ℕ) → cond (nat_lt i n) (Some i) None ≡ Some a → a < n
    by i n e = grind (arith, nat_tests)

-- behind an aircraft the first route does not grow
led-stays : (met more : List Met) → HasTail met → next_route (met ++ more) ≡ next_route met
led-stays [] more h = absurd h
led-stays (Unknown name ∷ met) more h = led-stays met more h
led-stays (Twice name ∷ met) more h = led-stays met more h
led-stays (Tail k ∷ met) more h = refl
led-stays (Activity a ∷ met) more h = ap (λ r. a ∷ r) (led-stays met more h)

led-by_other : (met : List Met) (m : Met) → next_route (m ∷ []) ≡ [] → next_route (met ++ m ∷ []) ≡ next_route met
led-by_other [] m h = h
led-by_other (Unknown name ∷ met) m h = led-by_other met m h
led-by_other (Twice name ∷ met) m h = led-by_other met m h
led-by_other (Tail k ∷ met) m h = refl
led-by_other (Activity a ∷ met) m h = ap (λ r. a ∷ r) (led-by_other met m h)

has-tail-stays : (met more : List Met) → HasTail met → HasTail (met ++ more)
has-tail-stays [] more h = absurd h
has-tail-stays (Unknown name ∷ met) more h = has-tail-stays met more h
has-tail-stays (Twice name ∷ met) more h = has-tail-stays met more h
has-tail-stays (Tail k ∷ met) more h = tt
has-tail-stays (Activity a ∷ met) more h = has-tail-stays met more h

has-tail-behind : (met : List Met) (k : ℕ) → HasTail (met ++ Tail k ∷ [])
has-tail-behind [] k = tt
has-tail-behind (Unknown name ∷ met) k = has-tail-behind met k
has-tail-behind (Twice name ∷ met) k = has-tail-behind met k
has-tail-behind (Tail j ∷ met) k = tt
has-tail-behind (Activity a ∷ met) k = has-tail-behind met k

module _ (book : BookSeen) (met : List Met) (well : IsWellMet book met) where
  -- a name that has no number changes nothing
  dropped : (m : Met) → IsMetOf book m → tails_met (m ∷ []) ≡ [] → activities_met (m ∷ []) ≡ [] → next_route (m ∷ []) ≡ [] → IsWellMet book (met ++ m ∷ [])
  dropped m of_book tails flown led = record {
    of_book = All-push (IsMetOf book) met m well.of_book of_book;
    tails = rw (tails_met-append met (m ∷ []), tails, append-nil) well.tails;
    activities = rw (activities_met-append met (m ∷ []), flown, append-nil) well.activities;
    led = led-by_other met m led ∙ well.led;
  }

  new_tail : (k : ℕ) → k < aircraft book → contains (tails_met met) k ≡ false → IsWellMet book (met ++ Tail k ∷ [])
  new_tail k within new = record {
    of_book = All-push (IsMetOf book) met (Tail k) well.of_book within;
    tails = rw (tails_met-append met (Tail k ∷ [])) (IsDistinct-push nat_eq_equiv (tails_met met) k well.tails new);
    activities = rw (activities_met-append met (Tail k ∷ []), append-nil) well.activities;
    led = led-by_other met (Tail k) refl ∙ well.led;
  }

  new_activity : HasTail met → (a : ℕ) → a < activities book → contains (activities_met met) a ≡ false → IsWellMet book (met ++ Activity a ∷ [])
  new_activity begun a within new = record {
    of_book = All-push (IsMetOf book) met (Activity a) well.of_book within;
    tails = rw (tails_met-append met (Activity a ∷ []), append-nil) well.tails;
    activities = rw (activities_met-append met (Activity a ∷ [])) (IsDistinct-push nat_eq_equiv (activities_met met) a well.activities new);
    led = led-stays met (Activity a ∷ []) begun ∙ well.led;
  }

  -- one id more
  one_id : HasTail met → (id : List ℕ) → IsWellMet book (met ++ as_activity met id (activity_named book id) ∷ [])
  one_id begun id = by (activity_named book id) (λ a e. rw length-map at (position-within (bytes_eq id) (activity_ids book) a e))
    where
      either : (a : ℕ) → a < activities book → (t : Bool) → contains (activities_met met) a ≡ t → IsWellMet book (met ++ (if t then Twice id else Activity a) ∷ [])
      either a within true e = dropped (Twice id) tt refl refl refl
      either a within false e = new_activity begun a within e

      by : (number : Option ℕ) → ((a : ℕ) → number ≡ Some a → a < activities book) → IsWellMet book (met ++ as_activity met id number ∷ [])
      by None within = dropped (Unknown id) tt refl refl refl
      by (Some a) within = either a (within a refl) (contains (activities_met met) a) refl

all_ids : (book : BookSeen) (met : List Met) → IsWellMet book met → HasTail met → (ids : List (List ℕ)) → IsWellMet book (with_ids book met ids)
unfolding with_ids
all_ids book met well begun [] = well
all_ids book met well begun (id ∷ ids) =
    all_ids book (met ++ as_activity met id (activity_named book id) ∷ []) (one_id book met well begun id)
    (has-tail-stays met (as_activity met id (activity_named book id) ∷ []) begun) ids

one_line : (book : BookSeen) (met : List Met) → IsWellMet book met → (line : RawLineSeen) → IsWellMet book (with_line book met line)
one_line book met well line = by (tail_named book line.tail) (λ k e. rw length-map at (position-within (bytes_eq line.tail) (tail_names book) k e))
  where
    either : (k : ℕ) → k < aircraft book → (t : Bool) → contains (tails_met met) k ≡ t → IsWellMet book (with_tail book met (if t then Twice line.tail else Tail k) line.ids)
    either k within true e = dropped book met well (Twice line.tail) tt refl refl refl
    either k within false e = all_ids book (met ++ Tail k ∷ []) (new_tail book met well k within e) (has-tail-behind met k) line.ids

    by : (number : Option ℕ) → ((k : ℕ) → number ≡ Some k → k < aircraft book) → IsWellMet book (with_tail book met (as_tail met line.tail number) line.ids)
    by None within = dropped book met well (Unknown line.tail) tt refl refl refl
    by (Some k) within = either k (within k refl) (contains (tails_met met) k) refl

all_lines : (book : BookSeen) (met : List Met) → IsWellMet book met → (lines : List RawLineSeen) → IsWellMet book (with_lines book met lines)
unfolding with_lines
all_lines book met well [] = well
all_lines book met well (line ∷ lines) = all_lines book (with_line book met line) (one_line book met well line) lines

nothing_met : (book : BookSeen) → IsWellMet book []
unfolding IsDistinct
nothing_met book = record { of_book = All-nil (IsMetOf book); tails = tt; activities = tt; led = refl }

-- the names of a plan keep it
pub names_well_met : (book : BookSeen) (raw : RawPlanSeen) → IsWellMet book (names_met book raw)
names_well_met book raw = all_lines book [] (nothing_met book) raw.lines
