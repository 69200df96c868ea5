-- The numbers in the broken rules of a plan are of the book: those of names are none, those of legs are the legs' own,
-- and activities and counters are counted from 0 on. Each list of a rule is what passes a test, so it keeps what holds
-- of all, and the lists joined have it too.
use Rattle.std.proofs.Common.{ℕ, zero, suc, ℤ, ◌+◌, ◌<◌, ◌≤◌, Bool, true, false, List, [], ◌∷◌, ◌++◌, length, map, arith, not, if◌then◌else◌}
use Rattle.std.proofs.lemmas.List.Elements.{All-append, All-cons, All-head, All-tail, All-same}
use Rattle.std.specs.List.{All, filter, range_with_len}
use Rattle.tail_book.specs.Lookup.{activities}
use Rattle.tail_book.specs.Numbers.{contains, int_le}
use Rattle.tail_book.specs.Seen.{BookSeen, CounterSeen, RawPlanSeen}
use Rattle.tail_book.specs.Allowed.{is_permitted}
use Rattle.plan_audit.specs.Broken.{broken}
use Rattle.plan_audit.specs.inside.Kept.{IsLegOf}
use Rattle.plan_audit.specs.Kept.{legs_met}
use Rattle.plan_audit.specs.inside.Laws.{LegsAreOfBook}
use Rattle.plan_audit.specs.Met.{activities_met, names_met}
use Rattle.plan_audit.specs.Rules.{past_limits, past_limits_at, twice, uncovered, unknown, values_after}
use Rattle.plan_audit.specs.declared.broken.Audit.TheVariants as audit
use Rattle.plan_audit.specs.declared.broken.Broken.{Broken}
use Rattle.plan_audit.specs.declared.broken.Broken.TheVariants as rule
use Rattle.plan_audit.specs.declared.leg.Leg.{Leg}
use Rattle.plan_audit.specs.declared.met.Met.{Met}
use Rattle.plan_audit.specs.declared.met.Met.TheVariants.{Unknown, Twice, Tail, Activity}
use Rattle.plan_report.specs.inside.AuditText.{IsOfBook}
use Rattle.plan_report.specs.inside.Laws.{AuditsCanBeWritten}

-- what is made of the elements that pass a test
filtered : {X Y : Type 0} (P : X → Type 0) (Q : Y → Type 0) (test : X → Bool) (make : X → Y) (made : (x : X) → P x → Q (make x)) (xs : List X) → All P xs → All Q (map make (filter test xs))
filtered P Q test make made [] each = λ i d lt. absurd (omega (arith, lt))
filtered P Q test make made (x ∷ xs) each = by (test x) (made x (All-head P x xs each)) (filtered P Q test make made xs (All-tail P x xs each))
  where
    by : (passes : Bool) → Q (make x) → All Q (map make (filter test xs)) → All Q (map make (if passes then x ∷ filter test xs else filter test xs))
    by true here rest = All-cons Q (make x) (map make (filter test xs)) here rest
    by false here rest = rest

counted : (n from count : ℕ) → from + count ≤ n → All (λ a. a < n) (range_with_len from count)
counted n from zero fits = λ i d lt. absurd (omega (arith, lt))
counted n from (suc count) fits = All-cons (λ a. a < n) from (range_with_len (from + 1) count) (omega (arith, fits)) (counted n (from + 1) count (omega (arith, fits)))

module _ (book : BookSeen) where
  names_unknown : (met : List Met) → All (IsOfBook book) (unknown met)
  names_unknown [] = λ i d lt. absurd (omega (arith, lt))
  names_unknown (Unknown name ∷ met) = All-cons (IsOfBook book) (rule.Unknown name) (unknown met) tt (names_unknown met)
  names_unknown (Twice name ∷ met) = names_unknown met
  names_unknown (Tail k ∷ met) = names_unknown met
  names_unknown (Activity a ∷ met) = names_unknown met

  names_twice : (met : List Met) → All (IsOfBook book) (twice met)
  names_twice [] = λ i d lt. absurd (omega (arith, lt))
  names_twice (Unknown name ∷ met) = names_twice met
  names_twice (Twice name ∷ met) = All-cons (IsOfBook book) (rule.Twice name) (twice met) tt (names_twice met)
  names_twice (Tail k ∷ met) = names_twice met
  names_twice (Activity a ∷ met) = names_twice met

  uncovered_known : (met : List Met) → All (IsOfBook book) (uncovered book met)
  uncovered_known met =
      filtered (λ a. a < activities book) (IsOfBook book) (λ a. not (contains (activities_met met) a)) rule.Uncovered (λ a lt. lt) (range_with_len 0 (activities book)) (counted (activities book) 0 (activities book) (omega arith))

  -- the counters past their limits after a leg
  past_at : (leg : Leg) → IsLegOf book leg → (c : ℕ) (counters : List CounterSeen) (values : List ℤ) → c + length counters ≤ length book.rules.counters → All (IsOfBook book) (past_limits_at leg c counters values)
  past_at leg own c [] values fits = λ i d lt. absurd (omega (arith, lt))
  past_at leg own c (counter ∷ counters) [] fits = λ i d lt. absurd (omega (arith, lt))
  past_at leg own c (counter ∷ counters) (value ∷ values) fits =
      All-append (IsOfBook book) _ (past_limits_at leg (c + 1) counters values) (by (int_le value counter.limit)) (past_at leg own (c + 1) counters values (omega (arith, fits)))
    where
      by : (within : Bool) → All (IsOfBook book) (if within then [] else rule.Counter leg.tail leg.activity c ∷ [])
      by true = λ i d lt. absurd (omega (arith, lt))
      by false = All-cons (IsOfBook book) (rule.Counter leg.tail leg.activity c) [] (own.tail, own.activity, omega (arith, fits)) (λ i d lt. absurd (omega (arith, lt)))

  past_known : (values : List ℤ) (legs : List Leg) → All (IsLegOf book) legs → All (IsOfBook book) (past_limits book values legs)
  past_known values [] own = λ i d lt. absurd (omega (arith, lt))
  past_known values (leg ∷ legs) own =
      All-append (IsOfBook book) (past_limits_at leg 0 book.rules.counters (values_after book leg values)) (past_limits book (values_after book leg values) legs)
      (past_at leg (All-head (IsLegOf book) leg legs own) 0 book.rules.counters (values_after book leg values) (omega arith))
      (past_known (values_after book leg values) legs (All-tail (IsLegOf book) leg legs own))

  both : (xs ys : List Broken) → All (IsOfBook book) xs → All (IsOfBook book) ys → All (IsOfBook book) (xs ++ ys)
  both xs ys = All-append (IsOfBook book) xs ys

  broken_known : LegsAreOfBook → (raw : RawPlanSeen) → All (IsOfBook book) (broken book raw)
  broken_known of_book raw =
      let met = names_met book raw in
      let legs = legs_met met in
      let own = of_book book raw in
      both _ _ (both _ _ (both _ _ (both _ _ (both _ _ (both _ _ (names_unknown met) (names_twice met)) (uncovered_known met))
      (filtered (IsLegOf book) (IsOfBook book) (λ leg. not (is_permitted book leg.tail leg.activity)) (λ leg. rule.NotAllowed leg.tail leg.activity) (λ leg h. (h.tail, h.activity)) legs own))
      (filtered (IsLegOf book) (IsOfBook book) _ (λ leg. rule.Curfew leg.tail leg.activity) (λ leg h. (h.tail, h.activity)) legs own))
      (filtered (IsLegOf book) (IsOfBook book) _ (λ leg. rule.NoLink leg.tail leg.activity) (λ leg h. (h.tail, h.activity)) legs own))
      (past_known _ legs own)

pub can_be_written : LegsAreOfBook → AuditsCanBeWritten
can_be_written of_book book raw (audit.Legal cost) h = tt
can_be_written of_book book raw (audit.Broken rules) h = All-same (IsOfBook book) _ _ h.1 (broken_known book of_book raw)
