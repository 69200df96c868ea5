-- A file that is read only up to one byte more than it may have reads as the whole of it. Where that cuts nothing, it
-- is the whole; where it cuts, both are too big, and the refusal looks at nothing else. So three tables that are read
-- alike, one after the other, give the same book or the same refusal.
use Rattle.std.proofs.Common.{◌≡◌, ◌∙◌, ℕ, ◌+◌, ◌<◌, ◌≤◌, ◌⊎◌, inl, inr, false, arith, List, length, take, refl, ap, sym, length-take-le}
use Rattle.std.proofs.lemmas.Bool.Decides.{nat_tests}
use Rattle.std.proofs.lemmas.List.{take_all}
use Rattle.std.specs.Prelude.{nat_le, Result, Err}
use Rattle.tail_text.specs.Checks.{look}
use Rattle.tail_text.specs.Reading.{refusal_at}
use Rattle.tail_text.specs.declared.codes.TheConstants.{TOO_BIG}
use Rattle.tail_text.specs.declared.refusal.Refusal.{Refusal}
use Rattle.table_records.specs.Table.{Layout, table_of}
use Rattle.tail_text.specs.declared.refusal.TheConstants.{SIZE_LIMIT}
use Rattle.timetable_reader.specs.Activity.{RawActivitySeen}
use Rattle.timetable_reader.specs.Timetable.{timetable as timetable_layout}
use Rattle.fleet_rules.specs.Entries.{refused}
use Rattle.fleet_rules.specs.Fleet.{fleet as fleet_layout}
use Rattle.fleet_rules.specs.RawRules.{RawRulesSeen}
use Rattle.fleet_rules.specs.RulesTable.{rules_of}
use Rattle.fleet_rules.specs.Tail.{RawTailSeen}
use Rattle.book_maker.specs.Made.{book_of, made_of}
use Rattle.run_frame.specs.inside.TableFiles.{front}
use Rattle.run_frame.specs.Tables.{TablesSeen}
use Rattle.run_frame.specs.declared.table_files.TheConstants.{READ_LIMIT}

too_big : (n size : ℕ) → size < n → nat_le n size ≡ false
too_big n size h = grind (arith, nat_tests)

split : (n limit : ℕ) → (n ≤ limit) ⊎ (limit < n)
split n limit = grind arith

-- what is refused where it is too big reads the same of a front that is too big as well
limited : {A : Type 0} (read : List ℕ → Result A Refusal) (why : Refusal) → ((bytes : List ℕ) → nat_le (length bytes) SIZE_LIMIT ≡ false → read bytes ≡ Err why)
    → (bytes : List ℕ) (limit : ℕ) → limit ≡ SIZE_LIMIT + 1 → read (take limit bytes) ≡ read bytes
limited read why refuses bytes limit one_more = elim (split (length bytes) limit) [
  | inl short ↦ ap read (take_all limit bytes short)
  | inr long ↦
      let fits : limit ≤ length bytes = omega arith in
      let cut : length (take limit bytes) ≡ limit = length-take-le limit bytes fits in
      let first : nat_le (length (take limit bytes)) SIZE_LIMIT ≡ false = too_big (length (take limit bytes)) SIZE_LIMIT (omega (arith, cut, one_more)) in
      let second : nat_le (length bytes) SIZE_LIMIT ≡ false = too_big (length bytes) SIZE_LIMIT (omega (arith, one_more, long)) in
      refuses (take limit bytes) first ∙ sym (refuses bytes second)
]

-- the same of a front that a run reads
pub front-limited : {A : Type 0} (read : List ℕ → Result A Refusal) (why : Refusal) → ((bytes : List ℕ) → nat_le (length bytes) SIZE_LIMIT ≡ false → read bytes ≡ Err why)
    → (bytes : List ℕ) → read (front bytes) ≡ read bytes
front-limited read why refuses bytes = limited read why refuses bytes READ_LIMIT (omega arith)

pub table_of-front : {A : Type 0} (layout : Layout A) (bytes : List ℕ) → table_of layout (front bytes) ≡ table_of layout bytes
table_of-front layout bytes = front-limited (table_of layout) (refusal_at TOO_BIG layout.table 0) (λ b big. rw big refl) bytes

pub rules_of-front : (bytes : List ℕ) → rules_of (front bytes) ≡ rules_of bytes
rules_of-front bytes = front-limited rules_of (refused TOO_BIG 0) (λ b big. rw big refl) bytes

-- three tables that are read alike, one after the other, give the same to what follows
pub tables-same : {A : Type 0} (next : List RawActivitySeen → List RawTailSeen → RawRulesSeen → Result A Refusal) (tables : TablesSeen)
    → look (table_of timetable_layout (front tables.timetable)) (λ activities. look (table_of fleet_layout (front tables.fleet)) (λ tails. look (rules_of (front tables.rules)) (λ rules. next activities tails rules)))
    ≡ look (table_of timetable_layout tables.timetable) (λ activities. look (table_of fleet_layout tables.fleet) (λ tails. look (rules_of tables.rules) (λ rules. next activities tails rules)))
tables-same {A} next tables = alike (table_of-front timetable_layout tables.timetable) (table_of-front fleet_layout tables.fleet) (rules_of-front tables.rules)
  where
    alike : {a b : Result (List RawActivitySeen) Refusal} {s t : Result (List RawTailSeen) Refusal} {q r : Result RawRulesSeen Refusal} → a ≡ b → s ≡ t → q ≡ r
        → look a (λ activities. look s (λ tails. look q (λ rules. next activities tails rules))) ≡ look b (λ activities. look t (λ tails. look r (λ rules. next activities tails rules)))
    alike same_a same_t same_r = rw (same_a, same_t, same_r) refl

-- the book of the fronts is that of the whole tables
pub book_of-fronts : (tables : TablesSeen) → book_of (front tables.timetable) (front tables.fleet) (front tables.rules) ≡ book_of tables.timetable tables.fleet tables.rules
unfolding book_of
book_of-fronts tables = tables-same made_of tables
