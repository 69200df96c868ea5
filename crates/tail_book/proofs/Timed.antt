-- What rising needs of a book: activities in order of their starts, each of at least a minute, and no turn below 0.
--
-- A book's order is by start first and by id only where starts are equal, so a larger number starts no earlier. The
-- others are ranges that a book keeps, and the turn of a look-up past the end is not below 0 either.
use Rattle.std.proofs.Common.{◌≡◌, ℕ, zero, suc, ℤ, pos, ◌+ℤ◌, ◌≤ℤ◌, ◌<◌, ◌≤◌, inl, inr, true, arith, List, [], ◌∷◌, subst, get_or}
use Rattle.std.proofs.lemmas.Int.{ints}
use Rattle.std.proofs.lemmas.Bool.{and_parts, cases_order, or_cases}
use Rattle.std.proofs.lemmas.List.Elements.{All-head, All-tail}
use Rattle.std.specs.Prelude.{All, int_lt, ◌&&◌}
use Rattle.std.specs.Ordering.{nat_cmp, int_eq, is_lt}
use Rattle.std.specs.Cmp.Lexicographic.{slice_cmp}
use Rattle.tail_book.specs.Seen.{ActivitySeen, AirportSeen, BookSeen}
use Rattle.tail_book.specs.Lookup.{activities, activity_of, start_of, end_of, type_turn, port_turn, no_activity, no_type, no_airport}
use Rattle.tail_book.specs.inside.Sound.{IsKind, IsAirport, IsBook}
use Rattle.tail_book.specs.ActivityOrder.{comes_before}

pub record IsTimed (book : BookSeen) : Type 0 where
  pub ordered : (a b : ℕ) → a ≤ b → b < activities book → start_of book a ≤ℤ start_of book b
  pub lasting : (a : ℕ) → a < activities book → (start_of book a +ℤ pos 1) ≤ℤ end_of book a
  pub type_turns : (t : ℕ) → pos 0 ≤ℤ type_turn book t
  pub port_turns : (p : ℕ) → pos 0 ≤ℤ port_turn book p

-- what holds of each element, and of the default, holds of each look-up
pub everywhere : {A : Type 0} (P Q : A → Type 0) (d : A) → Q d → ((x : A) → P x → Q x) → (xs : List A) → All P xs → (i : ℕ) → Q (get_or xs i d)
everywhere P Q d base step [] all i = base
everywhere P Q d base step (x ∷ xs) all zero = step x (All-head P x xs all)
everywhere P Q d base step (x ∷ xs) all (suc i) = everywhere P Q d base step xs (All-tail P x xs all) i

earlier : (s t : ℤ) → int_lt s t ≡ true → s ≤ℤ t
earlier s t h = grind (arith, ints)

equal : (s t : ℤ) → int_eq s t ≡ true → s ≤ℤ t
equal s t h = grind (arith, ints)

-- what comes before starts no later
before_starts : (a b : ActivitySeen) → comes_before a b ≡ true → a.start ≤ℤ b.start
before_starts a b h = elim (or_cases (int_lt a.start b.start) (int_eq a.start b.start && is_lt (slice_cmp nat_cmp a.id b.id)) h) [
  | inl less ↦ earlier a.start b.start less
  | inr same ↦ equal a.start b.start (and_parts (int_eq a.start b.start) (is_lt (slice_cmp nat_cmp a.id b.id)) same).0
]

in_order : (book : BookSeen) → IsBook book → (a b : ℕ) → a ≤ b → b < activities book → start_of book a ≤ℤ start_of book b
in_order book sound a b le lt = elim (cases_order a b) [
  | inl e ↦ subst (λ (c : ℕ). start_of book a ≤ℤ start_of book c) e (omega (arith, ints))
  | inr o ↦ elim o [
    | inl less ↦ before_starts (activity_of book a) (activity_of book b) (sound.ordered a b no_activity less lt)
    | inr more ↦ absurd (omega (arith, more, le))
  ]
]

pub timed_of : (book : BookSeen) → IsBook book → IsTimed book
timed_of book sound = record {
  ordered = in_order book sound;
  lasting = λ a lt. (sound.activities a no_activity lt).lasts;
  type_turns = λ t. everywhere IsKind (λ k. pos 0 ≤ℤ k.turn) no_type (omega (arith, ints)) (λ k h. h.turn.least) book.rules.kinds sound.rules.kinds t;
  port_turns = λ p. everywhere IsAirport (λ (a : AirportSeen). pos 0 ≤ℤ a.turn) no_airport (omega (arith, ints)) (λ a h. h.turn.least) book.rules.airports sound.rules.airports p;
}
