-- What the checks of a record say. A span that passes is from a minute to two days, so the end lies that far behind the
-- start; ground time that passes ends where it starts; and a flight that passes resets nothing, since its list is
-- empty.
use Rattle.std.proofs.Common.{◌≡◌, ℕ, Bool, true, false, List, [], ◌∷◌, length, ◌==◌, ◌+◌, add-one, sym, refl, arith, ℤ, pos, ◌-ℤ◌, ◌+ℤ◌, ◌≤ℤ◌}
use Rattle.std.proofs.lemmas.Bool.Decides.{nat_tests}
use Rattle.std.proofs.lemmas.Bool.{and_parts}
use Rattle.std.proofs.lemmas.Int.{ints}
use Rattle.std.specs.Int.RustNames.{int_le}
use Rattle.std.specs.Cmp.Lexicographic.{same_text}
use Rattle.tail_book.specs.declared.limits.TheConstants.{SPAN_LIMIT}
use Rattle.timetable_reader.specs.Timetable.{is_span, is_whole}

-- on the ground an aircraft stays where it is
pub is_whole-ground : (flight : Bool) (from to : List ℕ) (resets : List (List ℕ)) → is_whole flight from to resets ≡ true → flight ≡ false → from ≡ to
is_whole-ground true from to resets whole e = cc e
is_whole-ground false from to resets whole e = same_text from to (sym whole)

not_empty : (n : ℕ) → (n + 1 == 0) ≡ true → ⊥
not_empty n e = grind (arith, nat_tests)

-- in flight nothing is reset
pub is_whole-in_flight : (flight : Bool) (from to : List ℕ) (resets : List (List ℕ)) → is_whole flight from to resets ≡ true → flight ≡ true → resets ≡ []
is_whole-in_flight false from to resets whole e = cc e
is_whole-in_flight true from to [] whole e = refl
is_whole-in_flight true from to (r ∷ rs) whole e = absurd (not_empty (length rs) (rw add-one whole))

least : (span : ℤ) (start end : ℤ) → span ≡ end -ℤ start → int_le (pos 1) span ≡ true → (start +ℤ pos 1) ≤ℤ end
least span start end is e = grind (arith, ints)

most : (span : ℤ) (start end : ℤ) → span ≡ end -ℤ start → int_le span SPAN_LIMIT ≡ true → end ≤ℤ (start +ℤ SPAN_LIMIT)
most span start end is e = grind (arith, ints)

-- an end comes a minute after its start at least
pub is_span-least : (start end : ℤ) → is_span start end ≡ true → (start +ℤ pos 1) ≤ℤ end
is_span-least start end e = least (end -ℤ start) start end refl (and_parts (int_le (pos 1) (end -ℤ start)) (int_le (end -ℤ start) SPAN_LIMIT) e).0

-- and two days after it at most
pub is_span-most : (start end : ℤ) → is_span start end ≡ true → end ≤ℤ (start +ℤ SPAN_LIMIT)
is_span-most start end e = most (end -ℤ start) start end refl (and_parts (int_le (pos 1) (end -ℤ start)) (int_le (end -ℤ start) SPAN_LIMIT) e).1
