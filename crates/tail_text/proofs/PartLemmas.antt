-- The parts of a text: the first one ends at the first byte of the value that separates them.
--
-- What is behind that byte has the other parts, and a text without such a byte is one part. So whoever cuts one part
-- off and keeps what is behind it has the others still to take. Every text has a part, so none is left only where the
-- last was taken.
use Rattle.std.proofs.Common.{◌≡◌, ℕ, ◌+◌, ◌-◌, ◌<◌, ◌≤◌, Bool, true, false, cond, List, [], ◌∷◌, Option, Some, None, length, length-drop, take, drop, refl, arith, nat_lt, ◌==◌}
use Rattle.std.proofs.lemmas.Bool.Decides.{nat_tests}
use Rattle.std.proofs.lemmas.List.{take_all}
use Rattle.std.proofs.lemmas.List.Splits.{slice_split_first, slice_split_none, length-slice_split}
use Rattle.std.proofs.lemmas.List.Sums.{fails_before_first}
use Rattle.std.specs.List.{position, position_or_len}
use Rattle.std.specs.Borrow.{Bor}
use Rattle.std.specs.Prelude.{is_none}
use Rattle.tail_text.specs.Parts.{parts_of}
use Rattle.tail_text.specs.inside.PartsLeft.{parts_left}

module _ (byte : ℕ) (text : List ℕ) where
  abbrev is_byte : ℕ → Bool
  is_byte b = b == byte

  abbrev first : ℕ
  first = position_or_len is_byte text

  within : (test : Bool) (at : ℕ) → nat_lt first (length text) ≡ test → cond test (Some first) None ≡ Some at → (first ≡ at) × (first < length text)
  within true at is e = (cc e, grind (arith, nat_tests))
  within false at is e = absurd (cc e)

  -- where the byte stands, the first part ends
  pub parts_of-cut : (at : ℕ) → position is_byte text ≡ Some at → parts_of byte text ≡ take at text ∷ parts_of byte (drop (at + 1) text)
  parts_of-cut at e =
      let found = within (nat_lt first (length text)) at refl e in
      rw (← found.0) (slice_split_first is_byte text 0 found.1)

  beyond : (test : Bool) → nat_lt first (length text) ≡ test → cond test (Some first) None ≡ None → length text ≤ first
  beyond true is e = absurd (cc e)
  beyond false is e = grind (arith, nat_tests)

  -- where it stands nowhere, the text is one part
  pub parts_of-one : position is_byte text ≡ None → parts_of byte text ≡ text ∷ []
  parts_of-one e =
      let past = beyond (nat_lt first (length text)) refl e in
      slice_split_none is_byte text (λ k d lt. fails_before_first is_byte text k d (omega (arith, past, lt)))

  pub parts_of-some : 0 < length (parts_of byte text)
  parts_of-some = omega (arith, length-slice_split is_byte text)

some_left : (n : ℕ) → 0 < n → false ≡ (n == 0)
some_left n some = grind (arith, nat_tests)

-- no part is left exactly where no text is
pub parts_left-done : (byte : ℕ) (rest : Option (Bor (List ℕ))) → is_none rest ≡ (length (parts_left byte rest) == 0)
parts_left-done byte None = refl
parts_left-done byte (Some text) = some_left _ (parts_of-some byte text.now)

-- the first part is taken, and the text behind it is left
pub parts_left-cut : (byte : ℕ) (left : Option (Bor (List ℕ))) (text : Bor (List ℕ)) (at : ℕ) → left ≡ Some text → position (is_byte byte text.now) text.now ≡ Some at
    → parts_left byte left ≡ take at text.now ∷ parts_of byte (take (length text.now - (at + 1)) (drop (at + 1) text.now))
parts_left-cut byte left text at is e =
    let whole : take (length text.now - (at + 1)) (drop (at + 1) text.now) ≡ drop (at + 1) text.now = take_all _ _ (omega (arith, length-drop (at + 1) text.now)) in
    rw (is, whole) (parts_of-cut byte text.now at e)

-- the whole text is the one part that is left
pub parts_left-one : (byte : ℕ) (left : Option (Bor (List ℕ))) (text : Bor (List ℕ)) → left ≡ Some text → position (is_byte byte text.now) text.now ≡ None
    → parts_left byte left ≡ text.now ∷ []
parts_left-one byte left text is e = rw is (parts_of-one byte text.now e)
