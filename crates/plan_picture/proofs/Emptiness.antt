-- A list whose length is not 0 is not empty: code asks for the length of a text, and definitions whether it is empty.
use Rattle.std.proofs.Common.{◌≡◌, ℕ, false, length, List, [], ◌∷◌, refl}
use Rattle.std.specs.Prelude.{◌==◌}
use Rattle.tail_book.specs.Numbers.{is_empty}

pub not_empty : (xs : List ℕ) → (length xs == 0) ≡ false → is_empty xs ≡ false
not_empty [] long = cc
not_empty (x ∷ xs) long = refl
