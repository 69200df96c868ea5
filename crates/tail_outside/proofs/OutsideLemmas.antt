-- Pieces one after the other, pieces behind what a file holds, and failures in one of several calls.
--
-- What took a front of a piece took a front of that piece and any other behind it, and what took the whole piece took a
-- front of it. A file that was there and holds a piece behind what it held, or a front of one, has taken that. A count of
-- failures that rose in the last of several calls rose over all of them, since it falls in none.
use Rattle.std.proofs.Common.{◌≡◌, ◌∙◌, ◌++◌, ◌≤◌, [], ap, refl, sym, List, ℕ, Option, Some, None, append_assoc, arith, inl, inr}
use Rattle.std.proofs.lemmas.List.{append-nil}
use Rattle.tail_book.specs.Faults.{HasRisen}
use Rattle.tail_outside.specs.Outside.{Adds, AddsFront, Takes, TakesFront}
use Rattle.tail_outside.specs.Shown.{SinkShown}
use Rattle.tail_outside.specs.inside.Outside.{HoldsFront, with_piece}

-- a front of x is a front of x and y
pub AddsFront-more : (a b : Option (List ℕ)) (x y : List ℕ) → AddsFront a b x → AddsFront a b (x ++ y)
AddsFront-more None b x y h = tt
AddsFront-more (Some old) b x y (taken, rest, same, new) = (taken, rest ++ y, rw same (append_assoc taken rest y), new)

-- the whole piece is a front of it
pub AddsFront-whole : (a b : Option (List ℕ)) (x : List ℕ) → Adds a b x → AddsFront a b x
AddsFront-whole None b x h = tt
AddsFront-whole (Some old) b x h = (x, [], sym (append-nil x), h)

pub TakesFront-whole : (before after : SinkShown) (x : List ℕ) → Takes before after x → TakesFront before after x
TakesFront-whole before after x h = λ lasts. AddsFront-whole before.told after.told x (h lasts)

-- a file that was there and has the piece behind has taken it
pub Adds-held : (old new : Option (List ℕ)) (piece : List ℕ) → new ≡ with_piece old piece → Adds old new piece
Adds-held None new piece is = tt
Adds-held (Some held) new piece is = is

-- one that has a front of it behind has taken that front
pub AddsFront-held : (old new : Option (List ℕ)) (piece : List ℕ) → HoldsFront old new piece → AddsFront old new piece
AddsFront-held None new piece is = tt
AddsFront-held (Some held) new piece (inl same) = ([], piece, refl, same ∙ ap (λ (b : List ℕ). Some b) (sym (append-nil held)))
AddsFront-held (Some held) new piece (inr front) = front

-- a count that rose after calls in which it didn't fall rose over all of them
pub HasRisen-after : (a b c : ℕ) → a ≤ b → HasRisen b c → HasRisen a c
HasRisen-after a b c before (inl more) = inl (omega arith)
HasRisen-after a b c before (inr top) = inr top
