-- The two sides of a shortage, and the airports at which they meet. For src/sides.rt.
use Rattle.std.specs.Prelude.{ℕ, List, codes}
use Rattle.tail_book.specs.Seen.{BookSeen}
use Rattle.tail_book.specs.Lookup.{from_port, to_port}
use Rattle.shortage_picture.specs.declared.sides.Side.{Side}
use Rattle.shortage_picture.specs.declared.sides.Side.TheVariants.{Asked, Brought}

-- how a side is called
abbrev pub word_of : Side → List ℕ
word_of Asked = codes "asked"
word_of Brought = codes "brought"

-- an asked activity counts where it starts, and a brought one where it ends
abbrev pub place_of : BookSeen → Side → ℕ → ℕ
place_of book Asked a = from_port book a
place_of book Brought a = to_port book a
