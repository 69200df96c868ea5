-- What a block of memory owns and lends, at values of the row R. Below, t is the allocator's token, the right to free a block.
-- For src/block.rt.
use Rattle.std.specs.Prelude.{ℕ, ◌*◌, ◌^◌, List, length}
use Rattle.std.specs.Mem.{type_size}
use Rattle.std.specs.Allocator.{block_with_items}
use base.Fml.{Lft, Fml, fsep, flt}
use mir.Syntax.{Ty}
use denote.RattleType.{RattleType}
use denote.RawPtr.{Ptr, in_block}
use denote.Array.{Array}
use denote.Sharing.{said, beside}
use denote.Struct.Lending.{lent_at}

-- room for c values takes fewer than 2 ^ 63 bytes
abbrev pub fits : RattleType → ℕ → Fml
fits R c = flt (c * type_size R) (2 ^ 63)

-- a block at p, with room for c values, of which the first are xs
abbrev pub block_owned : (Ty → Ptr → Fml) → (R : RattleType) → Ptr → ℕ → List R.Denot → Fml
block_owned t R p c xs = fsep (fits R c) (in_block p (block_with_items t R p (length xs) c xs))

-- a `&` to one shows its values
abbrev pub block_lent : (R : RattleType) → Ptr → ℕ → List R.Denot → Lft → Fml
block_lent R p c xs κ = beside (said (fits R c)) (lent_at (Array R (length xs)) p xs) κ
