-- A `&` to a block lends its values, and neither the room behind them nor the right to give it back. Assumes `Logic`.
use Prim.Native.Nat.{ℕ}
use mathlib.Core.List.{List, [], ◌++◌}
use lib.ListN.{length}
use seplogic.Ra.Ura.{Ura}
use base.Fraction.{full_share}
use base.Fml.{Fml, Lft, Incl-trans}
use mir.Syntax.{Ty}
use types.Logic.{Logic}
use contract.BorrowLft.{meet_⊑_left}
use denote.RattleType.{RattleType, RowLaws}
use denote.Array.{Array, Array-row_laws}
use denote.ArrayMemory.{Single}
use denote.Param.Laws.{Laws}
use denote.Param.Shared.{copy_shared}
use denote.RawPtr.{Ptr, RawPtr, block_ptr, null_ptr, lies_at, in_block}
use denote.Shares.{Shares, Shares-less, Shares-Array}
use denote.Sharing.{ShrLaws, said}
use denote.SharingLaws.{beside_shr_laws, said_shr_laws}
use denote.Struct.Laws.{field_copy}
use denote.Struct.Lending.{lent_at, lent_at_shr_laws, of_Lends, Lends, Lends-both, Lends-said, Lends-first, Lends-lies, Lends-false}
use mathlib.Core.Path.{sym, subst}
use Rattle.std.specs.Allocator.{block_with_items}
use Rattle.core.specs.declared.alloc.Allocator.{Ghosts}
use Rattle.core.specs.contracts.marker.PhantomData as marker
use Rattle.label_cells.specs.inside.Ownership.{fits, block_lent}
use Rattle.label_cells.specs.contracts.block.Block as C
use Rattle.label_cells.proofs.block.Block.TheLaw.Statement.{statement}

block_lent_laws : (R : RattleType) → RowLaws R → (p : Ptr) (c : ℕ) (xs : List R.Denot) → ShrLaws (block_lent R p c xs)
block_lent_laws R L p c xs =
    let run = Array R (length xs) in
    beside_shr_laws (said (fits R c)) (lent_at run p xs) (said_shr_laws (fits R c) tt) (lent_at_shr_laws run (Array-row_laws R L (length xs)) p xs)

module _ {M : Type 1} {𝓤 : Ura M} (𝓛 : Logic 𝓤) (t : Ty → Ptr → Fml) (R : RattleType) (L : Laws R) (l : Lft) (s : Shares 𝓛 R l) (c : ℕ) (xs : List R.Denot) where
  abbrev run : RattleType
  run = Array R (length xs)

  Lends-values : (p : Ptr) → Lends 𝓛 (in_block p (block_with_items t R p (length xs) c xs)) (lent_at run p xs) l
  Lends-values null_ptr = Lends-false 𝓛 (lent_at run null_ptr xs) l
  Lends-values (block_ptr b o) =
      let p : Ptr = block_ptr b o in
      Lends-first 𝓛 (lies_at run full_share p xs) _ (lent_at run p xs) l (Lends-lies 𝓛 run l p xs (Shares-Array 𝓛 R (subst Single (sym L.one) tt) (length xs) l s xs))

pub shares : (R A : RattleType) (g : Ghosts A.Denot) (L : Laws R) (K : Laws A) → statement R A g L K
shares R A g L K =
    of_Lends (C.struct R A g) (C.the_codes R.Denot A.Denot R.coded A.coded (marker.the_row RawPtr).coded) (C.the_heap R A g) (C.the_lent R A g)
    (λ d p. block_lent_laws R L.shr_laws d.at d.room d.values)
    (copy_shared (marker.the_field RawPtr) (field_copy (marker.the_type RawPtr) tt), tt)
    (λ M 𝓤 𝓛 d p.
    let l = (C.the_row R A g).lives in
    let inner = Incl-trans (meet_⊑_left (R.lives ++ (A.lives ++ [])) _) (meet_⊑_left R.lives (A.lives ++ [])) in
    let held = in_block d.at (block_with_items (g.dealloc_token d.alloc) R d.at (length d.values) d.room d.values) in
    Lends-both 𝓛 (fits R d.room) held (said (fits R d.room)) (lent_at (Array R (length d.values)) d.at d.values) l (Lends-said 𝓛 (fits R d.room) tt l)
    (Lends-values 𝓛 (g.dealloc_token d.alloc) R L l (Shares-less 𝓛 R R.lives l inner (L.shares 𝓛)) d.room d.values d.at))
