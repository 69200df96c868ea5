-- What is said of a block, and of the fields of a chunk. For src/block.rt and src/chunk.rt.
use Rattle.std.specs.Prelude.{ℕ, ◌≡◌, ◌≤◌, List, length}
use Rattle.label_cells.specs.declared.block.Block.{Block}
use Rattle.label_cells.specs.declared.block.Start.{Start}

module _ {X A : Type 0} where
  -- it begins there, is the allocator's, and has this room and these values
  abbrev pub IsBlock : Start X → A → ℕ → List X → Block X A → Type 0
  IsBlock start alloc room values block = (block.at ≡ start.at) × (block.alloc ≡ alloc) × (block.room ≡ room) × (block.values ≡ values)

  -- the block stays where it was, and has these values
  abbrev pub Becomes : Block X A → Block X A → List X → Type 0
  Becomes old new values = (new.at ≡ old.at) × (new.alloc ≡ old.alloc) × (new.room ≡ old.room) × (new.values ≡ values)

  -- a chunk's pointer and counts are those of its block
  pub record IsChunk (start : Start X) (alloc : A) (room len : ℕ) (block : Block X A) : Type 0 where
    pub place : block.at ≡ start.at
    pub owner : block.alloc ≡ alloc
    pub span : block.room ≡ room
    pub count : length block.values ≡ len
    pub fit : len ≤ room
