use Rattle.std.proofs.Common.{◌≡◌, ◌++◌, take}
use Rattle.label_cells.proofs.block.Block.put_all.Given as goal

abbrev pub invariant-loop-i : goal.invariant-loop-i
invariant-loop-i g l = (l.self.at ≡ l.fn.self.at) × (l.self.alloc ≡ l.fn.self.alloc) × (l.self.room ≡ l.fn.self.room) × (l.self.values ≡ l.fn.self.values ++ take l.i l.row)
