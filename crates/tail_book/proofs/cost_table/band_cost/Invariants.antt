use Rattle.std.proofs.Common.{◌≡◌, drop}
use Rattle.tail_book.specs.Cost.{band_cost}
use Rattle.tail_book.proofs.cost_table.band_cost.Given as goal

-- the bands that are left decide
abbrev pub invariant-loop-band : goal.invariant-loop-band
invariant-loop-band l = band_cost l.bands l.minutes ≡ band_cost (drop l.band-index l.bands) l.minutes
