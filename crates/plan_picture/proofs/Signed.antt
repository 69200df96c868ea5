-- A signed number is what its bits stand for: one that fits into 64 bits, put into them and read again, is what it was.
use Rattle.std.proofs.Common.{◌≡◌, ℤ, FitsSigned, of_z, to_z, w64}
use Rattle.std.proofs.lemmas.Int.{to_z-of_z}

pub as_it_was : (z : ℤ) → FitsSigned w64 z → to_z w64 (of_z w64 z) ≡ z
as_it_was z fits = to_z-of_z w64 z fits
