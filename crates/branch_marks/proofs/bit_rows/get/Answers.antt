use Rattle.std.proofs.Common.{ap, get_or, ◌/◌, ◌%◌}
use Rattle.std.specs.Prelude.{nat_eq}
use Rattle.std.proofs.lemmas.Nat.Bits.{shr_and_one}
use Rattle.branch_marks.specs.inside.BitRows.{bit}
use Rattle.branch_marks.proofs.bit_rows.get.Goals as goal

-- the bit that is shifted to the end
pub returns : goal.returns
unfolding bit
returns c = ap (λ b. nat_eq b 1) (shr_and_one (get_or c.args.words.now (c.args.p / 64) 0) (c.args.p % 64))
