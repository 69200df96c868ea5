use Rattle.std.proofs.Common.{get_or, ◌/◌, ◌%◌, ◌*◌, ◌^◌, arith, w64}
use Rattle.std.specs.Prelude.{bit_or}
use Rattle.std.proofs.lemmas.Nat.Bits.{bit_at_set_same, bit_at_set_other}
use Rattle.branch_marks.proofs.Bits.{set_bit}
use Rattle.branch_marks.proofs.bit_rows.set.Goals as goal

-- one word has one bit more
pub returns : goal.returns
returns c =
    let word = get_or c.args.words.now (c.args.p / 64) 0 in
    let place = c.args.p % 64 in
    set_bit c.args.words.now c.args.p (bit_or word (1 * 2 ^ place % 18446744073709551616)) c.requires
    (bit_at_set_same w64 word place (omega arith)) (λ i lt ne. bit_at_set_other w64 word place (omega arith) i ne)
