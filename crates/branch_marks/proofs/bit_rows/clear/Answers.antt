use Rattle.std.proofs.Common.{get_or, ◌/◌, ◌%◌, ◌*◌, ◌-◌, ◌^◌, arith, w64}
use Rattle.std.specs.Prelude.{bit_and}
use Rattle.std.proofs.lemmas.Nat.Bits.{bit_at_clear_same, bit_at_clear_other}
use Rattle.branch_marks.proofs.Bits.{clear_bit}
use Rattle.branch_marks.proofs.bit_rows.clear.Goals as goal

-- one word has one bit less
pub returns : goal.returns
returns c =
    let word = get_or c.args.words.now (c.args.p / 64) 0 in
    let place = c.args.p % 64 in
    clear_bit c.args.words.now c.args.p (bit_and word (18446744073709551615 - 1 * 2 ^ place % 18446744073709551616)) c.requires
    (bit_at_clear_same w64 word place (omega arith)) (λ i lt ne. bit_at_clear_other w64 word place (omega arith) i lt ne)
