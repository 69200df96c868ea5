use Rattle.std.proofs.Common.{◌≡◌, ◌+◌, ◌/◌, replicate, rules}
use Rattle.branch_marks.proofs.Places.{empty_bits}
use Rattle.branch_marks.proofs.bit_rows.no_words.Goals as goal

pub returns-clause-none : goal.returns-clause-none
returns-clause-none c =
    let words : c.in_ok-vec.field-0.items ≡ replicate (c.args.bits / 64 + 1) 0 = search rules in
    λ p. rw words (empty_bits (c.args.bits / 64 + 1) p)
