use Rattle.std.proofs.Common.{◌≡◌, arith, ap, ◌∙◌, ◌+◌, ◌*◌}
use Rattle.branch_marks.specs.inside.BitRows.{bit}
use Rattle.branch_marks.proofs.Bits.{none_further, found_here}
use Rattle.branch_marks.proofs.bit_rows.next.Goals as goal

-- a number below the one that is found lies before its word, or before its place there
pub returns-then-found-lt64-clause-none : goal.returns-then-found-lt64-clause-none
returns-then-found-lt64-clause-none c = λ q le lt.
    none_further c.args.words.now c.args.from c.loop-w.w c.loop-w.low c.lowest_from-found.result c.loop-w.invariant.none c.lowest_from-found.ensures.none q le
    (omega (arith, c.min.ensures, lt)) (omega (arith, c.min.ensures, lt))

pub returns-then-found-lt64-clause-found : goal.returns-then-found-lt64-clause-found
returns-then-found-lt64-clause-found c = λ lt.
    let here : c.min.result ≡ 64 * c.loop-w.w + c.lowest_from-found.result = omega (arith, c.min.ensures, lt) in
    ap (λ p. bit c.args.words.now p) here ∙ found_here c.args.words.now c.loop-w.w c.lowest_from-found.result c.if-found-lt64.true (c.lowest_from-found.ensures.found c.if-found-lt64.true)

pub loop-w-preserved : goal.loop-w-preserved
loop-w-preserved c = record {
  low = omega arith;
  begun = omega arith;
  none = λ q le lt. none_further c.args.words.now c.args.from c.loop-w.w c.loop-w.low 64 c.loop-w.invariant.none
      (λ i above below most. c.lowest_from-found.ensures.none i above (omega arith) most) q le (omega (arith, lt)) (omega (arith, lt));
}
