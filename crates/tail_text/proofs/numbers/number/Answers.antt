use Rattle.std.proofs.Common.{◌<◌, ◌+◌, ◌*◌, ◌-◌, sym, arith, drop, slice_index}
use Rattle.tail_text.specs.Number.{value_after}
use Rattle.tail_text.proofs.NumberLemmas.{number_of-past, value_after-grows, value_after-drop}
use Rattle.tail_text.proofs.numbers.number.Goals as goal

-- with this digit the number is past the most, and the digits behind it make it no smaller
pub returns-then-next-max-clause-value : goal.returns-then-next-max-clause-value
returns-then-next-max-clause-value c =
    let (fits, same, digits) = c.loop-digit.invariant in
    let more = value_after-drop c.loop-digit.value c.loop-digit.digit-index c.args.text.now c.loop-digit-test.true in
    let grows = value_after-grows (c.loop-digit.value * 10 + (slice_index c.args.text.now c.loop-digit.digit-index - 48)) (drop (c.loop-digit.digit-index + 1) c.args.text.now) in
    let past : c.args.max < value_after 0 c.args.text.now = rw (same, more) (omega (arith, grows)) in
    sym (number_of-past c.args.max c.args.text.now digits past)
