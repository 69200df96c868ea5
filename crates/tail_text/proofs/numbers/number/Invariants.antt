use Rattle.std.proofs.Common.{◌≡◌, ◌≤◌, drop, true}
use Rattle.tail_text.specs.Number.{value_after, is_numeral}
use Rattle.tail_text.proofs.numbers.number.Given as goal

-- what is left of the digits decides the number
abbrev pub invariant-loop-digit : goal.invariant-loop-digit
invariant-loop-digit l = (l.value ≤ l.max)
    × (value_after 0 l.text ≡ value_after l.value (drop l.digit-index l.text))
    × (is_numeral l.text ≡ true)
