use Rattle.std.proofs.Common.{◌≡◌, ◌≤◌, ◌<◌, ◌+◌, ◌∷◌, ◌++◌, [], length, rules, arith, ap}
use Rattle.std.proofs.lemmas.List.Elements.{All-push}
use Rattle.tail_book.specs.declared.raw_plan.RawPlan.{RawPlan}
use Rattle.tail_book.specs.declared.limits.TheConstants.{ACTIVITY_LIMIT, TAIL_LIMIT}
use Rattle.plan_report.proofs.LineLemmas.{stopped-through, turn-bad, turn-end, turn-full, turn-good}
use Rattle.plan_report.proofs.plan_text.lines_from.Goals as goal

-- a line too many decides before it is looked at
pub returns-then-len-ge-TAIL_LIMIT-clause-lines : goal.returns-then-len-ge-TAIL_LIMIT-clause-lines
returns-then-len-ge-TAIL_LIMIT-clause-lines c =
    let full : TAIL_LIMIT ≤ length c.loop-line.lines.items = search rules in
    let here : c.len.result + 2 ≡ length c.loop-line.lines.items + 2 = search rules in
    rw c.refused.ensures (turn-full TAIL_LIMIT _ _ _ c.loop-line.invariant.known _ _ c.in-Some.ensures _ here full)

-- a bad line decides
pub returns-in-Err-clause-lines : goal.returns-in-Err-clause-lines
returns-in-Err-clause-lines c =
    let room : length c.loop-line.lines.items < TAIL_LIMIT = search rules in
    let here : c.len.result + 2 ≡ length c.loop-line.lines.items + 2 = search rules in
    stopped-through (λ line. line) (λ (plan : RawPlan). plan.lines) _ _ c.in-Err.stopped (turn-bad TAIL_LIMIT _ _ _ c.loop-line.invariant.known _ _ c.in-Some.ensures _ here room) c.in-Err.ensures.line

-- a good line stands before what is left
pub loop-line-preserved : goal.loop-line-preserved
loop-line-preserved c =
    let inv = c.loop-line.invariant in
    let room : length c.loop-line.lines.items < TAIL_LIMIT = search rules in
    let here : c.len.result + 2 ≡ length c.loop-line.lines.items + 2 = search rules in
    let items : c.push.new.self.items ≡ c.loop-line.lines.items ++ c.in-Ok.line ∷ [] = rw c.if-is_err.ensures.negation at c.push.ensures.items in
    record {
      known = rw items (turn-good TAIL_LIMIT _ _ _ inv.known _ _ c.in-Some.ensures _ here room _ c.in-Ok.ensures.line);
      few = omega (arith, c.push.ensures.len, ap length items, room);
      small = rw items (All-push (λ line. length line.ids ≤ ACTIVITY_LIMIT) _ _ inv.small c.in-Ok.ensures.few);
    }

pub returns-clause-lines : goal.returns-clause-lines
returns-clause-lines c = turn-end TAIL_LIMIT _ _ _ c.loop-line.invariant.known c.in_default.ensures
