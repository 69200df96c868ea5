use Rattle.std.proofs.Common.{◌≡◌, ◌∙◌, ◌++◌, Option, None, sym, subst, rules}
use Rattle.std.proofs.lemmas.Result.{IfOk-weaker}
use Rattle.cert_checker.specs.Judged.{begun_with, judged_from}
use Rattle.cert_checker.specs.Verdict.{take_text}
use Rattle.cert_checker.specs.declared.verdict.Verdict.{Verdict}
use Rattle.cert_checker.specs.inside.Kept.{Answers, state_of}
use Rattle.cert_checker.specs.inside.Pieces.{met_in, onto_rest}
use Rattle.cert_checker.proofs.ByPieces.{fed_all, fed_failing, fed_last, fed_taken}
use Rattle.cert_checker.proofs.checker.feed_parts.Goals as goal

-- the last part, a line that fails, and one that is taken
pub returns-then-is_done-clause-judged : goal.returns-then-is_done-clause-judged
returns-then-is_done-clause-judged c =
    let at = c.loop-part in
    let last = at.invariant.left ∙ fed_last c.args.book.now (state_of at.judging) at.rest.items c.in-Some.part.now at.parts c.take.new.self c.in-Some.ensures (sym c.if-is_done.ensures) in
    IfOk-weaker c.begin_line.result
    (λ (met : Option Verdict). met_in at.judging c.begin_line.new.rest.items met ≡ begun_with (state_of at.judging) (at.rest.items ++ c.in-Some.part.now))
    (λ (met : Option Verdict). met_in at.judging c.begin_line.new.rest.items met ≡ judged_from c.args.book.now (state_of c.args.judging.now) (onto_rest c.args.rest.now.items _))
    (λ met is. is ∙ sym last) c.begin_line.ensures.judged

pub returns-in-Some-2-clause-judged : goal.returns-in-Some-2-clause-judged
returns-in-Some-2-clause-judged c =
    let at = c.loop-part in
    let step = subst (λ (met : Option Verdict). Answers (take_text c.args.book.now (state_of at.judging) (at.rest.items ++ c.in-Some.part.now)) c.end_line.new.judging met)
    c.in-Some-2.is c.in_ok-failure.ensures.step in
    sym (at.invariant.left ∙ fed_failing c.args.book.now (state_of at.judging) at.rest.items c.in-Some.part.now at.parts c.take.new.self c.in-Some-2.failure
    c.in-Some.ensures (sym c.if-is_done.ensures) step)

pub loop-part-preserved : goal.loop-part-preserved
loop-part-preserved c =
    let at = c.loop-part in
    let none : c.in_ok-failure.field-0 ≡ None = search rules in
    let step = subst (λ (met : Option Verdict). Answers (take_text c.args.book.now (state_of at.judging) (at.rest.items ++ c.in-Some.part.now)) c.end_line.new.judging met)
    none c.in_ok-failure.ensures.step in
    record {
      kept = c.in_ok-failure.ensures.kept none;
      left = at.invariant.left ∙ fed_taken c.args.book.now (state_of at.judging) (state_of c.end_line.new.judging) at.rest.items c.end_line.new.rest.items c.in-Some.part.now
          at.parts c.take.new.self c.in-Some.ensures (sym c.if-is_done.ensures) (c.in_ok-failure.ensures.rest none) step;
    }

pub returns-clause-judged : goal.returns-clause-judged
returns-clause-judged c =
    let at = c.loop-part in
    sym (at.invariant.left ∙ fed_all c.args.book.now (state_of at.judging) at.rest.items at.parts c.in_default.ensures.0 at.invariant.kept.short)
