use Rattle.std.proofs.Common.{arith}
use Rattle.tail_book.specs.Allowed.{IsAllowed}
use Rattle.tail_book.specs.LegalTests.{is_allowed}
use Rattle.sample_calls.proofs.Found.{found-next}
use Rattle.sample_calls.proofs.fliers.who_may_fly.Goals as goal

-- the next aircraft was looked at
pub loop-k-preserved : goal.loop-k-preserved
loop-k-preserved c =
    found-next (λ j. is_allowed c.args.book.now j c.args.a) c.loop-k.k c.permits.result c.loop-k.list.items _ c.permits.ensures c.in_ok-add_flier.ensures c.loop-k.invariant

-- all of them were
pub returns-clause-exactly : goal.returns-clause-exactly
returns-clause-exactly c = λ k.
    let decides = c.allowed_decides.ensures c.args.book.now k c.args.a in (
      λ has. decides.0 ((c.loop-k.invariant.exactly k).0 has).1,
      λ may. (let allowed : IsAllowed c.args.book.now k c.args.a = may in (c.loop-k.invariant.exactly k).1 (omega (arith, allowed.aircraft), decides.1 allowed)),
    )
