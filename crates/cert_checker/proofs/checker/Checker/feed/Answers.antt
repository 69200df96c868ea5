use Rattle.std.proofs.Common.{◌≡◌, ◌∙◌, Ok, Err, false, rules, sym}
use Rattle.cert_checker.specs.inside.Kept.{state_of}
use Rattle.cert_checker.proofs.ByPieces.{failures_stay, stands_on}
use Rattle.cert_checker.proofs.checker.Checker.feed.Goals as goal

-- a failure stays
pub returns-in-Some-clause-stands : goal.returns-in-Some-clause-stands
returns-in-Some-clause-stands c text stands =
    let fails : c.args.self.now.judged ≡ Err c.in-Some.failure = search rules in (
      stands.0,
      fails ∙ sym (failures_stay c.read_lines_are_spelled.ensures c.spelled_lines_are_short.ensures c.args.self.now.book text c.args.piece.now c.in-Some.failure (sym stands.1 ∙ fails)),
    )

-- and what is kept goes on
pub returns-in-Ok-clause-stands : goal.returns-in-Ok-clause-stands
returns-in-Ok-clause-stands c text stands =
    let inside = c.self.inside in
    let book : c.args.self.now.book ≡ inside.book.now = search rules in
    let was : c.args.self.now.judged ≡ Ok (record { state = state_of inside.judging; rest = inside.rest.items }) = search rules in
    let can : inside.wanting ≡ false = search rules in (
      can,
      stands_on c.read_lines_are_spelled.ensures c.spelled_lines_are_short.ensures inside.book.now
          (Ok (record { state = state_of inside.judging; rest = inside.rest.items })) _ text c.args.piece.now c.in-Ok.ensures.judged
          (sym was ∙ (rw book at stands.1)),
    )
