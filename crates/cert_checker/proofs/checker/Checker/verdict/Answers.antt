use Rattle.std.proofs.Common.{◌≡◌, ◌∙◌, Ok, Err, ap, refl, rules, sym}
use Rattle.cert_checker.specs.Verdict.{end_with}
use Rattle.cert_checker.specs.declared.verdict.Verdict.{Verdict}
use Rattle.cert_checker.specs.inside.Kept.{state_of}
use Rattle.cert_checker.proofs.ByPieces.{ends_so}
use Rattle.cert_checker.proofs.checker.Checker.verdict.Goals as goal

pub returns-in-Some-clause-verdict : goal.returns-in-Some-clause-verdict
returns-in-Some-clause-verdict c text stands =
    let met : c.args.self.now.judged ≡ Err c.in-Some.failure = search rules in
    ap (λ (v : Verdict). Ok v) (ends_so c.args.self.now.book (Err c.in-Some.failure) text c.in-Some.failure (sym met ∙ stands.1) refl)

pub returns-in-None-clause-verdict : goal.returns-in-None-clause-verdict
returns-in-None-clause-verdict c text stands =
    let inside = c.self.inside in
    let met : c.args.self.now.judged ≡ Ok (record { state = state_of inside.judging; rest = inside.rest.items }) = search rules in
    let found : c.end.result ≡ end_with (state_of inside.judging) inside.rest.items = search rules in
    ap (λ (v : Verdict). Ok v) (ends_so c.args.self.now.book (Ok (record { state = state_of inside.judging; rest = inside.rest.items })) text c.end.result (sym met ∙ stands.1) found)
