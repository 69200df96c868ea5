use Rattle.std.proofs.Common.{◌≡◌, ◌∙◌, Ok, [], ap}
use Rattle.tail_book.specs.Seen.{BookSeen}
use Rattle.cert_checker.specs.Verdict.{verdict}
use Rattle.cert_checker.proofs.checker.judge.Goals as goal

pub returns : goal.returns
returns c =
    let stands = c.in_ok-feed.ensures.stands [] c.in_ok-checker.ensures.stands in
    let found : c.finish.result ≡ Ok (verdict c.feed.new.self.book c.args.text.now) = c.finish.ensures.verdict c.args.text.now stands in
    record { verdict = rw found (ap (λ (book : BookSeen). verdict book c.args.text.now) (c.in_ok-feed.ensures.book ∙ c.in_ok-checker.ensures.book)) }
