use Rattle.std.proofs.Common.{◌≡◌, ap, arith, length}
use Rattle.tail_book.specs.Lookup.{aircraft}
use Rattle.tail_book.specs.Seen.{BookSeen}
use Rattle.cert_checker.proofs.FollowingTold.{hole_tells}
use Rattle.cert_checker.proofs.node_tests.hole.Goals as goal

pub returns : goal.returns
returns c =
    let all : aircraft c.args.book.now ≡ c.len-m.result = omega (arith, ap (λ (b : BookSeen). length b.tails) c.book.view_is) in
    hole_tells c.args.book.now c.args.marks.now.facts c.args.a c.requires.activity c.next_alive.result c.len-m.result
    all c.next_alive.ensures.end c.next_alive.ensures.none c.next_alive.ensures.found
