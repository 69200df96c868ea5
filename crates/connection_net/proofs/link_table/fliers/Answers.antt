use Rattle.std.proofs.Common.{◌∙◌, ◌≡◌, ap, arith, rules}
use Rattle.std.specs.Prelude.{◌&&◌, nat_lt}
use Rattle.tail_book.specs.Lookup.{aircraft}
use Rattle.tail_book.specs.LegalTests.{is_allowed}
use Rattle.connection_net.proofs.Links.{allowed_is_below}
use Rattle.connection_net.proofs.link_table.fliers.Goals as goal

-- those of the book, and no other may fly anything
pub returns : goal.returns
returns c =
    let count : c.len-k-end.result ≡ aircraft c.args.book.now = search rules in
    let all : c.loop-k.k ≡ aircraft c.args.book.now = omega (arith, count) in
    (λ k. c.loop-k.invariant k ∙ ap (λ n. nat_lt k n && is_allowed c.args.book.now k c.args.a) all ∙ allowed_is_below c.args.book.now k c.args.a)
