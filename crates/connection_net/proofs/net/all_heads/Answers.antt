use Rattle.std.proofs.Common.{◌∙◌, ◌≡◌, arith, ap, map, rules, sym}
use Rattle.std.specs.List.{range_with_len}
use Rattle.std.proofs.lemmas.List.FromFn.{map-range_with_len_more}
use Rattle.tail_book.specs.Lookup.{aircraft}
use Rattle.connection_net.specs.Net.{heads_of, net_of}
use Rattle.connection_net.proofs.net.all_heads.Goals as goal

-- the next row stands last
pub loop-k-preserved : goal.loop-k-preserved
loop-k-preserved c =
    rw (c.in_ok-push.ensures, c.loop-k.invariant, c.deref.ensures.value, c.in_ok-put_heads.ensures)
    (sym (map-range_with_len_more (heads_of c.args.book.now) 0 c.loop-k.k c.loop-k.k (omega arith)))

pub returns : goal.returns
unfolding net_of
returns c =
    let count : c.len-k-end.result ≡ aircraft c.args.book.now = search rules in
    let all : c.loop-k.k ≡ aircraft c.args.book.now = omega (arith, count) in
    c.loop-k.invariant ∙ ap (λ n. map (heads_of c.args.book.now) (range_with_len 0 n)) all
