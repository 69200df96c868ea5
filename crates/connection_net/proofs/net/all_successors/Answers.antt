use Rattle.std.proofs.Common.{◌∙◌, ◌≡◌, arith, ap, map, rules, sym}
use Rattle.std.specs.List.{range_with_len}
use Rattle.std.proofs.lemmas.List.FromFn.{map-range_with_len_more}
use Rattle.tail_book.specs.Lookup.{activities}
use Rattle.connection_net.specs.Net.{successors_of, net_of}
use Rattle.connection_net.proofs.net.all_successors.Goals as goal

-- the next row stands last
pub loop-a-preserved : goal.loop-a-preserved
loop-a-preserved c =
    rw (c.in_ok-push.ensures, c.loop-a.invariant, c.deref.ensures.value, c.in_ok-put_successors.ensures)
    (sym (map-range_with_len_more (successors_of c.args.book.now) 0 c.loop-a.a c.loop-a.a (omega arith)))

pub returns : goal.returns
unfolding net_of
returns c =
    let count : c.len-a-end.result ≡ activities c.args.book.now = search rules in
    let all : c.loop-a.a ≡ activities c.args.book.now = omega (arith, count) in
    c.loop-a.invariant ∙ ap (λ n. map (successors_of c.args.book.now) (range_with_len 0 n)) all
