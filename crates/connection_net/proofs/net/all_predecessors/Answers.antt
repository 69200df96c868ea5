use Rattle.std.proofs.Common.{◌∙◌, ◌≡◌, arith, ap, map, rules, sym}
use Rattle.std.specs.List.{range_with_len}
use Rattle.std.proofs.lemmas.List.FromFn.{map-range_with_len_more}
use Rattle.tail_book.specs.Lookup.{activities}
use Rattle.connection_net.specs.Net.{predecessors_of, net_of}
use Rattle.connection_net.proofs.net.all_predecessors.Goals as goal

-- the next row stands last
pub loop-b-preserved : goal.loop-b-preserved
loop-b-preserved c =
    rw (c.in_ok-push.ensures, c.loop-b.invariant, c.deref.ensures.value, c.in_ok-put_predecessors.ensures)
    (sym (map-range_with_len_more (predecessors_of c.args.book.now) 0 c.loop-b.b c.loop-b.b (omega arith)))

pub returns : goal.returns
unfolding net_of
returns c =
    let count : c.len-b-end.result ≡ activities c.args.book.now = search rules in
    let all : c.loop-b.b ≡ activities c.args.book.now = omega (arith, count) in
    c.loop-b.invariant ∙ ap (λ n. map (predecessors_of c.args.book.now) (range_with_len 0 n)) all
