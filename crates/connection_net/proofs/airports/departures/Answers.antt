use Rattle.std.proofs.Common.{◌∙◌, ◌≡◌, arith, ap, map, length, rules, sym}
use Rattle.std.specs.List.{range_with_len}
use Rattle.std.proofs.lemmas.List.FromFn.{map-range_with_len_more}
use Rattle.connection_net.specs.inside.LinkTable.{departures_of, all_departures_of}
use Rattle.connection_net.proofs.airports.departures.Goals as goal

-- the next airport's row stands last
pub loop-port-preserved : goal.loop-port-preserved
loop-port-preserved c =
    let port = c.loop-port.port in
    rw (c.in_ok-push.ensures, c.loop-port.invariant, c.deref.ensures.value, c.in_ok-put_departures.ensures)
    (sym (map-range_with_len_more (departures_of c.args.book.now) 0 port port (omega arith)))

pub returns : goal.returns
unfolding all_departures_of
returns c =
    let count : c.len-port-end.result ≡ length c.args.book.now.rules.airports = search rules in
    let all : c.loop-port.port ≡ length c.args.book.now.rules.airports = omega (arith, count) in
    c.loop-port.invariant ∙ ap (λ n. map (departures_of c.args.book.now) (range_with_len 0 n)) all
