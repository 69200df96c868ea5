use Rattle.std.proofs.Common.{◌∙◌, ◌≡◌, arith, ap, sym}
use Rattle.std.specs.Prelude.{nat_eq}
use Rattle.std.specs.List.{filter, range_with_len}
use Rattle.tail_book.specs.Lookup.{from_port, activities}
use Rattle.connection_net.specs.inside.LinkTable.{departures_of}
use Rattle.connection_net.proofs.Filters.{filter_range_more}
use Rattle.connection_net.proofs.airports.put_departures.Goals as goal

-- the next one stands last where it is one of them
pub loop-b-preserved : goal.loop-b-preserved
loop-b-preserved c =
    rw (c.in_ok-push_where.ensures, c.loop-b.invariant, c.starts_at-here.ensures)
    (sym (filter_range_more (λ b. nat_eq c.args.port (from_port c.args.book.now b)) c.loop-b.b))

pub returns : goal.returns
unfolding departures_of
returns c =
    let all : c.loop-b.b ≡ activities c.args.book.now = omega (arith, c.len-b-end.ensures, ap (λ book. activities book) c.book.view_is) in
    c.loop-b.invariant ∙ ap (λ n. filter (λ b. nat_eq c.args.port (from_port c.args.book.now b)) (range_with_len 0 n)) all
