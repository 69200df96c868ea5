use Rattle.std.proofs.Common.{◌∙◌, ◌≡◌, arith, ap, sym}
use Rattle.std.specs.Prelude.{nat_eq}
use Rattle.std.specs.List.{filter, range_with_len}
use Rattle.tail_book.specs.Lookup.{to_port, activities}
use Rattle.connection_net.specs.inside.LinkTable.{arrivals_of}
use Rattle.connection_net.proofs.Filters.{filter_range_more}
use Rattle.connection_net.proofs.airports.put_arrivals.Goals as goal

-- the next one stands last where it is one of them
pub loop-a-preserved : goal.loop-a-preserved
loop-a-preserved c =
    rw (c.in_ok-push_where.ensures, c.loop-a.invariant, c.ends_at-here.ensures)
    (sym (filter_range_more (λ a. nat_eq c.args.port (to_port c.args.book.now a)) c.loop-a.a))

pub returns : goal.returns
unfolding arrivals_of
returns c =
    let all : c.loop-a.a ≡ activities c.args.book.now = omega (arith, c.len-a-end.ensures, ap (λ book. activities book) c.book.view_is) in
    c.loop-a.invariant ∙ ap (λ n. filter (λ a. nat_eq c.args.port (to_port c.args.book.now a)) (range_with_len 0 n)) all
