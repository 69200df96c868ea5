use Rattle.std.proofs.Common.{◌∙◌, ◌≡◌, ap, arith, length}
use Rattle.std.specs.Prelude.{[], slice_index_or}
use Rattle.connection_net.specs.inside.LinkTable.{departures_of}
use Rattle.connection_net.proofs.Among.{departures_length, departures_at, departures_below}
use Rattle.connection_net.proofs.airports.departing.Goals as goal

-- there is a list for each airport
pub row-requires : goal.row-requires
row-requires c = omega (arith, ap length c.requires.lists, departures_length c.args.book.now)

pub returns : goal.returns
returns c =
    let list : c.row.result.now ≡ departures_of c.args.book.now c.args.port =
    c.row.ensures ∙ ap (λ rows. slice_index_or rows c.args.port []) c.requires.lists ∙ departures_at c.args.book.now c.args.port c.requires.port in
    record { list = list; below = rw list (departures_below c.args.book.now c.args.port) }
