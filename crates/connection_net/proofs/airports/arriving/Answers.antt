use Rattle.std.proofs.Common.{◌∙◌, ◌≡◌, ap, arith, length}
use Rattle.std.specs.Prelude.{[], slice_index_or}
use Rattle.connection_net.specs.inside.LinkTable.{arrivals_of}
use Rattle.connection_net.proofs.Among.{arrivals_length, arrivals_at, arrivals_below}
use Rattle.connection_net.proofs.airports.arriving.Goals as goal

-- there is a list for each airport
pub row-requires : goal.row-requires
row-requires c = omega (arith, ap length c.requires.lists, arrivals_length c.args.book.now)

pub returns : goal.returns
returns c =
    let list : c.row.result.now ≡ arrivals_of c.args.book.now c.args.port =
    c.row.ensures ∙ ap (λ rows. slice_index_or rows c.args.port []) c.requires.lists ∙ arrivals_at c.args.book.now c.args.port c.requires.port in
    record { list = list; below = rw list (arrivals_below c.args.book.now c.args.port) }
