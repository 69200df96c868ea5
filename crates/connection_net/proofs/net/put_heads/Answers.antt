use Rattle.std.proofs.Common.{◌≡◌}
use Rattle.std.specs.List.{filter}
use Rattle.tail_book.specs.declared.place.Place.TheVariants.{Carry}
use Rattle.tail_book.specs.LegalTests.{is_link}
use Rattle.connection_net.specs.Net.{heads_of}
use Rattle.connection_net.proofs.Among.{heads_among}
use Rattle.connection_net.proofs.net.put_heads.Goals as goal

-- all of them are at that airport
pub returns : goal.returns
returns c =
    let all : filter (is_link c.args.book.now c.args.k Carry) c.departing-list.result.now ≡ heads_of c.args.book.now c.args.k = rw (c.departing-list.ensures.list, c.port.ensures.value) (heads_among c.args.book.now c.args.k) in
    rw all at c.put_first.ensures
