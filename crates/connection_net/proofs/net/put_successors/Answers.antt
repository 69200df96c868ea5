use Rattle.std.proofs.Common.{◌≡◌}
use Rattle.std.specs.List.{filter}
use Rattle.connection_net.specs.Net.{is_linked, successors_of}
use Rattle.connection_net.proofs.Among.{successors_among}
use Rattle.connection_net.proofs.net.put_successors.Goals as goal

-- all of them are at that airport
pub returns : goal.returns
returns c =
    let all : filter (is_linked c.args.book.now c.args.a) c.departing-list.result.now ≡ successors_of c.args.book.now c.args.a = rw (c.departing-list.ensures.list, c.end_port.ensures.value) (successors_among c.args.book.now c.args.a) in
    rw all at c.put_after.ensures
