use Rattle.std.proofs.Common.{◌≡◌}
use Rattle.std.specs.List.{filter}
use Rattle.connection_net.specs.Net.{is_linked, predecessors_of}
use Rattle.connection_net.proofs.Among.{predecessors_among}
use Rattle.connection_net.proofs.net.put_predecessors.Goals as goal

-- all of them are at that airport
pub returns : goal.returns
returns c =
    let all : filter (λ a. is_linked c.args.book.now a c.args.b) c.arriving-list.result.now ≡ predecessors_of c.args.book.now c.args.b = rw (c.arriving-list.ensures.list, c.start_port.ensures.value) (predecessors_among c.args.book.now c.args.b) in
    rw all at c.put_before.ensures
