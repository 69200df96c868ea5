use Rattle.table_records.proofs.Rest.{read-matches}
use Rattle.table_records.proofs.records.read_next.Goals as goal

pub returns : goal.returns
returns c =
    let e = c.in-Ok.ensures in
    let a = c.args.reader.now in
    read-matches c.in-Ok.found a c.read_byte_record.new.self _ c.requires (e.reads c.requires.trim c.requires.ready) (e.ready c.requires.trim) e.flexible
