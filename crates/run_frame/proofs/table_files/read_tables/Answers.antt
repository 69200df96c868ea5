-- The three fronts are those of the tables that are held; the files hold the same for each of the three reads.
use Rattle.std.proofs.Common.{◌∙◌}
use Rattle.run_frame.specs.inside.TableFiles.{names_seen}
use Rattle.run_frame.proofs.Held.{tables-read, read-later}
use Rattle.run_frame.proofs.table_files.read_tables.Goals as goal

pub returns-in-Ok-read_all-2-clause-tables : goal.returns-in-Ok-read_all-2-clause-tables
returns-in-Ok-read_all-2-clause-tables g c =
    let first = c.in-Ok.ensures in
    let second = c.in-Ok-read_all.ensures in
    let third = c.in-Ok-read_all-2.ensures in
    let after_first = first.only_read.holds in
    let after_second = second.only_read.holds in
    tables-read (g.F.Files.shows c.args.files.now) (names_seen c.args.names.now) _ first.bytes
    (read-later _ _ _ (after_first c.args.names.now.fleet.now) second.bytes)
    (read-later _ _ _ (after_second c.args.names.now.rules.now ∙ after_first c.args.names.now.rules.now) third.bytes)
