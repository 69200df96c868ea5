use Rattle.std.proofs.Common.{◌≡◌, IfSome, rules}
use Rattle.run_frame.proofs.Held.{read-later}
use Rattle.run_frame.specs.inside.TableFiles.{front}
use Rattle.tailview.proofs.ShortagePromised.{shortage-read}
use Rattle.tailview.specs.inside.Shortages.{shortage_names_seen}
use Rattle.tailview.proofs.shortage_texts.read_shortage_texts.Goals as goal

-- the files hold the same all along
pub returns-in-Ok-read_all-clause-texts : goal.returns-in-Ok-read_all-clause-texts
returns-in-Ok-read_all-clause-texts g c =
    let files = g.F.Files.shows c.args.files.now in
    let names = shortage_names_seen c.args.names.now in
    let told : IfSome (files.holds names.told) (λ bytes. c.in-Ok-read_all.told.items ≡ front bytes) =
    read-later (files.holds names.told) ((g.F.Files.shows c.read_tables.new.files).holds names.told) c.in-Ok-read_all.told.items (c.in-Ok.ensures.only_read.holds names.told) c.in-Ok-read_all.ensures.bytes in
    shortage-read files names _ c.in-Ok-read_all.told.items c.in-Ok.ensures.tables told
