use Rattle.std.proofs.Common.{◌≡◌, IfSome, rules}
use Rattle.run_frame.proofs.Held.{read-later}
use Rattle.run_frame.specs.inside.TableFiles.{front}
use Rattle.tailview.proofs.ReadTexts.{before-later, texts-read}
use Rattle.tailview.specs.inside.Texts.{view_names_seen}
use Rattle.tailview.proofs.texts.read_texts.Goals as goal

-- the files hold the same all along
pub returns-in-Ok-bytes_before-clause-texts : goal.returns-in-Ok-bytes_before-clause-texts
returns-in-Ok-bytes_before-clause-texts g c =
    let files = g.F.Files.shows c.args.files.now in
    let names = view_names_seen c.args.names.now in
    let plan : IfSome (files.holds names.plan) (λ bytes. c.in-Ok-read_all.bytes.items ≡ front bytes) =
    read-later (files.holds names.plan) ((g.F.Files.shows c.read_tables.new.files).holds names.plan) c.in-Ok-read_all.bytes.items (c.in-Ok.ensures.only_read.holds names.plan) c.in-Ok-read_all.ensures.bytes in
    texts-read files names _ c.in-Ok-read_all.bytes.items _ c.in-Ok.ensures.tables plan
    (before-later files (g.F.Files.shows c.read_all.new.files) names.before _ (λ name. search rules) c.in-Ok-bytes_before.ensures.bytes)
