use Rattle.std.proofs.Common.{◌≡◌, Some, option_map, rules}
use Rattle.tailview.proofs.ReadTexts.{before-read}
use Rattle.tailview.proofs.before.bytes_before.Goals as goal

-- what was read is the front of what is held
pub returns-in-Ok-clause-bytes : goal.returns-in-Ok-clause-bytes
returns-in-Ok-clause-bytes g c =
    let named : option_map (λ s. s.now) c.args.name ≡ Some c.in-Some.name.now = search rules in
    rw named (before-read ((g.F.Files.shows c.args.files.now).holds c.in-Some.name.now) c.in-Ok.bytes.items c.in-Ok.ensures.bytes)
