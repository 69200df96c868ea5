use Rattle.std.proofs.Common.{◌∙◌}
use Rattle.cert_checker.proofs.ShownFamilies.{closed_is}
use Rattle.cert_checker.proofs.cover.is_closed.Goals as goal

pub returns : goal.returns
returns c =
    let leaf = c.args.leaf.now in
    c.goes_on_from_all.ensures ∙ closed_is leaf.book.now leaf.marks.now.facts leaf.k leaf.duals.now leaf.family.now c.requires.leaf.family
