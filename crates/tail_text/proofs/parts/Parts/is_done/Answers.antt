use Rattle.std.proofs.Common.{◌≡◌, ◌∙◌, rules}
use Rattle.std.specs.Prelude.{is_none}
use Rattle.tail_text.proofs.PartLemmas.{parts_left-done}
use Rattle.tail_text.proofs.parts.Parts.is_done.Goals as goal

pub returns : goal.returns
returns c =
    let told : c.is_none.result ≡ is_none c.self.inside.rest = search rules in
    told ∙ rw (← c.self.view_is) (parts_left-done c.self.inside.byte c.self.inside.rest)
