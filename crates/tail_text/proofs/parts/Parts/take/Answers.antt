use Rattle.std.proofs.Common.{◌≡◌, ◌∙◌, Some, rules, sym}
use Rattle.tail_text.proofs.PartLemmas.{parts_left-cut, parts_left-one}
use Rattle.tail_text.proofs.parts.Parts.take.Goals as goal

pub returns-in-Some : goal.returns-in-Some
returns-in-Some c =
    let is : c.self.inside.rest ≡ Some c.in_ok-rest.rest = search rules in
    sym c.self.view_is ∙ parts_left-cut _ _ _ _ is (sym c.place_of.ensures ∙ c.in-Some.is)

pub returns-in-None : goal.returns-in-None
returns-in-None c =
    let is : c.self.inside.rest ≡ Some c.in_ok-rest.rest = search rules in
    sym c.self.view_is ∙ parts_left-one _ _ _ is (sym c.place_of.ensures ∙ c.in-None.is)
