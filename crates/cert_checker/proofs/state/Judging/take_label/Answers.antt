use Rattle.std.proofs.Common.{◌∙◌, Option, Some, List, length, refl, subst, sym, to_z, of_z}
use Rattle.std.specs.Int.{w64}
use Rattle.branch_marks.specs.Labels.{Label}
use Rattle.cert_checker.proofs.Keeping.{label_more, label_part, label_place}
use Rattle.cert_checker.specs.declared.state.Judging.{Judging}
use Rattle.cert_checker.specs.declared.state.OpenLeaf.{OpenLeaf as KeptLeaf}
use Rattle.cert_checker.specs.inside.Kept.{IsLeafIn, IsLeafOf}
use Rattle.cert_checker.proofs.state.Judging.take_label.Goals as goal

pub returns-clause-judging : goal.returns-clause-judging
returns-clause-judging c =
    let is = c.requires.judging in
    let book = c.args.book.now in
    let old = c.args.self.now in
    let marks = old.branches.marks.facts in
    let leaf = c.in-Some.leaf in
    let place = label_place leaf.next c.args.at (length book.activities) (length c.args.counters) (length book.rules.counters) (sym c.may_take_label.ensures ∙ c.if-not-may_take_label.false) in
    let label : Label = record { at = c.args.at; weight = to_z w64 (of_z w64 c.args.weight); counters = c.args.counters } in
    let after : KeptLeaf = record { line = leaf.line; k = leaf.k; value = leaf.value; next = c.args.at } in
    let new : Judging = record old { leaf = Some after; family = c.push.new.self } in
    let here : IsLeafOf book marks old.duals.items old.family.items leaf = subst (λ (l : Option KeptLeaf). IsLeafIn book old l) c.in-Some.is is.leaf in
    record {
      branches = is.branches;
      part = label_part book old new leaf is.part c.in-Some.is refl refl refl;
      duals = is.duals;
      covers = is.covers;
      values = is.values;
      fliers = is.fliers;
      leaf = subst (λ (l : List Label). IsLeafOf book marks old.duals.items l after) (sym c.in_ok-push.ensures.items)
          (label_more book marks old.duals.items old.family.items leaf label here place.0 after refl refl refl refl
          (record { activity = place.1; count = place.2; counters = c.requires.counters }) (sym c.alive.ensures.tests ∙ c.if-not-alive.false));
      starts = is.starts;
      floors = is.floors;
      width = is.width;
      pricer = is.pricer;
    }
