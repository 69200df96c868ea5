use Rattle.std.proofs.Common.{◌≡◌, ◌∙◌, ◌+◌, ◌≤◌, ◌<◌, true, None, length, arith, subst, sym, to_z, of_z, w64}
use Rattle.std.proofs.lemmas.List.{length-set}
use Rattle.std.specs.Vec.{with_item}
use Rattle.tail_book.specs.CostTable.{costs_of}
use Rattle.branch_marks.specs.TreeTests.{are_duals, is_in_box}
use Rattle.cert_checker.specs.declared.state.Judging.{Judging}
use Rattle.cert_checker.specs.declared.state.Part.{Part}
use Rattle.cert_checker.specs.inside.Kept.{IsPartIn}
use Rattle.cert_checker.proofs.InLeaf.{duals_set}
use Rattle.cert_checker.proofs.Keeping.{lean_dual_place, no_leaf}
use Rattle.cert_checker.proofs.state.Judging.take_dual_of_lean.Goals as goal

pub overflow_add-self : goal.overflow_add-self
overflow_add-self c =
    let place = lean_dual_place c.args.self.now.next c.args.a (length c.args.book.now.activities) (sym c.may_take_lean_dual.ensures ∙ c.if-not-may_take_lean_dual.false) in
    let few : length c.args.book.now.activities ≤ 4000 = c.every_book_is_sound.ensures.few_activities in
    let less : c.args.a < length c.args.book.now.activities = place in
    omega (arith, few, less)

-- the duals stay in the box
pub returns-clause-judging : goal.returns-clause-judging
returns-clause-judging c =
    let book = c.args.book.now in
    let old = c.args.self.now in
    let is = c.requires.judging in
    let a = c.args.a in
    let dual = to_z w64 (of_z w64 c.args.dual) in
    let boxed : is_in_box (costs_of book) dual ≡ true = sym (c.is_in_box.ensures book c.requires.means) ∙ c.if-not-is_in_box.false in
    let new : Judging = record old { duals = with_item old.duals a dual; next = a + 1 } in
    let was : (are_duals (costs_of book) book old.duals.items ≡ true) × (old.leaf ≡ None) = subst (λ (part : Part). IsPartIn book old part) c.requires.here is.part in
    record {
      branches = is.branches;
      part = subst (λ (part : Part). IsPartIn book new part) (sym c.requires.here) (duals_set book old.duals.items a dual was.0 boxed, was.1);
      duals = length-set old.duals.items a dual ∙ is.duals;
      covers = is.covers;
      values = is.values;
      fliers = is.fliers;
      leaf = no_leaf book new was.1;
      starts = is.starts;
      floors = is.floors;
      width = is.width;
      pricer = is.pricer;
    }
