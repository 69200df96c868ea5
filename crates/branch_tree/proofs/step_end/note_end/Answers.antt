use Rattle.std.proofs.Common.{◌≡◌, ◌∙◌, ℤ, List, map, refl, sym, subst}
use Rattle.branch_marks.specs.Bound.{AreLeastWeights, lagrangian, bound_of, Passes}
use Rattle.branch_tree.specs.declared.step.NodeEnd.{NodeEnd}
use Rattle.node_leaves.specs.Node.{Stuck, Bounded, Split}
use Rattle.node_leaves.specs.inside.Leaf.{Whole}
use Rattle.branch_tree.specs.inside.StepParts.{IsEndFound}
use Rattle.branch_tree.proofs.step_end.note_end.Goals as goal

-- a split that was not told, or is torn
pub returns-in-Err-note_one-clause-cut : goal.returns-in-Err-note_one-clause-cut
returns-in-Err-note_one-clause-cut g c =
    let found = subst (λ (e : NodeEnd). IsEndFound c.args.table.now c.args.book.now c.args.marks.now.facts c.args.duals.now.values c.args.target e) c.in-Split.is c.requires.found in
    record {
      part = Whole (Split c.in-Split.pair c.args.duals.now.values c.in-Split.routes.items c.in-Split.dive);
      shown = found.undecided;
      front = c.in-Err-note_one.ensures.cut;
    }

-- the stuck aircraft and its family
pub returns-in_default-clause-noted : goal.returns-in_default-clause-noted
returns-in_default-clause-noted g c =
    let noted = c.in_default.ensures.noted in
    record { ending = Stuck c.in-Stuck.k noted.0; shown = noted.1; right = tt; answers = refl; told = noted.2 }

-- the bound with its covers
pub returns-in_default-note_bounded-clause-noted : goal.returns-in_default-note_bounded-clause-noted
returns-in_default-note_bounded-clause-noted g c =
    let noted = c.in_default-note_bounded.ensures.noted in
    let table = c.args.table.now in let book = c.args.book.now in let marks = c.args.marks.now.facts in let duals = c.args.duals.now.values in
    let found = subst (λ (e : NodeEnd). IsEndFound table book marks duals c.args.target e) c.in-Bounded.is c.requires.found in
    let is : map (λ cover. cover.value) noted.covers ≡ c.in-Bounded.values.items = noted.least ∙ c.deref.ensures.value in
    record {
      ending = Bounded duals noted.covers;
      shown = noted.shown;
      right = (
        subst (λ (vs : List ℤ). AreLeastWeights table book marks duals vs) (sym is) found.0,
        subst (λ (vs : List ℤ). Passes (bound_of (lagrangian duals vs)) c.args.target) (sym is) found.1,
      );
      answers = refl;
      told = noted.told;
    }

-- the split
pub returns-in_default-note_one-clause-noted : goal.returns-in_default-note_one-clause-noted
returns-in_default-note_one-clause-noted g c =
    let found = subst (λ (e : NodeEnd). IsEndFound c.args.table.now c.args.book.now c.args.marks.now.facts c.args.duals.now.values c.args.target e) c.in-Split.is c.requires.found in
    record {
      ending = Split c.in-Split.pair c.args.duals.now.values c.in-Split.routes.items c.in-Split.dive;
      shown = found.undecided;
      right = found.split;
      answers = (refl, refl, refl, refl);
      told = c.in_default-note_one.ensures.noted;
    }
