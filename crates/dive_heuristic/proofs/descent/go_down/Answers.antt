use Rattle.std.proofs.Common.{ℕ, List, rules, subst}
use Rattle.dive_heuristic.specs.LeastRoutes.{IsEachInOne}
use Rattle.dive_heuristic.proofs.Forced.{go_none, go_both}
use Rattle.dive_heuristic.proofs.descent.go_down.Goals as goal

pub loop-k-init : goal.loop-k-init
loop-k-init c = record {
  marks = c.requires.marks;
  goes = go_none c.args.table.now c.args.book.now c.args.duals.now.values c.args.marks.now.facts c.args.steps.now.items;
  stands = c.requires.stands;
  diver = c.requires.diver;
}

-- one choice more
pub loop-k-preserved : goal.loop-k-preserved
loop-k-preserved c = record {
  marks = c.go_on.ensures.marks;
  goes = go_both c.args.table.now c.args.book.now c.args.duals.now.values c.args.marks.now.facts c.loop-k.marks.facts c.go_on.new.marks.facts
      c.args.steps.now.items c.loop-k.steps.items c.go_on.new.steps.items c.loop-k.invariant.goes c.in_ok-end.ensures.goes;
  stands = search rules;
  diver = c.go_on.ensures.diver;
}

pub returns-in-Some-end-clause-goes : goal.returns-in-Some-end-clause-goes
returns-in-Some-end-clause-goes c =
    go_both c.args.table.now c.args.book.now c.args.duals.now.values c.args.marks.now.facts c.loop-k.marks.facts c.go_on.new.marks.facts
    c.args.steps.now.items c.loop-k.steps.items c.go_on.new.steps.items c.loop-k.invariant.goes c.in_ok-end.ensures.goes

pub returns-clause-plan : goal.returns-clause-plan
returns-clause-plan c =
    subst (λ (routes : List (List ℕ)). IsEachInOne c.args.book.now routes) c.deref.ensures.value c.in_default.ensures.none
