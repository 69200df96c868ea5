use Rattle.std.proofs.Common.{◌≡◌, ◌∙◌, ℤ, ◌<◌, ◌+◌, ap, arith, length, sym, subst, false}
use Rattle.std.specs.Prelude.{slice_index_or}
use Rattle.std.proofs.lemmas.Int.{to_z-of_z}
use Rattle.std.proofs.lemmas.List.{get_or_default}
use Rattle.branch_marks.specs.Labels.{Label}
use Rattle.branch_marks.specs.FamilyTests.{is_covered_by}
use Rattle.cert_checker.specs.inside.Buckets.{at_in, no_label}
use Rattle.cert_checker.proofs.Bucketed.{behind_earlier, later_cover_nothing, one_less_by}
use Rattle.cert_checker.proofs.buckets.is_covered.Goals as goal

pub loop-i-init : goal.loop-i-init
loop-i-init c =
    let start = c.requires.starts.each c.args.b c.requires.activity in
    (behind_earlier c.args.b _ c.args.counters.now c.args.family.now _ start.within start.before, start.from)

-- the label is of a later activity, and so are those behind it
pub returns-then-label-b : goal.returns-then-label-b
returns-then-label-b c =
    let lt : c.loop-i.i < length c.args.family.now = omega arith in
    let is : c.index-family-i.result ≡ slice_index_or c.args.family.now c.loop-i.i no_label =
    c.index-family-i.is ∙ get_or_default c.args.family.now c.loop-i.i c.index-family-i.result no_label lt in
    let at = ap (λ (l : Label). l.at) is in
    let seen = ap (λ (l : Label). l.at) c.label.view_is in
    let from = c.loop-i.invariant.1 lt in
    let later : c.args.b < at_in c.args.family.now c.loop-i.i = omega (arith, at, seen, from) in
    subst (λ (z : ℤ). false ≡ is_covered_by c.args.family.now (record { at = c.args.b; weight = z; counters = c.args.counters.now }))
    (to_z-of_z _ c.args.weight c.ranges.weight)
    (sym (c.loop-i.invariant.0 ∙ later_cover_nothing c.args.b _ c.args.counters.now c.args.family.now c.loop-i.i
    (λ j le within. let more = c.requires.order c.loop-i.i j le within in omega (arith, more, later))))

-- it does not cover, and those behind it are left
pub loop-i-preserved : goal.loop-i-preserved
loop-i-preserved c =
    let lt : c.loop-i.i < length c.args.family.now = omega arith in
    let is : c.index-family-i.result ≡ slice_index_or c.args.family.now c.loop-i.i no_label =
    c.index-family-i.is ∙ get_or_default c.args.family.now c.loop-i.i c.index-family-i.result no_label lt in
    let seen = ap (λ (l : Label). l.at) c.label.view_is in
    let here = ap (λ (l : Label). l.at) is in
    let at : at_in c.args.family.now c.loop-i.i ≡ c.args.b = omega (arith, here, seen) in (
      c.loop-i.invariant.0 ∙ one_less_by c.args.b _ c.args.counters.now c.args.family.now c.loop-i.i lt at c.index-family-i.result is c.if-is_as_good.ensures,
      (λ within. let more = c.requires.order c.loop-i.i (c.loop-i.i + 1) (omega arith) within in omega (arith, more, at)),
    )
