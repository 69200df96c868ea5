use Rattle.std.proofs.Common.{◌≡◌, ◌∙◌, ◌<◌, Bool, true, false, arith, rules, length, sym}
use Rattle.std.proofs.lemmas.List.Sums.{count_by_more_yes, count_by_more_no}
use Rattle.branch_marks.specs.declared.fact.Fact.{Fact}
use Rattle.branch_marks.specs.declared.fact.Fact.TheVariants.{Bar}
use Rattle.quota_split.specs.Ties.{is_tie_of}
use Rattle.quota_split.proofs.ties.ties_of.Goals as goal
use Rattle.quota_split.proofs.ties.ties_of.Goals.{then-is_tie_at, else-is_tie_at}

-- one fact more
pub loop-i-preserved : goal.loop-i-preserved
loop-i-preserved c =
    let test : Fact → Bool = is_tie_of c.args.book.now c.args.quota.now in
    let facts = c.args.marks.now.facts in
    let i = c.loop-i.i in
    let within : i < length facts = search rules in
    let told = c.is_tie_at.ensures (Bar 0 0) in
    elim c.if-is_tie_at.branch [
      | then-is_tie_at w ↦ (
          let passes : c.is_tie_at.result ≡ true = search rules in
          let more = count_by_more_yes test facts i (Bar 0 0) within (sym told ∙ passes) in
          record { counts = omega (arith, w.count-is, c.loop-i.invariant.counts, more); few = omega (arith, w.count-is, c.loop-i.invariant.few) })
      | else-is_tie_at w ↦ (
          let fails : c.is_tie_at.result ≡ false = search rules in
          let same = count_by_more_no test facts i (Bar 0 0) within (sym told ∙ fails) in
          record { counts = omega (arith, w.count-is, c.loop-i.invariant.counts, same); few = omega (arith, w.count-is, c.loop-i.invariant.few) })
    ]
