use Rattle.std.proofs.Common.{◌≡◌, ◌<◌, ℕ, false, true, length, get_or}
use Rattle.branch_marks.specs.declared.fact.Fact.{Fact}
use Rattle.branch_marks.specs.declared.fact.Fact.TheVariants.{Cut}
use Rattle.pricing.proofs.line_pass.note_cuts.Given as goal

-- the facts before place i are noted
abbrev pub invariant-loop-i : goal.invariant-loop-i
invariant-loop-i l = record {
  noted : (q : ℕ) (f : Fact) (c d : ℕ) → q < l.i → get_or l.marks.facts q f ≡ Cut c d → get_or l.cut d false ≡ true;
  length : length l.cut ≡ length l.fn.cut;
}
