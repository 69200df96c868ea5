use Rattle.std.proofs.Common.{◌+◌, ℕ, arith, below_more}
use Rattle.std.proofs.lemmas.Bool.{both_ways}
use Rattle.tail_book.specs.declared.place.Place.TheVariants.{After}
use Rattle.branch_marks.specs.Marks.{IsUsable}
use Rattle.propagator.proofs.DeadLinks.{unused_on}
use Rattle.propagator.proofs.dead_links.somebody_uses.Goals as goal

pub loop-k-init : goal.loop-k-init
loop-k-init c =
    unused_on c.alive_decides.ensures c.args.book.now c.args.marks.now.facts c.args.a c.args.b 0 c.next_alive-k.result c.next_alive-k.ensures.none (λ k lt. absurd (omega (arith, lt)))

pub loop-k-preserved : goal.loop-k-preserved
loop-k-preserved c =
    unused_on c.alive_decides.ensures c.args.book.now c.args.marks.now.facts c.args.a c.args.b (c.loop-k.k + 1) c.next_alive-k-in-loop-k.result c.next_alive-k-in-loop-k.ensures.none
    (below_more (λ (k : ℕ). ¬ IsUsable c.args.book.now c.args.marks.now.facts k (After c.args.a) c.args.b) c.loop-k.k c.loop-k.invariant
    (λ link. both_ways c.usable.result c.if-usable.false (c.usable.ensures.means.1 link)))
