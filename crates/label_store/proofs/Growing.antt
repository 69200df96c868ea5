-- Stores that grow beside the buckets of some nodes. Growth chains, and what it keeps is kept: rows have their values, what is
-- covered stays covered, and those buckets do not change.
use Rattle.std.proofs.Common.{ℕ, arith, refl, ◌∙◌}
use Rattle.label_store.specs.Seen.{StoreSeen}
use Rattle.label_store.specs.inside.Growth.{GrowsBeside, IsAsWide}

module _ {stays : ℕ → Type 0} where
  pub grows_refl : (store : StoreSeen) → GrowsBeside stays store store
  grows_refl store = record {
    rows = record { longer = omega arith; rows = λ i lt. refl; parents = λ i lt. refl; nodes = λ i lt. refl };
    covered = λ v row covered. covered;
    others = λ v other. refl;
  }

  pub grows_trans : (one two three : StoreSeen) → GrowsBeside stays one two → GrowsBeside stays two three → GrowsBeside stays one three
  grows_trans one two three first next =
      let longer = first.rows.longer in
      let longer_yet = next.rows.longer in
      record {
        rows = record {
          longer = omega (arith, longer, longer_yet);
          rows = λ i lt. next.rows.rows i (omega (arith, lt, longer)) ∙ first.rows.rows i lt;
          parents = λ i lt. next.rows.parents i (omega (arith, lt, longer)) ∙ first.rows.parents i lt;
          nodes = λ i lt. next.rows.nodes i (omega (arith, lt, longer)) ∙ first.rows.nodes i lt;
        };
        covered = λ v row covered. next.covered v row (first.covered v row covered);
        others = λ v other. next.others v other ∙ first.others v other;
      }

pub wide_trans : (one two three : StoreSeen) → IsAsWide one two → IsAsWide two three → IsAsWide one three
wide_trans one two three first next = record { width = next.width ∙ first.width; nodes = next.nodes ∙ first.nodes }
