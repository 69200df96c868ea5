-- A test of each number below n is an `and` over these numbers, and one for some number below n is an `or`. So where
-- each number's test decides what is said of it, the whole decides what is said of all of them, or of one: by induction
-- on n.
use Rattle.std.proofs.Common.{ℕ, ◌<◌, Bool, refl}
use Rattle.std.specs.Bool.{Decides}
use Rattle.std.proofs.lemmas.Bool.Decides.{Decides-below_and, Decides-below_or}
use Rattle.branch_marks.specs.Below.{all_below, some_below}

pub all_below_tested : (p : ℕ → Bool) (P : ℕ → Type 0) → ((k : ℕ) → Decides (p k) (P k)) → (n : ℕ) → Decides (all_below p n) ((k : ℕ) → k < n → P k)
all_below_tested p P each n = Decides-below_and p P (all_below p) each refl (λ k. refl) n

pub some_below_tested : (p : ℕ → Bool) (P : ℕ → Type 0) → ((k : ℕ) → Decides (p k) (P k)) → (n : ℕ) → Decides (some_below p n) ((k : ℕ) × (k < n) × P k)
some_below_tested p P each n = Decides-below_or p P (some_below p) each refl (λ k. refl) n
