-- What is free in a route that fits is undecided: a connection of it is usable, and so not cut, and its activities are alive.
use Rattle.std.proofs.Common.{◌≡◌, ◌<◌, ℕ, zero, suc, true, List, [], ◌∷◌, length, arith, refl}
use Rattle.std.proofs.lemmas.List.Elements.{All-contains}
use Rattle.std.specs.Prelude.{Contains, slice_index_or}
use Rattle.tail_book.specs.Seen.{BookSeen}
use Rattle.tail_book.specs.declared.place.Place.{Place}
use Rattle.tail_book.specs.declared.place.Place.TheVariants.{Carry, After}
use Rattle.tail_book.specs.Lookup.{aircraft}
use Rattle.branch_marks.specs.declared.fact.Fact.{Fact}
use Rattle.branch_marks.specs.declared.fact.Fact.TheVariants.{Cut, Tie}
use Rattle.branch_marks.specs.declared.fact.Pair.TheVariants.{Link}
use Rattle.branch_marks.specs.Branches.{IsUndecided}
use Rattle.branch_marks.specs.Facts.{directly}
use Rattle.branch_marks.specs.Marks.{Fits, FitsFrom, IsAlive, LetsGo}
use Rattle.node_leaves.proofs.PairChoices.{usable_along}

module _ (book : BookSeen) (marks : List Fact) (k : ℕ) where
  pub link_undecided : k < aircraft book → (route : List ℕ) → Fits book marks k route → (a b : ℕ) → directly route a b ≡ true
      → ¬ Contains marks (Tie a b) → IsUndecided book marks (Link a b)
  link_undecided lt route fits a b joined free =
      let usable = usable_along book marks k Carry route a b fits joined in (
        (k, lt, usable),
        λ cut. All-contains (LetsGo k (After a) b) marks (Cut a b) usable.facts cut refl refl,
        free,
      )

  pub alive_along : (x : Place) (route : List ℕ) (i : ℕ) → FitsFrom book marks k x route → i < length route → IsAlive book marks k (slice_index_or route i 0)
  alive_along x [] i fits lt = absurd (omega (arith, lt))
  alive_along x (b ∷ rest) zero fits lt = fits.0.after
  alive_along x (b ∷ rest) (suc i) fits lt = alive_along (After b) rest i fits.1 (omega (arith, lt))
