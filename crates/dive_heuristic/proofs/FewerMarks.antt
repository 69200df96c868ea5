-- What fits under more marks fits under fewer: each fact only asks for something more. So the routes that fit become fewer, and
-- a route of least weight stays one for as long as it fits.
use Rattle.std.proofs.Common.{ℕ, ℤ, ◌≤◌, arith, List, [], ◌∷◌, ◌++◌, sym, subst, append-nil, append_assoc, length-append}
use Rattle.std.proofs.lemmas.List.{get_or_append_left}
use Rattle.std.specs.Prelude.{All}
use Rattle.tail_book.specs.Seen.{BookSeen}
use Rattle.tail_book.specs.TableSeen.{CostTableSeen}
use Rattle.tail_book.specs.declared.place.Place.{Place}
use Rattle.tail_book.specs.declared.place.Place.TheVariants.{Carry, After}
use Rattle.branch_marks.specs.declared.fact.Fact.{Fact}
use Rattle.branch_marks.specs.Marks.{LetsFly, LetsGo, LetsEnd, IsAlive, IsAliveAt, IsUsable, FitsFrom, Fits}
use Rattle.branch_marks.specs.Weights.{weight, WeighsAtLeast}
use Rattle.branch_marks.specs.inside.BranchTests.{undecided, FactsLeaveNoMore}
use Rattle.dive_heuristic.specs.LeastRoutes.{IsLeastRoute, AreLeastRoutes}
use Rattle.dive_heuristic.specs.inside.Kept.{AreLowRoutes, FitsWithFewer}

-- what is true of all elements is true of those in front
All-front : {X : Type 0} (P : X → Type 0) (xs ys : List X) → All P (xs ++ ys) → All P xs
All-front P xs ys all k d lt =
    let e = length-append xs ys in
    subst P (get_or_append_left xs ys d k lt) (all k d (omega (arith, e, lt)))

module _ (book : BookSeen) (marks more : List Fact) (k : ℕ) where
  alive_fewer : (a : ℕ) → IsAlive book (marks ++ more) k a → IsAlive book marks k a
  alive_fewer a alive = record { allowed = alive.allowed; facts = All-front (LetsFly k a) marks more alive.facts }

  alive_at_fewer : (x : Place) → IsAliveAt book (marks ++ more) k x → IsAliveAt book marks k x
  alive_at_fewer Carry alive = tt
  alive_at_fewer (After x) alive = alive_fewer x alive

  usable_fewer : (x : Place) (b : ℕ) → IsUsable book (marks ++ more) k x b → IsUsable book marks k x b
  usable_fewer x b usable = record {
    link = usable.link;
    before = alive_at_fewer x usable.before;
    after = alive_fewer b usable.after;
    facts = All-front (LetsGo k x b) marks more usable.facts;
  }

  fits_from_fewer : (x : Place) (rest : List ℕ) → FitsFrom book (marks ++ more) k x rest → FitsFrom book marks k x rest
  fits_from_fewer x [] end = All-front (LetsEnd k x) marks more end
  fits_from_fewer x (b ∷ rest) fits = (usable_fewer x b fits.0, fits_from_fewer (After b) rest fits.1)

pub fits_fewer : (book : BookSeen) (marks more : List Fact) (k : ℕ) (route : List ℕ) → Fits book (marks ++ more) k route → Fits book marks k route
fits_fewer book marks more k route fits = fits_from_fewer book marks more k Carry route fits

module _ (fewer : FitsWithFewer) (table : CostTableSeen) (book : BookSeen) (marks more : List Fact) (duals : List ℤ) where
  -- fewer routes fit, and none of them weighs less
  pub weighs_more : (k : ℕ) (low : ℤ) → WeighsAtLeast table book marks k duals low → WeighsAtLeast table book (marks ++ more) k duals low
  weighs_more k low least route legal fits = least route legal (fewer book marks more k route fits)

  pub least_stays : (k : ℕ) (route : List ℕ) → IsLeastRoute table book marks k duals route → Fits book (marks ++ more) k route
      → IsLeastRoute table book (marks ++ more) k duals route
  least_stays k route least fits = record {
    legal = least.legal;
    fits = fits;
    least = weighs_more k (weight table book k duals route) least.least;
  }

  pub least_are_low : (routes : List (List ℕ)) → AreLeastRoutes table book marks duals routes → AreLowRoutes table book (marks ++ more) duals routes
  least_are_low routes are = record {
    one_each = are.one_each;
    each = λ k hk. record {
      legal = (are.each k hk).legal;
      least = weighs_more k _ (are.each k hk).least;
    };
  }

-- one fact after the other leaves no more undecided
pub no_more_undecided : FactsLeaveNoMore → (book : BookSeen) (marks more : List Fact) → undecided book (marks ++ more) ≤ undecided book marks
no_more_undecided one book marks [] =
    subst (λ (all : List Fact). undecided book all ≤ undecided book marks) (sym (append-nil marks)) (omega arith)
no_more_undecided one book marks (fact ∷ more) =
    let rest = no_more_undecided one book (marks ++ fact ∷ []) more in
    let here = one book marks fact in
    let same = append_assoc marks (fact ∷ []) more in
    subst (λ (all : List Fact). undecided book all ≤ undecided book marks) same (omega (arith, rest, here))
