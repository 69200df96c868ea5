-- A Must of an aircraft lets it use no link from before its activity to behind it: a link is usable only where each
-- fact lets it, and this one does not. What is cut off from b so is cut off from all that comes later, as a link to
-- there passes the Must too.
use Rattle.std.proofs.Common.{◌≡◌, ◌<◌, ◌≤◌, ℕ, true, false, arith, List, refl}
use Rattle.std.proofs.lemmas.Bool.{false_from_ne_true}
use Rattle.std.proofs.lemmas.List.Elements.{All-contains}
use Rattle.tail_book.specs.Seen.{BookSeen}
use Rattle.tail_book.specs.declared.place.Place.TheVariants.{After}
use Rattle.branch_marks.specs.declared.fact.Fact.{Fact}
use Rattle.branch_marks.specs.declared.fact.Fact.TheVariants.{Must}
use Rattle.branch_marks.specs.Marks.{LetsGo}
use Rattle.branch_marks.specs.FactTests.{has_fact}
use Rattle.branch_marks.specs.inside.FactTests.{HasFactDecides}
use Rattle.branch_marks.specs.MarkTests.{is_usable}
use Rattle.branch_marks.specs.inside.MarkTests.{UsableDecides}
use Rattle.propagator.specs.inside.CutOff.{IsCutOff}

module _ (usable : UsableDecides) (has : HasFactDecides) (book : BookSeen) (marks : List Fact) (k b c : ℕ) (known : has_fact marks (Must k c) ≡ true) (lt : c < b) where
  over : (x y : ℕ) → x < c → b ≤ y → is_usable book marks k (After x) y ≡ false
  over x y less le = false_from_ne_true (is_usable book marks k (After x) y) (λ t.
      let link = (usable book marks k (After x) y).0 t in
      let go = All-contains (LetsGo k (After x) y) marks (Must k c) link.facts ((has marks (Must k c)).0 known) in
      let behind = go refl less in
      absurd (omega (arith, behind, le, lt)))

  pub must_cuts_off : IsCutOff book marks k b c
  must_cuts_off = record { before = omega (arith, lt); links = over }

-- what is cut off from b is cut off from what comes later
pub cut_off_later : (book : BookSeen) (marks : List Fact) (k b d c : ℕ) → b ≤ d → IsCutOff book marks k b c → IsCutOff book marks k d c
cut_off_later book marks k b d c le off =
    record { before = (let first = off.before in omega (arith, le, first)); links = λ x y less later. off.links x y less (omega (arith, le, later)) }
