-- Rests of routes that fit weigh little. Each link leads to a larger number, so by induction along the rest its numbers
-- rise, and it has no activity twice. Its weight is its cost less its duals, which for numbers that rise is within 2^61
-- of 0.
use Rattle.std.proofs.Common.{ℕ, ◌<◌, List, [], ◌∷◌, sym, subst}
use Rattle.std.specs.Prelude.{pos}
use Rattle.tail_book.specs.Seen.{BookSeen}
use Rattle.tail_book.specs.declared.place.Place.{Place}
use Rattle.tail_book.specs.declared.place.Place.TheVariants.{Carry, After}
use Rattle.tail_book.specs.Lookup.{activities}
use Rattle.tail_book.specs.Link.{IsLink}
use Rattle.tail_book.specs.Place.{IsBefore}
use Rattle.tail_book.specs.inside.Rising.{LinksRise, IsRisingFrom}
use Rattle.tail_book.specs.inside.RouteBounds.{ReducedCostsAreSmall}
use Rattle.tail_book.specs.inside.Sound.{IsBook}
use Rattle.branch_marks.specs.declared.fact.Fact.{Fact}
use Rattle.branch_marks.specs.Marks.{FitsFrom}
use Rattle.branch_marks.specs.Weights.{dual, WeightsAlong}
use Rattle.pricing.specs.inside.WeightRange.{IsSmall}
use Rattle.route_search.specs.inside.Laws.{FittingRestsAreSmall}

link_before : LinksRise → (book : BookSeen) → IsBook book → (k : ℕ) (x : Place) (b : ℕ) → IsLink book k x b → IsBefore x b
link_before rise book sound k Carry b link = tt
link_before rise book sound k (After x) b link = rise book sound k x b link.before.activity link.after.activity link

-- each link leads to a larger number
pub fits_rises : LinksRise → (book : BookSeen) → IsBook book → (marks : List Fact) (k : ℕ) (x : Place) (rest : List ℕ) → FitsFrom book marks k x rest
    → IsRisingFrom (activities book) x rest
fits_rises rise book sound marks k x [] fits = tt
fits_rises rise book sound marks k x (b ∷ rest) fits =
    (link_before rise book sound k x b fits.0.link, fits.0.link.after.activity, fits_rises rise book sound marks k (After b) rest fits.1)

pub fits_is_small : LinksRise → ReducedCostsAreSmall → WeightsAlong → FittingRestsAreSmall
fits_is_small rise small along table book marks k duals x rest sound sound_table for_book in_box fits =
    subst IsSmall (sym (along table book k duals x rest))
    (small table book sound_table for_book (dual duals) (λ a lt. in_box.box a (pos 0) (subst (λ (n : ℕ). a < n) (sym in_box.one_each) lt))
    k x rest (fits_rises rise book sound marks k x rest fits))
