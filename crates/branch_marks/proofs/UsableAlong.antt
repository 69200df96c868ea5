-- Routes by their beginnings, both by induction along the route: a route fits exactly where its links are usable one
-- after the other and the aircraft may end at its last place, and with an activity more at its end the links are usable
-- exactly where they were and the link to that activity is.
use Rattle.std.proofs.Common.{ℕ, List, [], ◌∷◌, ◌++◌}
use Rattle.std.specs.Prelude.{◌↔◌}
use Rattle.tail_book.specs.Seen.{BookSeen}
use Rattle.tail_book.specs.declared.place.Place.{Place}
use Rattle.tail_book.specs.declared.place.Place.TheVariants.{After}
use Rattle.tail_book.specs.inside.Route.{place_after}
use Rattle.branch_marks.specs.declared.fact.Fact.{Fact}
use Rattle.branch_marks.specs.Marks.{IsUsable, MayEnd, FitsFrom}
use Rattle.branch_marks.specs.inside.Fitting.{IsUsableFrom}

pub fits_to_its_end : (book : BookSeen) (marks : List Fact) (k : ℕ) (x : Place) (route : List ℕ)
    → FitsFrom book marks k x route ↔ (IsUsableFrom book marks k x route × MayEnd marks k (place_after x route))
fits_to_its_end book marks k x [] = ((λ end. (tt, end)), (λ h. h.1))
fits_to_its_end book marks k x (b ∷ rest) =
    let later = fits_to_its_end book marks k (After b) rest in
    ((λ fits. let (usable, end) = later.0 fits.1 in ((fits.0, usable), end)), (λ h. (h.0.0, later.1 (h.0.1, h.1))))

pub usable_one_more : (book : BookSeen) (marks : List Fact) (k : ℕ) (x : Place) (route : List ℕ) (b : ℕ)
    → IsUsableFrom book marks k x (route ++ b ∷ []) ↔ (IsUsableFrom book marks k x route × IsUsable book marks k (place_after x route) b)
usable_one_more book marks k x [] b = ((λ h. (tt, h.0)), (λ h. (h.1, tt)))
usable_one_more book marks k x (a ∷ route) b =
    let later = usable_one_more book marks k (After a) route b in
    ((λ h. let (usable, last) = later.0 h.1 in ((h.0, usable), last)), (λ h. (h.0.0, later.1 (h.0.1, h.1))))
