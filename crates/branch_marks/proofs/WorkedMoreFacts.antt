-- Facts among others, and what more of them leave of two flights at once: the lightest route drops out, and the sum rises.
use Rattle.std.proofs.Common.{◌≡◌, ℤ, pos, negsuc, Bool, true, false, arith, List, [], ◌∷◌, map, refl}
use Rattle.std.proofs.lemmas.List.Elements.{All-cons}
use Rattle.std.specs.Prelude.{Contains}
use Rattle.tail_book.specs.CostTable.{costs_of}
use Rattle.tail_book.specs.LegalTests.{is_allowed, is_link}
use Rattle.tail_book.specs.Link.{is_connected}
use Rattle.tail_book.specs.Allowed.{is_permitted}
use Rattle.branch_marks.specs.declared.fact.Fact.{Fact}
use Rattle.branch_marks.specs.declared.fact.Fact.TheVariants.{Bar}
use Rattle.branch_marks.specs.MarkTests.{is_alive, is_usable, may_end, fits}
use Rattle.branch_marks.specs.Weights.{weight}
use Rattle.branch_marks.specs.Bound.{lagrangian, rounded_up}
use Rattle.branch_marks.specs.inside.MoreFacts.{AreAmong}
use Rattle.branch_marks.proofs.WorkedBook.{rates}

abbrev fewer : List Fact
fewer = Bar 0 0 ∷ Bar 0 0 ∷ []

abbrev more : List Fact
more = Bar 0 1 ∷ Bar 0 0 ∷ []

-- neither the order nor how often a fact stands there counts
among : AreAmong fewer more
among =
    let second : Contains more (Bar 0 0) = (1, omega arith, refl) in
    All-cons (Contains more) (Bar 0 0) (Bar 0 0 ∷ []) second (All-cons (Contains more) (Bar 0 0) [] second (λ i d lt. absurd (omega (arith, lt))))

-- which of no flight, the first and the second fit for the first aircraft
abbrev fitting : List Fact → List Bool
fitting marks = map (fits rates marks 0) ([] ∷ (0 ∷ []) ∷ (1 ∷ []) ∷ [])

fit_the_fewer : fitting fewer ≡ true ∷ false ∷ true ∷ []
unfolding may_end is_usable is_alive is_link is_connected is_allowed is_permitted
fit_the_fewer = refl

fit_the_more : fitting more ≡ true ∷ false ∷ false ∷ []
unfolding may_end is_usable is_alive is_link is_connected is_allowed is_permitted
fit_the_more = refl

abbrev prices : List ℤ
prices = pos 120000 ∷ pos 180000 ∷ []

-- its least weight is that of the second flight by the fewer facts, and by the more that of no flight
weighed : map (weight (costs_of rates) rates 0 prices) ((1 ∷ []) ∷ [] ∷ []) ≡ negsuc 59999 ∷ pos 0 ∷ []
weighed = refl

-- with a weight of 0 for the other aircraft the bound rises by as much
risen : map (λ low. rounded_up (lagrangian prices (low ∷ pos 0 ∷ []))) (negsuc 59999 ∷ pos 0 ∷ []) ≡ 240 ∷ 300 ∷ []
risen = refl
