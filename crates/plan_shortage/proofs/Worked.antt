-- Surpluses and what is due, worked by hand: 1 to 4 are asked for, and 5 is brought.
use Rattle.std.proofs.Common.{◌≡◌, ℕ, pos, negsuc, List, [], ◌∷◌, refl}
use Rattle.plan_shortage.specs.Shortage.{surplus, due}

abbrev asked : List ℕ
asked = 1 ∷ 2 ∷ 3 ∷ 4 ∷ []

abbrev brought : List ℕ
brought = 5 ∷ []

-- a route with two of the asked activities, another one, and the brought one
both : surplus asked brought (2 ∷ 4 ∷ 5 ∷ 6 ∷ []) ≡ pos 1
both = refl

-- one that brings alone, and one with neither
brings : surplus asked brought (5 ∷ []) ≡ negsuc 0
brings = refl

neither : surplus asked brought (6 ∷ 7 ∷ []) ≡ pos 0
neither = refl

three_are_due : due asked brought ≡ pos 3
three_are_due = refl
