-- A flier more at the end of the fliers puts its activity at the end of its own route, and changes no other: by induction on
-- the fliers before.
use Rattle.std.proofs.Common.{◌≡◌, ◌∙◌, ℕ, suc, ◌+◌, Bool, true, false, arith, List, [], ◌∷◌, ◌++◌, length, refl, ap, if◌then◌else◌}
use Rattle.std.specs.Prelude.{nat_eq}
use Rattle.tail_book.specs.inside.FlownInTurn.{route_flown_from}

-- an aircraft more at the end
pub route_flown_from-push : (k i j : ℕ) (who : List ℕ) → route_flown_from k i (who ++ j ∷ []) ≡ route_flown_from k i who ++ (if nat_eq j k then (i + length who) ∷ [] else [])
route_flown_from-push k i j [] = one (nat_eq j k)
  where
    one : (b : Bool) → (if b then i ∷ [] else []) ≡ [] ++ (if b then (i + 0) ∷ [] else [])
    one true = ap (λ (n : ℕ). n ∷ []) (omega arith)
    one false = refl
route_flown_from-push k i j (l ∷ who) = more (nat_eq l k) (route_flown_from-push k (i + 1) j who)
  where
    tail : i + 1 + length who ≡ i + suc (length who)
    tail = omega arith

    more : (b : Bool) → route_flown_from k (i + 1) (who ++ j ∷ []) ≡ route_flown_from k (i + 1) who ++ (if nat_eq j k then (i + 1 + length who) ∷ [] else [])
        → (if b then i ∷ route_flown_from k (i + 1) (who ++ j ∷ []) else route_flown_from k (i + 1) (who ++ j ∷ []))
        ≡ (if b then i ∷ route_flown_from k (i + 1) who else route_flown_from k (i + 1) who) ++ (if nat_eq j k then (i + suc (length who)) ∷ [] else [])
    more true e = ap (λ (t : List ℕ). i ∷ t) (e ∙ ap (λ (n : ℕ). route_flown_from k (i + 1) who ++ (if nat_eq j k then n ∷ [] else [])) tail)
    more false e = e ∙ ap (λ (n : ℕ). route_flown_from k (i + 1) who ++ (if nat_eq j k then n ∷ [] else [])) tail
