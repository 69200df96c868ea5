-- The table of floors is built from the left, each entry from those before it. So an entry is the least of what the entries
-- of smaller numbers bring, and any other table with that property has the same first entry, the same second one, and so on.
use Rattle.std.proofs.Common.{◌≡◌, ◌∙◌, ℕ, zero, suc, ℤ, ◌+◌, ◌<◌, ◌≤◌, arith, List, [], ◌∷◌, length, sym, refl, ap, get_or, Option, None}
use Rattle.std.specs.List.{range_with_len}
use Rattle.tail_book.specs.Seen.{BookSeen}
use Rattle.tail_book.specs.declared.place.Place.TheVariants.{After}
use Rattle.tail_book.specs.Lookup.{activities}
use Rattle.branch_marks.specs.declared.fact.Fact.{Fact}
use Rattle.branch_marks.specs.Floors.{lesser_floor, stepped_floor, least_from, floors_below, floors}
use Rattle.branch_marks.specs.inside.FloorLaws.{FloorsComeInTurn}
use Rattle.floor_rows.specs.inside.LeastOver.{floor_of, least_over, brought_first, brought, least_at, FloorsAreLeast}

-- the least depends on what is brought alone
pub least_same : (h g : ℕ → Option (List ℤ)) (x n : ℕ) → ((y : ℕ) → x ≤ y → y < x + n → h y ≡ g y)
    → least_over h (range_with_len x n) ≡ least_over g (range_with_len x n)
least_same h g x zero same = refl
least_same h g x (suc n) same =
    ap (λ (one : Option (List ℤ)). lesser_floor one (least_over h (range_with_len (x + 1) n))) (same x (omega arith) (omega arith))
    ∙ ap (λ (rest : Option (List ℤ)). lesser_floor (g x) rest)
    (least_same h g (x + 1) n (λ y le lt. same y (omega (arith, le)) (omega (arith, lt))))

-- where nothing is brought, there is no least
pub least_none : (h : ℕ → Option (List ℤ)) (x n : ℕ) → ((y : ℕ) → x ≤ y → y < x + n → h y ≡ None) → least_over h (range_with_len x n) ≡ None
least_none h x zero none = refl
least_none h x (suc n) none =
    ap (λ (one : Option (List ℤ)). lesser_floor one (least_over h (range_with_len (x + 1) n))) (none x (omega arith) (omega arith))
    ∙ least_none h (x + 1) n (λ y le lt. none y (omega (arith, le)) (omega (arith, lt)))

module _ (turn : (book : BookSeen) (marks : List Fact) (k : ℕ) → FloorsComeInTurn book marks k) (book : BookSeen) (marks : List Fact) (k : ℕ) where
  -- the least over a list of floors, by their numbers
  least_by_number : (h : ℕ → Option (List ℤ)) (b x : ℕ) (listed : List (Option (List ℤ)))
      → ((i y : ℕ) → y ≡ x + i → i < length listed → stepped_floor book marks k (After y) b (get_or listed i None) ≡ h y)
      → least_from book marks k b x listed ≡ least_over h (range_with_len x (length listed))
  least_by_number h b x [] each = refl
  least_by_number h b x (floor ∷ listed) each =
      ap (λ (one : Option (List ℤ)). lesser_floor one (least_from book marks k b (x + 1) listed)) (each 0 x (omega arith) (omega arith))
      ∙ ap (λ (rest : Option (List ℤ)). lesser_floor (h x) rest)
      (least_by_number h b (x + 1) listed (λ i y e lt. each (suc i) y (omega (arith, e)) (omega (arith, lt))))

  pub floors_least : (b : ℕ) → b < activities book → floor_of book marks k b ≡ least_at book marks k (floor_of book marks k) b
  floors_least b lt =
      (turn book marks k).made (activities book) b lt
      ∙ ap (λ (rest : Option (List ℤ)). lesser_floor (brought_first book marks k b) rest)
      (least_by_number (brought book marks k b (floor_of book marks k)) b 0 (floors_below book marks k b) each
      ∙ ap (λ (n : ℕ). least_over (brought book marks k b (floor_of book marks k)) (range_with_len 0 n)) ((turn book marks k).count b))
    where
      each : (i y : ℕ) → y ≡ 0 + i → i < length (floors_below book marks k b)
          → stepped_floor book marks k (After y) b (get_or (floors_below book marks k b) i None) ≡ brought book marks k b (floor_of book marks k) y
      each i y e within =
          let h = (turn book marks k).count b in
          let same : i ≡ y = omega (arith, e) in
          ap (λ (f : Option (List ℤ)). stepped_floor book marks k (After y) b f)
          (sym ((turn book marks k).kept (activities book) b i (omega (arith, h, within)) (omega (arith, lt)))
          ∙ ap (λ (z : ℕ). get_or (floors book marks k) z None) same)

-- and nothing else is the least of what is brought: by induction over the numbers before
pub least_floors : FloorsAreLeast → (book : BookSeen) (marks : List Fact) (k : ℕ) (floor : ℕ → Option (List ℤ)) → ((b : ℕ) → b < activities book → floor b ≡ least_at book marks k floor b)
    → (n b : ℕ) → b < n → b < activities book → floor b ≡ floor_of book marks k b
least_floors least book marks k floor is zero b lt within = absurd (omega (arith, lt))
least_floors least book marks k floor is (suc n) b lt within =
    is b within
    ∙ ap (λ (rest : Option (List ℤ)). lesser_floor (brought_first book marks k b) rest)
    (least_same (brought book marks k b floor) (brought book marks k b (floor_of book marks k)) 0 b
    (λ y le less. ap (λ (f : Option (List ℤ)). stepped_floor book marks k (After y) b f) (least_floors least book marks k floor is n y (omega (arith, lt, less)) (omega (arith, within, less)))))
    ∙ sym (least book marks k b within)
