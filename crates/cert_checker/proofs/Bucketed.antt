-- Only labels of the same activity can cover a label. Where labels come in order of activity, those before the start of
-- an activity are of earlier ones, and those behind its end of later ones: so a look over all may begin and end there.
-- By the number of labels that are passed over.
use Rattle.std.specs.Prelude.{◌&&◌, ◌||◌, slice_index_or}
use Rattle.std.specs.List.{list_any}
use Rattle.std.proofs.Common.{◌≡◌, ◌∙◌, ℕ, ℤ, zero, suc, ◌+◌, ◌<◌, ◌≤◌, Bool, false, List, [], ◌∷◌, length, drop, refl, sym, ap, arith}
use Rattle.std.proofs.lemmas.Bool.{ne_eqb, eq-eqb}
use Rattle.tail_book.specs.Numbers.{int_le}
use Rattle.tail_book.specs.CounterOrder.{each_at_most}
use Rattle.branch_marks.specs.Labels.{Label}
use Rattle.branch_marks.specs.FamilyTests.{covers}
use Rattle.cert_checker.specs.inside.Buckets.{at_in, no_label}

module _ (b : ℕ) (weight : ℤ) (values : List ℤ) where
  abbrev at_b : Label
  at_b = record { at = b; weight = weight; counters = values }

  elsewhere : (member : Label) → ¬ member.at ≡ b → covers member at_b ≡ false
  elsewhere member ne = ap (λ (t : Bool). t && (int_le member.weight weight && each_at_most member.counters values)) (ne_eqb member.at b ne)

  -- at the activity itself, weight and counters decide
  pub here : (member : Label) → member.at ≡ b → covers member at_b ≡ (int_le member.weight weight && each_at_most member.counters values)
  here member e = ap (λ (t : Bool). t && (int_le member.weight weight && each_at_most member.counters values)) (eq-eqb member.at b e)

  pub behind_earlier : (family : List Label) (n : ℕ) → n ≤ length family → ((i : ℕ) → i < n → at_in family i < b)
      → list_any (λ member. covers member at_b) family ≡ list_any (λ member. covers member at_b) (drop n family)
  behind_earlier family zero le before = refl
  behind_earlier [] (suc n) le before = refl
  behind_earlier (member ∷ family) (suc n) le before =
      ap (λ (t : Bool). t || list_any (λ member. covers member at_b) family) (elsewhere member (λ e. let less = before 0 (omega arith) in omega (arith, e, less)))
      ∙ behind_earlier family n (omega (arith, le)) (λ i lt. before (suc i) (omega (arith, lt)))

  pub later_cover_nothing : (family : List Label) (n : ℕ) → ((i : ℕ) → n ≤ i → i < length family → b < at_in family i)
      → list_any (λ member. covers member at_b) (drop n family) ≡ false
  later_cover_nothing [] zero later = refl
  later_cover_nothing [] (suc n) later = refl
  later_cover_nothing (member ∷ family) zero later =
      ap (λ (t : Bool). t || list_any (λ member. covers member at_b) family) (elsewhere member (λ e. let more = later 0 (omega arith) (omega arith) in omega (arith, e, more)))
      ∙ later_cover_nothing family zero (λ i le lt. later (suc i) (omega arith) (omega (arith, lt)))
  later_cover_nothing (member ∷ family) (suc n) later = later_cover_nothing family n (λ i le lt. later (suc i) (omega (arith, le)) (omega (arith, lt)))

  -- a label that does not cover is passed over
  pub one_less : (family : List Label) (n : ℕ) → n < length family → at_in family n ≡ b
      → (int_le (slice_index_or family n no_label).weight weight && each_at_most (slice_index_or family n no_label).counters values) ≡ false
      → list_any (λ member. covers member at_b) (drop n family) ≡ list_any (λ member. covers member at_b) (drop (n + 1) family)
  one_less [] n lt at e = absurd (omega (arith, lt))
  one_less (member ∷ family) zero lt at e = ap (λ (t : Bool). t || list_any (λ member. covers member at_b) family) (here member at ∙ e)
  one_less (member ∷ family) (suc n) lt at e =
      let next : suc (n + 1) ≡ suc n + 1 = omega arith in
      one_less family n (omega (arith, lt)) at e ∙ ap (λ (k : ℕ). list_any (λ member. covers member at_b) (drop k (member ∷ family))) next

  -- the same, where the label was read apart
  pub one_less_by : (family : List Label) (n : ℕ) → n < length family → at_in family n ≡ b → (label : Label) → label ≡ slice_index_or family n no_label
      → false ≡ (int_le label.weight weight && each_at_most label.counters values)
      → list_any (λ member. covers member at_b) (drop n family) ≡ list_any (λ member. covers member at_b) (drop (n + 1) family)
  one_less_by family n lt at label is e =
      one_less family n lt at (ap (λ (l : Label). int_le l.weight weight && each_at_most l.counters values) (sym is) ∙ sym e)
