-- The dual lines of a bound leaf. A leaf begins with duals that are 0, which have no events. A dual that is not 0, set
-- at an activity from which on all were 0, is one event more behind the others: by the list, of which the part before
-- the activity keeps its events and the part behind it has none.
use Rattle.std.proofs.Common.{◌≡◌, ◌∙◌, ◌+◌, ◌<◌, ◌≤◌, ℕ, ℤ, zero, suc, pos, negsuc, Bool, true, List, [], ◌∷◌, ◌++◌, length, get_or, replicate, refl, sym, ap, arith, append_assoc}
use Rattle.std.proofs.lemmas.Bool.{and_parts}
use Rattle.std.proofs.lemmas.List.{append-nil}
use Rattle.std.specs.List.{list_all}
use Rattle.std.specs.Prelude.{slice_set}
use Rattle.branch_marks.specs.ProofTree.{Cover}
use Rattle.branch_marks.specs.declared.event.Event.TheVariants as events
use Rattle.branch_marks.specs.TreeEvents.{cover_event, cover_events, dual_event, dual_events}

-- from a number on the duals are 0
abbrev pub AreZeroFrom : ℕ → List ℤ → Type 0
AreZeroFrom n duals = (i : ℕ) → n ≤ i → get_or duals i (pos 0) ≡ pos 0

some_event : (a : ℕ) (v : ℤ) → (¬ v ≡ pos 0) → dual_event a v ≡ events.Dual a v ∷ []
some_event a (pos zero) h = absurd (h refl)
some_event a (pos (suc n)) h = refl
some_event a (negsuc n) h = refl

no_event : (a : ℕ) (v : ℤ) → v ≡ pos 0 → dual_event a v ≡ []
no_event a v e = rw e refl

no_events : (a : ℕ) (duals : List ℤ) → ((i : ℕ) → get_or duals i (pos 0) ≡ pos 0) → dual_events a duals ≡ []
no_events a [] h = refl
no_events a (dual ∷ duals) h = rw (no_event a dual (h 0)) (no_events (a + 1) duals (λ i. h (suc i)))

pub one_dual_more : (first : ℕ) (duals : List ℤ) (i a : ℕ) (v : ℤ) → a ≡ first + i → i < length duals → ((j : ℕ) → i ≤ j → get_or duals j (pos 0) ≡ pos 0) → (¬ v ≡ pos 0)
    → dual_events first (slice_set duals i v) ≡ dual_events first duals ++ events.Dual a v ∷ []
one_dual_more first [] i a v is lt zeros h = absurd (omega (arith, lt))
one_dual_more first (dual ∷ duals) zero a v is lt zeros h =
    let rest = no_events (first + 1) duals (λ i. zeros (suc i) (omega arith)) in
    let here : a ≡ first = omega (arith, is) in
    rw (some_event first v h, no_event first dual (zeros 0 (omega arith)), rest, here) refl
one_dual_more first (dual ∷ duals) (suc i) a v is lt zeros h =
    let later = one_dual_more (first + 1) duals i a v (omega (arith, is)) (omega (arith, lt)) (λ j from. zeros (suc j) (omega (arith, from))) h in
    ap (λ rest. dual_event first dual ++ rest) later ∙ sym (append_assoc (dual_event first dual) (dual_events (first + 1) duals) (events.Dual a v ∷ []))

pub zero_events : (n first : ℕ) → dual_events first (replicate n (pos 0)) ≡ []
zero_events zero first = refl
zero_events (suc n) first = zero_events n (first + 1)

-- duals all of which pass a test do so with one more that passes
pub all_set : (test : ℤ → Bool) (duals : List ℤ) (i : ℕ) (v : ℤ) → list_all test duals ≡ true → test v ≡ true → list_all test (slice_set duals i v) ≡ true
all_set test [] i v h e = refl
all_set test (dual ∷ duals) zero v h e = let parts = and_parts (test dual) (list_all test duals) h in rw (e, parts.1) refl
all_set test (dual ∷ duals) (suc i) v h e =
    let parts = and_parts (test dual) (list_all test duals) h in
    rw (parts.0, all_set test duals i v parts.1 e) refl

pub all_same : (test : ℤ → Bool) (n : ℕ) (v : ℤ) → test v ≡ true → list_all test (replicate n v) ≡ true
all_same test zero v e = refl
all_same test (suc n) v e = rw (e, all_same test n v e) refl

-- one cover more at the end
pub one_cover_more : (first k : ℕ) (covers : List Cover) (cover : Cover) → k ≡ first + length covers → cover_events first (covers ++ cover ∷ []) ≡ cover_events first covers ++ cover_event k cover
one_cover_more first k [] cover is = let here : k ≡ first = omega (arith, is) in rw (here, append-nil (cover_event first cover)) refl
one_cover_more first k (one ∷ covers) cover is =
    ap (λ rest. cover_event first one ++ rest) (one_cover_more (first + 1) k covers cover (omega (arith, is))) ∙ sym (append_assoc (cover_event first one) (cover_events (first + 1) covers) (cover_event k cover))
