-- The flier of an activity is the first aircraft whose route has it. The code goes over the routes in order and notes
-- an aircraft where nobody is noted yet. By the routes that are left: the flier is who is noted, or, where nobody is,
-- the first of these routes that has the activity. Within a route by its activities, one and then the others. Nobody is
-- noted as a number as well, that of the routes, so it is below it that an aircraft k counts as somebody.
use Rattle.std.proofs.Common.{◌≡◌, ◌∙◌, ℕ, ◌<◌, ◌+◌, ◌≤◌, inl, inr, Bool, true, false, arith, List, [], ◌∷◌, length, refl, sym, ap, subst, set, drop, length-set, get_or}
use Rattle.std.proofs.lemmas.Bool.{cases_eq, eq-eqb, ne_eqb}
use Rattle.std.proofs.lemmas.Grind.{same_number_lists}
use Rattle.std.proofs.lemmas.List.{get_or-set_same, get_or-set_other, drop_all, drop_more}
use Rattle.std.proofs.lemmas.List.FromFn.{length-map-range_with_len, get_or-map-range_with_len}
use Rattle.std.specs.Prelude.{◌&&◌, ◌||◌, if◌then◌else◌, nat_eq}
use Rattle.tail_book.specs.Numbers.{contains}
use Rattle.tail_book.specs.Fliers.{flier, fliers_of}
use Rattle.cert_writer.specs.inside.Noting.{noted, NotesRoute}

-- a route without the activity changes nothing
noted-nothing : (k nobody a before : ℕ) → before ≡ noted [] k nobody a before
noted-nothing k nobody a before = by_case (nat_eq before nobody)
  where
    by_case : (b : Bool) → before ≡ (if b && false then k else before)
    by_case true = refl
    by_case false = refl

-- another activity is gone over
noted-other : (x : ℕ) (rest : List ℕ) (k nobody a before : ℕ) → nat_eq a x ≡ false → noted rest k nobody a before ≡ noted (x ∷ rest) k nobody a before
noted-other x rest k nobody a before other = ap (λ (b : Bool). if nat_eq before nobody && (b || contains rest a) then k else before) (sym other)

-- somebody is noted already
noted-kept : (route rest : List ℕ) (k nobody a before : ℕ) → nat_eq before nobody ≡ false → noted rest k nobody a before ≡ noted route k nobody a before
noted-kept route rest k nobody a before is = ap (λ (b : Bool). if b && contains rest a then k else before) is ∙ ap (λ (b : Bool). if b && contains route a then k else before) (sym is)

-- the activity is gone over, and nobody is noted
noted-now : (x : ℕ) (rest : List ℕ) (k nobody a before : ℕ) → nat_eq a x ≡ true → nat_eq before nobody ≡ true → noted rest k nobody a k ≡ noted (x ∷ rest) k nobody a before
noted-now x rest k nobody a before here is =
    by_case (nat_eq k nobody && contains rest a)
    ∙ ap (λ (b : Bool). if b && (true || contains rest a) then k else before) (sym is)
    ∙ ap (λ (b : Bool). if nat_eq before nobody && (b || contains rest a) then k else before) (sym here)
  where
    by_case : (b : Bool) → (if b then k else k) ≡ k
    by_case true = refl
    by_case false = refl

notes-none : (k nobody : ℕ) (fliers : List ℕ) → NotesRoute [] k nobody fliers fliers
notes-none k nobody fliers = record {
  count = refl;
  each = λ a lt. noted-nothing k nobody a (get_or fliers a 0);
}

-- aircraft k is noted
pub notes-set : (x k nobody : ℕ) (fliers : List ℕ) → x < length fliers → get_or fliers x 0 ≡ nobody → NotesRoute (x ∷ []) k nobody fliers (set fliers x k)
notes-set x k nobody fliers within is = record {
  count = length-set fliers x k;
  each = λ a lt. elim (cases_eq a x) [
    | inl same ↦ ap (λ (b : ℕ). get_or (set fliers x k) b 0) same ∙ get_or-set_same fliers x k 0 within ∙ noted-nothing k nobody a k
        ∙ noted-now x [] k nobody a (get_or fliers a 0) (eq-eqb a x same) (eq-eqb (get_or fliers a 0) nobody (ap (λ (b : ℕ). get_or fliers b 0) same ∙ is))
    | inr other ↦ get_or-set_other fliers x a k 0 other ∙ noted-nothing k nobody a (get_or fliers a 0)
        ∙ noted-other x [] k nobody a (get_or fliers a 0) (ne_eqb a x other)
  ];
}

-- the activity is none of these, or somebody is noted for it
pub notes-kept : (x k nobody : ℕ) (fliers : List ℕ) → (x < length fliers → get_or fliers x 0 ≡ nobody → ⊥) → NotesRoute (x ∷ []) k nobody fliers fliers
notes-kept x k nobody fliers kept = record {
  count = refl;
  each = λ a lt. elim (cases_eq a x) [
    | inl same ↦ noted-nothing k nobody a (get_or fliers a 0)
        ∙ noted-kept (x ∷ []) [] k nobody a (get_or fliers a 0)
        (ne_eqb (get_or fliers a 0) nobody (λ e. kept (subst (λ (b : ℕ). b < length fliers) same lt) (ap (λ (b : ℕ). get_or fliers b 0) (sym same) ∙ e)))
    | inr other ↦ noted-nothing k nobody a (get_or fliers a 0) ∙ noted-other x [] k nobody a (get_or fliers a 0) (ne_eqb a x other)
  ];
}

-- one activity is gone over, and then the others
noted-then : (x : ℕ) (rest : List ℕ) (k nobody a before : ℕ) → noted rest k nobody a (noted (x ∷ []) k nobody a before) ≡ noted (x ∷ rest) k nobody a before
noted-then x rest k nobody a before = elim (cases_eq a x) [
  | inl here ↦ elim (cases_eq before nobody) [
    | inl is ↦ ap (λ (now : ℕ). noted rest k nobody a now) (sym (noted-nothing k nobody a k ∙ noted-now x [] k nobody a before (eq-eqb a x here) (eq-eqb before nobody is)))
        ∙ noted-now x rest k nobody a before (eq-eqb a x here) (eq-eqb before nobody is)
    | inr somebody ↦ ap (λ (now : ℕ). noted rest k nobody a now) (sym (noted-nothing k nobody a before ∙ noted-kept (x ∷ []) [] k nobody a before (ne_eqb before nobody somebody)))
        ∙ noted-kept (x ∷ rest) rest k nobody a before (ne_eqb before nobody somebody)
  ]
  | inr other ↦ ap (λ (now : ℕ). noted rest k nobody a now) (sym (noted-nothing k nobody a before ∙ noted-other x [] k nobody a before (ne_eqb a x other)))
      ∙ noted-other x rest k nobody a before (ne_eqb a x other)
]

notes-then : (x : ℕ) (rest : List ℕ) (k nobody : ℕ) (old mid new : List ℕ) → NotesRoute (x ∷ []) k nobody old mid → NotesRoute rest k nobody mid new
    → NotesRoute (x ∷ rest) k nobody old new
notes-then x rest k nobody old mid new first later = record {
  count = later.count ∙ first.count;
  each = λ a lt.
      later.each a (subst (λ (n : ℕ). a < n) (sym first.count) lt)
      ∙ ap (λ (now : ℕ). noted rest k nobody a now) (first.each a lt)
      ∙ noted-then x rest k nobody a (get_or old a 0);
}

-- what is left of the route is still to be gone over
abbrev pub IsLeft : List ℕ → ℕ → ℕ → ℕ → List ℕ → List ℕ → Type 0
IsLeft route i k nobody old mid = (new : List ℕ) → NotesRoute (drop i route) k nobody mid new → NotesRoute route k nobody old new

pub left-more : (route : List ℕ) (i k nobody : ℕ) (old mid next : List ℕ) → i < length route → NotesRoute (get_or route i 0 ∷ []) k nobody mid next
    → IsLeft route i k nobody old mid → IsLeft route (i + 1) k nobody old next
left-more route i k nobody old mid next lt one left = λ new later.
    left new (subst (λ (rest : List ℕ). NotesRoute rest k nobody mid new) (sym (drop_more route i 0 lt)) (notes-then (get_or route i 0) (drop (i + 1) route) k nobody mid next new one later))

pub left-none : (route : List ℕ) (i k nobody : ℕ) (old mid : List ℕ) → length route ≤ i → IsLeft route i k nobody old mid → NotesRoute route k nobody old mid
left-none route i k nobody old mid le left = left mid (subst (λ (rest : List ℕ). NotesRoute rest k nobody mid mid) (sym (drop_all i route le)) (notes-none k nobody mid))

-- the flier of an activity: who is noted, or, where nobody is yet, the first of the routes from k on that has it
abbrev pub found_or : ℕ → List (List ℕ) → ℕ → ℕ → ℕ → ℕ
found_or k rest nobody a before = if nat_eq before nobody then k + flier rest a else before

found-last : (nobody a before : ℕ) → found_or nobody [] nobody a before ≡ before
found-last nobody a before = elim (cases_eq before nobody) [
  | inl e ↦ (let same : nobody + 0 ≡ before = omega (arith, e) in ap (λ (b : Bool). if b then nobody + 0 else before) (eq-eqb before nobody e) ∙ same)
  | inr somebody ↦ ap (λ (b : Bool). if b then nobody + 0 else before) (ne_eqb before nobody somebody)
]

-- the first k routes are gone over
pub record AreNoted (routes : List (List ℕ)) (n k : ℕ) (fliers : List ℕ) : Type 0 where
  pub count : length fliers ≡ n
  pub each : (a : ℕ) → a < n → flier routes a ≡ found_or k (drop k routes) (length routes) a (get_or fliers a 0)

pub noted-end : (routes : List (List ℕ)) (n k : ℕ) (fliers : List ℕ) → k ≡ length routes → AreNoted routes n k fliers → fliers ≡ fliers_of routes n
noted-end routes n k fliers e all =
    same_number_lists fliers (fliers_of routes n) (all.count ∙ sym (length-map-range_with_len (flier routes) 0 n))
    (λ a lt. let la : a < n = subst (λ (m : ℕ). a < m) all.count lt in
    sym (get_or-map-range_with_len (flier routes) 0 n a a 0 la (omega arith) ∙ all.each a la
    ∙ ap (λ (rest : List (List ℕ)). found_or k rest (length routes) a (get_or fliers a 0)) (drop_all k routes (omega (arith, e)))
    ∙ ap (λ (m : ℕ). found_or m [] (length routes) a (get_or fliers a 0)) e
    ∙ found-last (length routes) a (get_or fliers a 0)))

-- the fliers of few activities are few
pub few-fliers : (routes : List (List ℕ)) (n : ℕ) (fliers : List ℕ) → fliers ≡ fliers_of routes n → n < 4294967296 → length fliers < 4294967296
few-fliers routes n fliers is few = subst (λ (m : ℕ). m < 4294967296) (sym (ap (λ (items : List ℕ). length items) is ∙ length-map-range_with_len (flier routes) 0 n)) few
