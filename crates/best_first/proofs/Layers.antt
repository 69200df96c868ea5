-- Slots that lead from places that are owed to those that are left: one run after the other, with more places behind, cut in two, and
-- with one slot replaced by others that stand at its place and leave none.
use Rattle.std.proofs.Common.{◌≡◌, List, [], ◌∷◌, ◌++◌, refl, sym, ap, subst, append_assoc}
use Rattle.best_first.specs.BestTree.{Owed, Laid}

module _ {S : Type 0} (Stands : Owed → S → List Owed → Type 0) where
  pub laid_none : (owed : List Owed) → Laid Stands owed [] owed
  unfolding Laid
  laid_none owed = refl

  pub laid_end : (owed left : List Owed) → Laid Stands owed [] left → owed ≡ left
  unfolding Laid
  laid_end owed left is = is

  pub laid_one : (here : Owed) (rest : List Owed) (slot : S) (opened : List Owed) → Stands here slot opened → Laid Stands (here ∷ rest) (slot ∷ []) (opened ++ rest)
  unfolding Laid
  laid_one here rest slot opened stands = (opened, stands, refl)

  pub laid_cons : (here : Owed) (rest : List Owed) (slot : S) (slots : List S) (opened left : List Owed) → Stands here slot opened
      → Laid Stands (opened ++ rest) slots left → Laid Stands (here ∷ rest) (slot ∷ slots) left
  unfolding Laid
  laid_cons here rest slot slots opened left stands behind = (opened, stands, behind)

  pub laid_then : (owed : List Owed) (slots : List S) (between : List Owed) (more : List S) (left : List Owed)
      → Laid Stands owed slots between → Laid Stands between more left → Laid Stands owed (slots ++ more) left
  unfolding Laid
  laid_then owed [] between more left one two = subst (λ (o : List Owed). Laid Stands o more left) (sym one) two
  laid_then [] (slot ∷ slots) between more left one two = absurd one
  laid_then (here ∷ owed) (slot ∷ slots) between more left one two = (one.0, one.1, laid_then (one.0 ++ owed) slots between more left one.2 two)

  pub laid_before : (owed : List Owed) (slots : List S) (left rest : List Owed) → Laid Stands owed slots left → Laid Stands (owed ++ rest) slots (left ++ rest)
  unfolding Laid
  laid_before owed [] left rest one = ap (λ (o : List Owed). o ++ rest) one
  laid_before [] (slot ∷ slots) left rest one = absurd one
  laid_before (here ∷ owed) (slot ∷ slots) left rest one = (
    one.0,
    one.1,
    subst (λ (o : List Owed). Laid Stands o slots (left ++ rest)) (append_assoc one.0 owed rest) (laid_before (one.0 ++ owed) slots left rest one.2),
  )

  abbrev IsCut : List Owed → List S → List S → List Owed → Type 0
  IsCut owed slots more left = (between : List Owed) × Laid Stands owed slots between × Laid Stands between more left

  pub laid_cut : (owed : List Owed) (slots more : List S) (left : List Owed) → Laid Stands owed (slots ++ more) left → IsCut owed slots more left
  unfolding Laid
  laid_cut owed [] more left one = (owed, refl, one)
  laid_cut [] (slot ∷ slots) more left one = absurd one
  laid_cut (here ∷ owed) (slot ∷ slots) more left one =
      let rest = laid_cut (one.0 ++ owed) slots more left one.2 in (rest.0, (one.0, one.1, rest.1), rest.2)

  -- the slot stands at the first of the places that are owed
  pub record IsFirst (owed : List Owed) (slot : S) (slots : List S) (left : List Owed) : Type 0 where
    pub here : Owed
    pub rest : List Owed
    pub opened : List Owed
    pub is : owed ≡ here ∷ rest
    pub stands : Stands here slot opened
    pub behind : Laid Stands (opened ++ rest) slots left

  pub laid_first : (owed : List Owed) (slot : S) (slots : List S) (left : List Owed) → Laid Stands owed (slot ∷ slots) left → IsFirst owed slot slots left
  unfolding Laid
  laid_first [] slot slots left one = absurd one
  laid_first (here ∷ owed) slot slots left one =
      record { here = here; rest = owed; opened = one.0; is = refl; stands = one.1; behind = one.2 }

  -- others take the place of a slot that opens nothing
  pub laid_replaced : (owed : List Owed) (before : List S) (slot : S) (behind nodes : List S) (left : List Owed)
      → ((here : Owed) (opened : List Owed) → Stands here slot opened → (opened ≡ []) × Laid Stands (here ∷ []) nodes [])
      → Laid Stands owed (before ++ slot ∷ behind) left → Laid Stands owed (before ++ (nodes ++ behind)) left
  laid_replaced owed before slot behind nodes left takes laid =
      let cut = laid_cut owed before (slot ∷ behind) left laid in
      let first = laid_first cut.0 slot behind left cut.2 in
      let took = takes first.here first.opened first.stands in
      let there : Laid Stands first.rest behind left = subst (λ (o : List Owed). Laid Stands (o ++ first.rest) behind left) took.0 first.behind in
      let nodes_there : Laid Stands (first.here ∷ first.rest) nodes first.rest = laid_before (first.here ∷ []) nodes [] first.rest took.1 in
      let all : Laid Stands (first.here ∷ first.rest) (nodes ++ behind) left = laid_then (first.here ∷ first.rest) nodes first.rest behind left nodes_there there in
      laid_then owed before cut.0 (nodes ++ behind) left cut.1 (subst (λ (o : List Owed). Laid Stands o (nodes ++ behind) left) (sym first.is) all)

module _ {S : Type 0} (Stands Weaker : Owed → S → List Owed → Type 0)
    (weaker : (here : Owed) (slot : S) (opened : List Owed) → Stands here slot opened → Weaker here slot opened) where
  pub laid_weaker : (owed : List Owed) (slots : List S) (left : List Owed) → Laid Stands owed slots left → Laid Weaker owed slots left
  unfolding Laid
  laid_weaker owed [] left one = one
  laid_weaker [] (slot ∷ slots) left one = one
  laid_weaker (here ∷ owed) (slot ∷ slots) left one =
      (one.0, weaker here slot one.0 one.1, laid_weaker (one.0 ++ owed) slots left one.2)

module _ {S : Type 0} (Stands : Owed → S → List Owed → Type 0) (P : S → Type 0)
    (is : (here : Owed) (slot : S) (opened : List Owed) → Stands here slot opened → P slot) where
  abbrev pub Each : List S → Type 0
  Each [] = Unit {0}
  Each (slot ∷ slots) = P slot × Each slots

  pub laid_each : (owed : List Owed) (slots : List S) (left : List Owed) → Laid Stands owed slots left → Each slots
  unfolding Laid
  laid_each owed [] left one = tt
  laid_each [] (slot ∷ slots) left one = absurd one
  laid_each (here ∷ owed) (slot ∷ slots) left one = (is here slot one.0 one.1, laid_each (one.0 ++ owed) slots left one.2)
