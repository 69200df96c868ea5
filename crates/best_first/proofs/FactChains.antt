-- Facts that share their beginnings. What stands up to an end is decided by the links before it, so links that are added change nothing
-- there; and since each link comes behind the one before it, an end is the facts up to the one before it and one fact more.
use Rattle.std.proofs.Common.{◌≡◌, ◌∙◌, ◌≤◌, ◌<◌, ℕ, zero, suc, List, [], ◌∷◌, ◌++◌, length, refl, sym, ap, subst, arith, append_assoc, append-nil, inl, inr}
use Rattle.std.specs.Prelude.{nat_eq, Bool, if◌then◌else◌}
use Rattle.std.proofs.Math.Seq.{get_or-append_seam}
use Rattle.std.proofs.lemmas.Bool.Decides.{eqb_tells}
use Rattle.std.proofs.lemmas.Bool.{eq-eqb, cases_order}
use Rattle.std.proofs.lemmas.List.{length-append, get_or_append_left}
use Rattle.branch_marks.specs.declared.fact.Fact.{Fact}
use Rattle.branch_marks.specs.declared.fact.Fact.TheVariants.{Bar}
use Rattle.best_first.specs.declared.links.Link.{Link}
use Rattle.best_first.specs.inside.Links.{link_at, facts_by, facts_at, AreLinks, IsLinked}

module _ (links : List Link) where
  by_less : (i end : ℕ) → end ≤ i → facts_by links i end ≡ facts_by links end end
  unfolding facts_by
  by_less zero zero less = refl
  by_less zero (suc end) less = absurd (omega (arith, less))
  by_less (suc i) end less = elim (eqb_tells end (suc i)) [
    | inl same ↦ subst (λ (e : ℕ). facts_by links (suc i) e ≡ facts_by links e e) (sym same.1) refl
    | inr other ↦ ap
        (λ (b : Bool). if b then facts_by links i (link_at links i).before ++ (link_at links i).fact ∷ [] else facts_by links i end)
        other.0 ∙ by_less i end (omega (arith, less, other.1))
  ]

  -- one fact more
  pub facts_end : (i : ℕ) → (link_at links i).before ≤ i → facts_at links (suc i) ≡ facts_at links (link_at links i).before ++ (link_at links i).fact ∷ []
  unfolding facts_by
  facts_end i behind =
      ap
      (λ (b : Bool). if b then facts_by links i (link_at links i).before ++ (link_at links i).fact ∷ [] else facts_by links i (suc i))
      (eq-eqb (suc i) (suc i) refl)
      ∙ ap (λ (f : List Fact). f ++ (link_at links i).fact ∷ []) (by_less i (link_at links i).before behind)

  module _ (more : List Link) where
    by_more : (i end : ℕ) → i ≤ length links → facts_by (links ++ more) i end ≡ facts_by links i end
    unfolding facts_by
    by_more zero end within = refl
    by_more (suc i) end within =
        let less : i < length links = omega (arith, within) in
        let under : i ≤ length links = omega (arith, within) in
        let same : link_at (links ++ more) i ≡ link_at links i = get_or_append_left links more (record { fact = Bar 0 0; before = 0 }) i less in
        ap
        (λ (l : Link). if nat_eq end (suc i) then facts_by (links ++ more) i l.before ++ l.fact ∷ [] else facts_by (links ++ more) i end)
        same
        ∙ ap
        (λ (f : List Fact). if nat_eq end (suc i) then f ++ (link_at links i).fact ∷ [] else facts_by (links ++ more) i end)
        (by_more i (link_at links i).before under)
        ∙ ap
        (λ (f : List Fact). if nat_eq end (suc i) then facts_by links i (link_at links i).before ++ (link_at links i).fact ∷ [] else f)
        (by_more i end under)

    -- more links change nothing before them
    pub facts_more : (end : ℕ) → end ≤ length links → facts_at (links ++ more) end ≡ facts_at links end
    facts_more end within = by_more end end within

-- no facts were added
pub linked_none : (links : List Link) (end : ℕ) → AreLinks links → end ≤ length links → IsLinked links links end [] end
linked_none links end are within = record {
  more = [];
  same = sym (append-nil links);
  links = are;
  within = within;
  is = sym (append-nil (facts_at links end));
}

module _ (links : List Link) (end : ℕ) (fact : Fact) (are : AreLinks links) (within : end ≤ length links) where
  here : Link
  here = record { fact = fact; before = end }

  abbrev with_here : List Link
  with_here = links ++ record { fact = fact; before = end } ∷ []

  long : length with_here ≡ suc (length links)
  long = let e = length-append links (record { fact = fact; before = end } ∷ []) in omega (arith, e)

  last_is : link_at with_here (length links) ≡ record { fact = fact; before = end }
  last_is = get_or-append_seam links (record { fact = fact; before = end }) [] (record { fact = Bar 0 0; before = 0 })

  before_is : (i : ℕ) → i < length links → link_at with_here i ≡ link_at links i
  before_is i less = get_or_append_left links (record { fact = fact; before = end } ∷ []) (record { fact = Bar 0 0; before = 0 }) i less

  are_with : AreLinks with_here
  are_with i less = elim (cases_order i (length links)) [
    | inl same ↦ subst (λ (j : ℕ). (link_at with_here j).before ≤ j) (sym same)
        (subst (λ (l : Link). l.before ≤ length links) (sym last_is) within)
    | inr o ↦ elim o [
      | inl under ↦ subst (λ (l : Link). l.before ≤ i) (sym (before_is i under)) (are i under)
      | inr over ↦ absurd (omega (arith, less, over, long))
    ]
  ]

  facts_with : facts_at with_here (suc (length links)) ≡ facts_at links end ++ fact ∷ []
  facts_with =
      let behind : (link_at with_here (length links)).before ≤ length links = subst (λ (l : Link). l.before ≤ length links) (sym last_is) within in
      facts_end with_here (length links) behind
      ∙ ap (λ (l : Link). facts_at with_here l.before ++ l.fact ∷ []) last_is
      ∙ ap (λ (f : List Fact). f ++ fact ∷ []) (facts_more links (record { fact = fact; before = end } ∷ []) end within)

  -- one fact was added
  pub linked_one : (last : ℕ) → last ≡ length with_here → IsLinked links with_here end (fact ∷ []) last
  linked_one last is = record {
    more = record { fact = fact; before = end } ∷ [];
    same = refl;
    links = are_with;
    within = omega (arith, is);
    is = subst (λ (n : ℕ). facts_at with_here n ≡ facts_at links end ++ fact ∷ []) (sym (is ∙ long)) facts_with;
  }

-- facts were added one after the other
pub linked_then : (old between new : List Link) (end middle last : ℕ) (one two : List Fact) → IsLinked old between end one middle
    → IsLinked between new middle two last → IsLinked old new end (one ++ two) last
linked_then old between new end middle last one two first second = record {
  more = first.more ++ second.more;
  same = second.same ∙ ap (λ (l : List Link). l ++ second.more) first.same ∙ append_assoc old first.more second.more;
  links = second.links;
  within = second.within;
  is = second.is ∙ ap (λ (f : List Fact). f ++ two) first.is ∙ append_assoc (facts_at old end) one two;
}

-- what stood up to an end still does
module _ (old new : List Link) (more : List Link) (same : new ≡ old ++ more) (end : ℕ) (within : end ≤ length old) where
  pub still_facts : facts_at new end ≡ facts_at old end
  still_facts = subst (λ (l : List Link). facts_at l end ≡ facts_at old end) (sym same) (facts_more old more end within)

  pub still_within : end ≤ length new
  still_within = let e = length-append old more in subst (λ (l : List Link). end ≤ length l) (sym same) (omega (arith, e, within))

pub facts_none : (links : List Link) → facts_at links 0 ≡ []
unfolding facts_by
facts_none links = refl
