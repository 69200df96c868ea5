-- Facts that share their beginnings: each is kept once, with where the one before it is. For src/links.rt.
use Rattle.std.specs.Prelude.{◌≡◌, ◌<◌, ◌≤◌, ℕ, zero, suc, List, [], ◌∷◌, ◌++◌, length, nat_eq, slice_index_or, if◌then◌else◌}
use Rattle.branch_marks.specs.declared.fact.Fact.{Fact}
use Rattle.branch_marks.specs.declared.fact.Fact.TheVariants.{Bar}
use Rattle.best_first.specs.declared.links.Link.{Link}

-- the link of a number, and an empty one past the end
abbrev pub link_at : List Link → ℕ → Link
link_at links i = slice_index_or links i (record { fact = Bar 0 0; before = 0 })

-- the facts up to an end, which is one more than the number of the last link, by so many of the links; none up to 0
unfoldable pub facts_by : List Link → ℕ → ℕ → List Fact
facts_by links zero end = []
facts_by links (suc i) end =
    if nat_eq end (suc i) then facts_by links i (link_at links i).before ++ (link_at links i).fact ∷ [] else facts_by links i end

abbrev pub facts_at : List Link → ℕ → List Fact
facts_at links end = facts_by links end end

-- each link comes behind the one before it
abbrev pub AreLinks : List Link → Type 0
AreLinks links = (i : ℕ) → i < length links → (link_at links i).before ≤ i

-- links were added, and up to the last of them there are these facts behind those up to the end
pub record IsLinked (old new : List Link) (end : ℕ) (facts : List Fact) (last : ℕ) : Type 0 where
  pub more : List Link
  pub same : new ≡ old ++ more
  pub links : AreLinks new
  pub within : last ≤ length new
  pub is : facts_at new last ≡ facts_at old end ++ facts
