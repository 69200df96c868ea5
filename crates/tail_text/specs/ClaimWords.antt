-- What a claim says, in words: how a certificate spells it, and how it is printed. For src/claims.rt.
use Rattle.std.specs.Prelude.{ℕ, List, [], ◌∷◌, Option, Some, None, decimal, codes}
use Rattle.std.specs.List.{join_with_byte}
use Rattle.tail_book.specs.declared.claim.Claim.{Claim}
use Rattle.tail_book.specs.declared.claim.Claim.TheVariants.{Optimal, Infeasible, Limit}
use Rattle.tail_text.specs.Parts.{space}

-- the cost of the best plan, or a hyphen where there is none
abbrev pub high_word : Option ℕ → List ℕ
high_word None = codes "-"
high_word (Some high) = decimal high

-- the least cost, that no plan is legal, or the bound and the cost of the best plan
abbrev pub claim_words : Claim → List (List ℕ)
claim_words (Optimal cost) = codes "optimal" ∷ decimal cost ∷ []
claim_words Infeasible = codes "infeasible" ∷ []
claim_words (Limit low high) = codes "limit" ∷ decimal low ∷ high_word high ∷ []

-- the words, with a space between each two
abbrev pub claim_text : Claim → List ℕ
claim_text claim = join_with_byte space (claim_words claim)
