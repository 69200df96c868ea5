-- How a line is spelled: its words, with a space between each two, and no newline.
use Rattle.std.specs.Prelude.{ℕ, ℤ, List, [], ◌∷◌, ◌++◌, map, decimal, codes}
use Rattle.std.specs.Fmt.{signed_decimal}
use Rattle.tail_book.specs.declared.claim.Claim.{Claim}
use Rattle.tail_text.specs.ClaimWords.{claim_words}
use Rattle.tail_text.specs.Parts.{space}
use Rattle.branch_marks.specs.declared.event.Event.{Event}
use Rattle.branch_marks.specs.declared.event.Event.TheVariants as event
use Rattle.branch_marks.specs.declared.fact.Fact.{Fact}
use Rattle.branch_marks.specs.declared.fact.Fact.TheVariants.{Bar, Must, Cut, Tie}
use Rattle.branch_marks.specs.declared.fact.Pair.{Pair}
use Rattle.branch_marks.specs.declared.fact.Pair.TheVariants.{Fly, Link}
use Rattle.cert_lines.specs.declared.cert_line.CertLine.{CertLine}
use Rattle.cert_lines.specs.declared.cert_line.CertLine.TheVariants as line

-- a step: the fact that follows. No line is spelled for a tie, since no tie ever follows
abbrev pub fact_words : Fact → List (List ℕ)
fact_words (Bar k a) = codes "bar" ∷ decimal k ∷ decimal a ∷ []
fact_words (Must k a) = codes "must" ∷ decimal k ∷ decimal a ∷ []
fact_words (Cut a b) = codes "cut" ∷ decimal a ∷ decimal b ∷ []
fact_words (Tie a b) = []

-- a split: what it decides
abbrev pub pair_words : Pair → List (List ℕ)
pair_words (Fly k a) = codes "split" ∷ codes "fly" ∷ decimal k ∷ decimal a ∷ []
pair_words (Link a b) = codes "split" ∷ codes "link" ∷ decimal a ∷ decimal b ∷ []

-- a label: its activity, its weight and its counters
abbrev pub label_words : ℕ → ℤ → List ℤ → List (List ℕ)
label_words a v counters = codes "label" ∷ decimal a ∷ signed_decimal v ∷ map signed_decimal counters

-- an event of the proof tree
abbrev pub event_words : Event → List (List ℕ)
event_words (event.Fact fact) = fact_words fact
event_words (event.Split pair) = pair_words pair
event_words (event.Hole a) = codes "hole" ∷ decimal a ∷ []
event_words (event.Stuck k) = codes "stuck" ∷ decimal k ∷ []
event_words event.Bound = codes "bound" ∷ []
event_words (event.Dual a v) = codes "dual" ∷ decimal a ∷ signed_decimal v ∷ []
event_words (event.Cover k v) = codes "cover" ∷ decimal k ∷ signed_decimal v ∷ []
event_words (event.Label a v counters) = label_words a v counters

-- what is claimed
abbrev pub claim_line_words : Claim → List (List ℕ)
claim_line_words claim = codes "claim" ∷ claim_words claim

-- the words of a line
abbrev pub words_of : CertLine → List (List ℕ)
words_of (line.Header version n m c) = codes "tailcert" ∷ decimal version ∷ decimal n ∷ decimal m ∷ decimal c ∷ []
words_of (line.Event event) = event_words event
words_of line.Lean = codes "lean" ∷ []
words_of line.Plan = codes "plan" ∷ []
words_of (line.Fly a k) = codes "fly" ∷ decimal a ∷ decimal k ∷ []
words_of (line.Claim claim) = claim_line_words claim

-- a space before each word
abbrev pub behind : List (List ℕ) → List ℕ
behind [] = []
behind (word ∷ words) = space ∷ word ++ behind words

-- the words, with a space between each two
abbrev pub spaced : List (List ℕ) → List ℕ
spaced [] = []
spaced (word ∷ words) = word ++ behind words

-- the line as it is written, without its newline
abbrev pub spelling : CertLine → List ℕ
spelling line = spaced (words_of line)
