-- The first word of a line, which says what the line is.
use Rattle.std.specs.Prelude.{ℕ, List, [], ◌∷◌, Option, Some, None, if◌then◌else◌, codes}
use Rattle.std.specs.Str.{bytes_eq}
use Rattle.cert_lines.specs.declared.keyword.Keyword.{Keyword}
use Rattle.cert_lines.specs.declared.keyword.Keyword.TheVariants.{Tailcert, Bar, Must, Cut, Hole, Stuck, Bound, Lean, Dual, Cover, Label, Split, Plan, Fly, Claim}

-- the word
abbrev pub key_text : Keyword → List ℕ
key_text Tailcert = codes "tailcert"
key_text Bar = codes "bar"
key_text Must = codes "must"
key_text Cut = codes "cut"
key_text Hole = codes "hole"
key_text Stuck = codes "stuck"
key_text Bound = codes "bound"
key_text Lean = codes "lean"
key_text Dual = codes "dual"
key_text Cover = codes "cover"
key_text Label = codes "label"
key_text Split = codes "split"
key_text Plan = codes "plan"
key_text Fly = codes "fly"
key_text Claim = codes "claim"

-- the first of these keywords whose word this is, or what comes after them
abbrev pub keyword_among : List Keyword → List ℕ → Option Keyword → Option Keyword
keyword_among [] word after = after
keyword_among (key ∷ keys) word after = if bytes_eq word (key_text key) then Some key else keyword_among keys word after

-- the keywords, in two parts: those of many lines, and those of few
abbrev pub seldom_keyword_of : List ℕ → Option Keyword
seldom_keyword_of word = keyword_among (Split ∷ Lean ∷ Hole ∷ Stuck ∷ Fly ∷ Plan ∷ Claim ∷ Tailcert ∷ []) word None

-- the keyword that the word is
abbrev pub keyword_of : List ℕ → Option Keyword
keyword_of word = keyword_among (Label ∷ Cover ∷ Dual ∷ Bar ∷ Must ∷ Cut ∷ Bound ∷ []) word (seldom_keyword_of word)
