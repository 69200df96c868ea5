-- The line that a text is: its words, which stand between single spaces, are read from the left. For src/line_reader.rt.
use Rattle.std.specs.Prelude.{ℕ, pos, List, [], ◌∷◌, length, Option, Some, None, option_map, option_and_then, if◌then◌else◌, ◌==◌, nat_lt, codes}
use Rattle.std.specs.Bool.{then_some}
use Rattle.std.specs.Ordering.{int_eq}
use Rattle.std.specs.Str.{bytes_eq}
use Rattle.tail_book.specs.declared.claim.Claim.{Claim}
use Rattle.tail_book.specs.declared.claim.Claim.TheVariants.{Optimal, Infeasible, Limit}
use Rattle.tail_text.specs.Parts.{parts_of, space}
use Rattle.branch_marks.specs.declared.event.Event.{Event}
use Rattle.branch_marks.specs.declared.event.Event.TheVariants as event
use Rattle.branch_marks.specs.declared.fact.Fact.TheVariants.{Bar, Must, Cut}
use Rattle.branch_marks.specs.declared.fact.Pair.{Pair}
use Rattle.branch_marks.specs.declared.fact.Pair.TheVariants as pair
use Rattle.cert_lines.specs.declared.cert_line.CertLine.{CertLine}
use Rattle.cert_lines.specs.declared.cert_line.CertLine.TheVariants as line
use Rattle.cert_lines.specs.declared.keyword.Keyword.{Keyword}
use Rattle.cert_lines.specs.declared.keyword.Keyword.TheVariants as key
use Rattle.cert_lines.specs.Keyword.{keyword_of}
use Rattle.cert_lines.specs.Words.{small, large, value, one_number, two_numbers, number_and_value, counters_in}

-- this, where no word is left
abbrev pub where_done : {A : Type 0} → List (List ℕ) → A → Option A
where_done words a = then_some (length words == 0) a

-- one of the two versions
abbrev pub version_in : List ℕ → Option ℕ
version_in word = if bytes_eq word (codes "1") then Some 1 else if bytes_eq word (codes "2") then Some 2 else None

-- the version, and how many activities, aircraft and counters there are
abbrev pub header_in : List (List ℕ) → Option CertLine
header_in (first ∷ n ∷ m ∷ c ∷ []) =
    option_and_then (λ version. option_and_then (λ activities.
    option_map (λ others. line.Header version activities others.0 others.1) (two_numbers (m ∷ c ∷ []))) (small n)) (version_in first)
header_in words = None

-- an activity and its dual, which is not 0
abbrev pub dual_in : List (List ℕ) → Option Event
dual_in words = option_and_then (λ dual. if int_eq dual.1 (pos 0) then None else Some (event.Dual dual.0 dual.1)) (number_and_value words)

-- an activity, a weight, and a counter for each of the book's counters
abbrev pub label_in : List (List ℕ) → Option Event
label_in (a ∷ v ∷ words) =
    option_and_then (λ at. option_and_then (λ weight. option_map (λ counters. event.Label at weight counters) (counters_in words)) (value v)) (small a)
label_in words = None

-- what is split, and on which pair
abbrev pub split_in : List (List ℕ) → Option Pair
split_in (kind ∷ first ∷ second ∷ []) =
    if bytes_eq kind (codes "fly") then option_map (λ both. pair.Fly both.0 both.1) (two_numbers (first ∷ second ∷ []))
    else if bytes_eq kind (codes "link") then option_map (λ both. pair.Link both.0 both.1) (two_numbers (first ∷ second ∷ []))
    else None
split_in words = None

-- one cost
abbrev pub cost_in : List (List ℕ) → Option ℕ
cost_in (cost ∷ []) = large cost
cost_in words = None

-- the limit from a lower bound to the cost that a word writes, which is above it, or a hyphen for none
abbrev pub limit_of : ℕ → List ℕ → Option Claim
limit_of low word =
    if bytes_eq word (codes "-") then Some (Limit low None)
    else option_and_then (λ high. if nat_lt low high then Some (Limit low (Some high)) else None) (large word)

-- a lower bound, and a cost above it or a hyphen
abbrev pub bounds_in : List (List ℕ) → Option Claim
bounds_in (low ∷ high ∷ []) = option_and_then (λ n. limit_of n high) (large low)
bounds_in words = None

-- what is claimed
abbrev pub claim_in : List (List ℕ) → Option Claim
claim_in [] = None
claim_in (kind ∷ words) =
    if bytes_eq kind (codes "infeasible") then where_done words Infeasible
    else if bytes_eq kind (codes "optimal") then option_map Optimal (cost_in words)
    else if bytes_eq kind (codes "limit") then bounds_in words
    else None

-- the event whose line begins with this keyword
abbrev pub event_with : Keyword → List (List ℕ) → Option Event
event_with key.Bar words = option_map (λ both. event.Fact (Bar both.0 both.1)) (two_numbers words)
event_with key.Must words = option_map (λ both. event.Fact (Must both.0 both.1)) (two_numbers words)
event_with key.Cut words = option_map (λ both. event.Fact (Cut both.0 both.1)) (two_numbers words)
event_with key.Hole words = option_map event.Hole (one_number words)
event_with key.Stuck words = option_map event.Stuck (one_number words)
event_with key.Bound words = where_done words event.Bound
event_with key.Dual words = dual_in words
event_with key.Cover words = option_map (λ both. event.Cover both.0 both.1) (number_and_value words)
event_with key.Label words = label_in words
event_with key.Split words = option_map event.Split (split_in words)
event_with key words = None

-- the line that begins with this keyword
abbrev pub line_with : Keyword → List (List ℕ) → Option CertLine
line_with key.Tailcert words = header_in words
line_with key.Lean words = where_done words line.Lean
line_with key.Plan words = where_done words line.Plan
line_with key.Fly words = option_map (λ both. line.Fly both.0 both.1) (two_numbers words)
line_with key.Claim words = option_map line.Claim (claim_in words)
line_with key words = option_map line.Event (event_with key words)

-- the line of these words
abbrev pub line_in : List (List ℕ) → Option CertLine
line_in [] = None
line_in (first ∷ words) = option_and_then (λ key. line_with key words) (keyword_of first)

-- the line that the text is, without its newline
abbrev pub line_of : List ℕ → Option CertLine
line_of text = line_in (parts_of space text)
