-- A spelling grows word by word: where memory ends it, what was appended is a front of it. A front of the first part is
-- a front of the whole, and so are the first part and a front of the second. For words of a list, those before place i
-- stand there, and the word at i comes behind them whole or in front.
use Rattle.std.proofs.Common.{◌≡◌, ◌∙◌, ◌+◌, ◌<◌, ℕ, List, [], ◌∷◌, ◌++◌, length, get_or, take, drop, map, refl, sym, ap, append_assoc, take-append-drop}
use Rattle.std.proofs.lemmas.List.{append-nil, drop_more, map-append, take_more}
use Rattle.tail_text.specs.Parts.{space}
use Rattle.cert_lines.specs.Spelling.{behind}
use Rattle.cert_lines.specs.inside.Writing.{AddsFront}

pub behind-append : (words others : List (List ℕ)) → behind (words ++ others) ≡ behind words ++ behind others
behind-append [] others = refl
behind-append (word ∷ words) others = ap (λ rest. space ∷ word ++ rest) (behind-append words others) ∙ ap (λ rest. space ∷ rest) (sym (append_assoc word (behind words) (behind others)))

pub behind-one : (word : List ℕ) → behind (word ∷ []) ≡ space ∷ word
behind-one word = ap (λ rest. space ∷ rest) (append-nil word)

-- nothing was appended, or a front of the first part
pub front_none : (old new text : List ℕ) → new ≡ old → AddsFront old new text
front_none old new text e = ([], text, refl, e ∙ sym (append-nil old))

pub front_first : (old new one other text : List ℕ) → text ≡ one ++ other → AddsFront old new one → AddsFront old new text
front_first old new one other text is (taken, rest, parts, added) = (taken, rest ++ other, is ∙ ap (λ part. part ++ other) parts ∙ append_assoc taken rest other, added)

-- the first part was appended, and a front of the second
pub front_second : (old mid new one other text : List ℕ) → text ≡ one ++ other → mid ≡ old ++ one → AddsFront mid new other → AddsFront old new text
front_second old mid new one other text is first (taken, rest, parts, added) =
    (one ++ taken, rest, is ∙ ap (λ part. one ++ part) parts ∙ sym (append_assoc one taken rest), added ∙ ap (λ so_far. so_far ++ taken) first ∙ append_assoc old one taken)

module _ {X : Type 0} (text : X → List ℕ) (words : List X) (i : ℕ) (lt : i < length words) (d : X) (old mid new : List ℕ) (so_far : mid ≡ old ++ behind (map text (take i words))) where
  -- a word more
  pub word_written : new ≡ mid ++ (space ∷ text (get_or words i d)) → new ≡ old ++ behind (map text (take (i + 1) words))
  word_written added =
      let longer : behind (map text (take (i + 1) words)) ≡ behind (map text (take i words)) ++ (space ∷ text (get_or words i d)) =
      rw (take_more words i d lt, map-append, behind-append, behind-one) refl in
      let more : List ℕ = space ∷ text (get_or words i d) in
      added ∙ ap (λ text. text ++ more) so_far ∙ append_assoc old (behind (map text (take i words))) more ∙ ap (λ rest. old ++ rest) (sym longer)

  -- a front of a word more
  pub word_cut : AddsFront mid new (space ∷ text (get_or words i d)) → AddsFront old new (behind (map text words))
  word_cut front =
      let left : behind (map text (drop i words)) ≡ (space ∷ text (get_or words i d)) ++ behind (map text (drop (i + 1) words)) =
      rw (drop_more words i d lt) refl in
      let whole : behind (map text words) ≡ behind (map text (take i words)) ++ behind (map text (drop i words)) =
      ap (λ all. behind (map text all)) (sym (take-append-drop i words)) ∙ rw (map-append, behind-append) refl in
      front_second old mid new _ _ _ whole so_far (front_first mid new _ _ _ left front)

-- a label's line is its first three words, and then its counters
pub label_parts : (head first second : List ℕ) (counters : List (List ℕ)) → head ++ behind (first ∷ second ∷ counters) ≡ (head ++ behind (first ∷ second ∷ [])) ++ behind counters
label_parts head first second counters =
    ap (λ rest. head ++ rest) (behind-append (first ∷ second ∷ []) counters) ∙ sym (append_assoc head (behind (first ∷ second ∷ [])) (behind counters))
