-- Pieces that a sink takes, one after the other: two that it takes are their texts joined, and a front of the next
-- behind what it took is a front of the whole.
use Rattle.std.proofs.Common.{◌≡◌, ◌∙◌, ℕ, ◌+◌, ◌<◌, List, [], ◌∷◌, ◌++◌, Option, Some, None, length, take, drop, get_or, refl, ap, sym, append_assoc}
use Rattle.std.proofs.lemmas.List.{append-nil, drop_more, take_more, take-append-drop}
use Rattle.tail_outside.specs.Outside.{Adds, AddsFront}
use Rattle.plan_report.specs.Lines.{text_of}

pub adds-nothing : (told : Option (List ℕ)) → Adds told told []
adds-nothing None = tt
adds-nothing (Some old) = rw append-nil refl

pub adds-more : (a b c : Option (List ℕ)) (x y : List ℕ) → Adds a b x → Adds b c y → Adds a c (x ++ y)
adds-more None b c x y h k = tt
adds-more (Some old) b c x y h k = rw h at k ∙ rw append_assoc refl

regrouped : (x y z taken rest : List ℕ) → y ≡ taken ++ rest → x ++ (y ++ z) ≡ (x ++ taken) ++ (rest ++ z)
regrouped x y z taken rest same = rw same (ap (λ (t : List ℕ). x ++ t) (append_assoc taken rest z) ∙ sym (append_assoc x taken (rest ++ z)))

pub adds-front : (a b c : Option (List ℕ)) (x y z : List ℕ) → Adds a b x → AddsFront b c y → AddsFront a c (x ++ (y ++ z))
adds-front None b c x y z h k = tt
adds-front (Some old) b c x y z h k =
    let (taken, rest, same, new) = rw h at k in
    (x ++ taken, rest ++ z, regrouped x y z taken rest same, new ∙ ap Some (append_assoc old x taken))

pub text_of-append : (xs ys : List (List ℕ)) → text_of (xs ++ ys) ≡ text_of xs ++ text_of ys
text_of-append [] ys = refl
text_of-append (x ∷ xs) ys = rw (text_of-append xs ys, append_assoc) refl

-- the text up to a line and with it, and the whole text around it
module _ (lines : List (List ℕ)) (i : ℕ) (x : List ℕ) (within : i < length lines) (here : x ≡ get_or lines i x) where
  pub text_of-more : text_of (take (i + 1) lines) ≡ text_of (take i lines) ++ x
  text_of-more =
      let more : take (i + 1) lines ≡ take i lines ++ x ∷ [] = take_more lines i x within ∙ rw (← here) refl in
      rw (more, text_of-append (take i lines) (x ∷ []), append-nil) refl

  pub text_of-around : text_of lines ≡ text_of (take i lines) ++ (x ++ text_of (drop (i + 1) lines))
  text_of-around =
      let next : drop i lines ≡ x ∷ drop (i + 1) lines = drop_more lines i x within ∙ rw (← here) refl in
      ap text_of (sym (take-append-drop i lines)) ∙ text_of-append (take i lines) (drop i lines) ∙ rw next refl
