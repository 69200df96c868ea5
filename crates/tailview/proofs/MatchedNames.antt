-- The names among what a command matched are the names that the words give.
use Rattle.std.proofs.Common.{◌≡◌, ◌∙◌, Option, None, Some, ap, option_map, sym}
use Rattle.std.specs.Prelude.{option_and_then}

-- where this was found, and its rows are what is due, what is read of its rows is what is read of those
pub read-found : {A R N : Type 0} (read : R → Option N) (rows : A → R) (due : Option R) (found : Option A) (one : A) → option_map rows found ≡ due → found ≡ Some one
    → read (rows one) ≡ option_and_then read due
read-found {A} {R} read rows due found one got is =
    ap (λ (o : Option A). option_and_then read (option_map rows o)) (sym is) ∙ ap (λ (d : Option R). option_and_then read d) got

-- and where nothing was found, there are none
pub read-none : {A R N : Type 0} (read : R → Option N) (rows : A → R) (due : Option R) (found : Option A) → option_map rows found ≡ due → found ≡ None
    → None ≡ option_and_then read due
read-none {A} {R} {N} read rows due found got is =
    ap (λ (o : Option A). option_and_then read (option_map rows o)) (sym is) ∙ ap (λ (d : Option R). option_and_then read d) got
