-- The values as they are followed, one further on. Those that were followed, and those of what is left, are all of
-- them, so a turn moves the first of what is left behind those that were. Each value that is added can be counted on,
-- so all can.
use Rattle.std.proofs.Common.{◌≡◌, ◌∙◌, ℕ, ◌+◌, ◌^◌, ◌<◌, ℤ, pos, List, [], ◌∷◌, ◌++◌, ap, append_assoc, drop, get_or, length, map, sym}
use Rattle.std.proofs.lemmas.List.{drop_more}
use Rattle.std.proofs.lemmas.List.Elements.{All-append, All-cons, All-nil}
use Rattle.tail_book.specs.Ranges.{IsWithin}
use Rattle.maint_counters.specs.inside.Counts.{AreCountable}
use Rattle.plan_picture.specs.Shares.{followed}

pub followed-more : (values all : List ℤ) (i : ℕ) → i < length values → map followed values ≡ all ++ map followed (drop i values)
    → map followed values ≡ (all ++ followed (get_or values i (pos 0)) ∷ []) ++ map followed (drop (i + 1) values)
followed-more values all i within so_far =
    so_far ∙ ap (λ l. all ++ map followed l) (drop_more values i (pos 0) within) ∙ sym (append_assoc all (followed (get_or values i (pos 0)) ∷ []) (map followed (drop (i + 1) values)))

-- one value more that can be counted on
pub countable-more : (values : List ℤ) (value : ℤ) → AreCountable values → IsWithin (pos 0) (pos (2 ^ 61)) value → AreCountable (values ++ value ∷ [])
countable-more values value all one = All-append (IsWithin (pos 0) (pos (2 ^ 61))) values (value ∷ []) all (All-cons (IsWithin (pos 0) (pos (2 ^ 61))) value [] one (All-nil (IsWithin (pos 0) (pos (2 ^ 61)))))
