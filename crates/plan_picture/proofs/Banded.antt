-- The bands of an airport, one change further on: the bands so far and those of the stretches from here on are all of them.
-- A change that cuts ends a stretch, whose bands come behind the lines so far; any other changes nothing.
use Rattle.std.proofs.Common.{◌≡◌, ◌∙◌, ◌+◌, ◌<◌, ◌≤◌, ◌++◌, ℕ, ℤ, Bool, true, false, List, [], ◌∷◌, Result, Ok, Err, ap, append-nil, append_assoc, drop, get_or, length, refl, sym}
use Rattle.std.proofs.lemmas.List.{drop_all, drop_more}
use Rattle.std.specs.Prelude.{OnOk, if◌then◌else◌}
use Rattle.tail_book.specs.Seen.{BookSeen}
use Rattle.tail_book.specs.declared.rules.Change.{Change}
use Rattle.plan_picture.specs.Curfews.{bands_from, bands_in}
use Rattle.plan_picture.specs.Stretches.{cuts, stretch_from, stretches_from}
use Rattle.plan_picture.specs.declared.stretches.Stretch.{Stretch}
use Rattle.plan_picture.specs.inside.Cuts.{bands_until, from_behind}

one_more : (book : BookSeen) (port height : ℕ) (from to : ℤ) (change : Change) (later : List Change) (lines : List (List ℕ)) (cut : Bool) → cuts from to change ≡ cut
    → lines ++ bands_in book port height (stretches_from book port from to (change ∷ later))
    ≡ (lines ++ (if cut then bands_from book port height (stretch_from book port from change.at) 0 book.rules.curfews else []))
    ++ bands_in book port height (stretches_from book port (if cut then change.at else from) to later)
one_more book port height from to change later lines true is = rw is (sym (append_assoc lines _ _))
one_more book port height from to change later lines false is = rw (is, append-nil lines) refl

module _ (book : BookSeen) (port height : ℕ) (from to : ℤ) (changes : List Change) (i : ℕ) (d : Change) (within : i < length changes) (all lines : List (List ℕ))
    (so_far : all ≡ lines ++ bands_in book port height (stretches_from book port from to (drop i changes))) where
  banded : all ≡ lines ++ bands_in book port height (stretches_from book port from to (get_or changes i d ∷ drop (i + 1) changes))
  banded = so_far ∙ ap (λ l. lines ++ bands_in book port height (stretches_from book port from to l)) (drop_more changes i d within)

  pub banded_behind : all ≡ (lines ++ bands_until book port height from to (get_or changes i d))
      ++ bands_in book port height (stretches_from book port (from_behind from to (get_or changes i d)) to (drop (i + 1) changes))
  banded_behind = banded ∙ one_more book port height from to (get_or changes i d) (drop (i + 1) changes) lines (cuts from to (get_or changes i d)) refl

module _ (book : BookSeen) (port height : ℕ) (from to : ℤ) (changes : List Change) (i : ℕ) (all lines : List (List ℕ))
    (so_far : all ≡ lines ++ bands_in book port height (stretches_from book port from to (drop i changes))) where
  -- behind the last change one stretch is left, whose bands are the last ones
  pub banded_last : {A E : Type 0} (result : Result A E) (last : Stretch) (new : List (List ℕ)) → length changes ≤ i → last ≡ stretch_from book port from to
      → OnOk result (new ≡ lines ++ bands_from book port height last 0 book.rules.curfews) → OnOk result (new ≡ all)
  banded_last (Ok value) last new none is told =
      told ∙ ap (λ (stretch : Stretch). lines ++ bands_from book port height stretch 0 book.rules.curfews) is
      ∙ ap (λ bands. lines ++ bands) (sym (append-nil _))
      ∙ sym (so_far ∙ ap (λ l. lines ++ bands_in book port height (stretches_from book port from to l)) (drop_all i changes none))
  banded_last (Err why) last new none is told = tt
