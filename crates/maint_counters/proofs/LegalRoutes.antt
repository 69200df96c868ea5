-- What is left of a route decides: it is refused where its first activity may not come, and else goes on behind it.
use Rattle.std.proofs.Common.{◌≡◌, ◌∙◌, sym, ap, arith, ℕ, ◌+◌, ◌<◌, ℤ, Bool, true, false, ◌&&◌, nat_lt, List, ◌∷◌, length, get_or, drop}
use Rattle.std.proofs.lemmas.List.{drop_more}
use Rattle.tail_book.specs.Seen.{BookSeen}
use Rattle.tail_book.specs.Lookup.{activities}
use Rattle.tail_book.specs.declared.place.Place.{Place}
use Rattle.tail_book.specs.declared.place.Place.TheVariants.{After}
use Rattle.tail_book.specs.Counters.{step}
use Rattle.tail_book.specs.LegalTests.{is_link, within_limits, is_legal_from}
use Rattle.maint_counters.specs.inside.LegalRoute.{is_legal_next}

chain-false : (a b c d r : Bool) → r ≡ (a && (b && c)) → r ≡ false → (a && (b && (c && d))) ≡ false
chain-false a b c d r e f = grind arith

chain-true : (a b c d r : Bool) → r ≡ (a && (b && c)) → r ≡ true → (a && (b && (c && d))) ≡ d
chain-true a b c d r e f = grind arith

module _ (book : BookSeen) (k : ℕ) (x : Place) (values : List ℤ) (route : List ℕ) (i b : ℕ) (within : i < length route) (here : b ≡ get_or route i b) where
  next : drop i route ≡ b ∷ drop (i + 1) route
  next = drop_more route i b within ∙ ap (λ y. y ∷ drop (i + 1) route) (sym here)

  -- the next activity may not come
  pub route-refused : (r : Bool) → r ≡ is_legal_next book k x b values → r ≡ false
      → is_legal_from book k x values (drop i route) ≡ false
  route-refused r e f =
      ap (is_legal_from book k x values) next
      ∙ chain-false (nat_lt b (activities book)) (is_link book k x b) (within_limits book.rules.counters (step book k x b values)) (is_legal_from book k (After b) (step book k x b values) (drop (i + 1) route)) r e f

  -- it may, and the rest decides
  pub route-goes_on : (r : Bool) (now : List ℤ) → r ≡ is_legal_next book k x b values → r ≡ true
      → now ≡ step book k x b values → is_legal_from book k x values (drop i route) ≡ is_legal_from book k (After b) now (drop (i + 1) route)
  route-goes_on r now e t steps =
      ap (is_legal_from book k x values) next
      ∙ chain-true (nat_lt b (activities book)) (is_link book k x b) (within_limits book.rules.counters (step book k x b values)) (is_legal_from book k (After b) (step book k x b values) (drop (i + 1) route)) r e t
      ∙ ap (λ v. is_legal_from book k (After b) v (drop (i + 1) route)) (sym steps)
