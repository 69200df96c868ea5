-- The tests of what marks leave open decide their definitions. What one fact lets is told by its kind and by the kind
-- of the place, and each of these cases is a comparison of numbers or nothing at all. Marks let what each of their
-- facts lets, so the test over the list decides it, and with permission and link that is alive, usable, and may end. A
-- route fits by induction along it.
use Rattle.std.specs.Prelude.{not, nat_eq, nat_le, ◌&&◌, ◌||◌}
use Rattle.std.proofs.Common.{ℕ, List, [], ◌∷◌}
use Rattle.std.specs.Bool.{Decides}
use Rattle.std.proofs.lemmas.Bool.Decides.{Decides-eqb, Decides-ltb, Decides-and, Decides-not, Decides-like}
use Rattle.tail_book.specs.Seen.{BookSeen}
use Rattle.tail_book.specs.declared.place.Place.{Place}
use Rattle.tail_book.specs.declared.place.Place.TheVariants.{Carry, After}
use Rattle.tail_book.specs.Lookup.{activities, aircraft}
use Rattle.tail_book.specs.Place.{IsBefore}
use Rattle.tail_book.specs.inside.Tests.{AllowedDecides, LinkDecides}
use Rattle.branch_marks.specs.declared.fact.Fact.{Fact}
use Rattle.branch_marks.specs.declared.fact.Fact.TheVariants.{Bar, Must, Cut, Tie}
use Rattle.branch_marks.specs.Facts.{IsFactOf}
use Rattle.branch_marks.specs.Marks.{IsAt, LetsFly, LetsGo, LetsEnd, IsAlive, IsAliveAt, IsUsable, MayEnd, FitsFrom}
use Rattle.branch_marks.specs.MarkTests.{is_fact_of, is_at, is_before, lets_fly, lets_go, lets_end, is_alive, is_alive_at, is_usable, may_end, fits_from}
use Rattle.branch_marks.specs.inside.MarkTests.{AliveDecides, UsableDecides, MayEndDecides}
use Rattle.branch_marks.proofs.Decisions.{always, never, all_tested, implied, apart, le_tested}

pub fact_of_tested : (book : BookSeen) (fact : Fact) → Decides (is_fact_of book fact) (IsFactOf book fact)
fact_of_tested book (Bar k a) = Decides-and _ _ (Decides-ltb k (aircraft book)) (Decides-ltb a (activities book))
fact_of_tested book (Must k a) = Decides-and _ _ (Decides-ltb k (aircraft book)) (Decides-ltb a (activities book))
fact_of_tested book (Cut a b) = Decides-and _ _ (Decides-ltb a (activities book)) (Decides-ltb b (activities book))
fact_of_tested book (Tie a b) = Decides-and _ _ (Decides-ltb a (activities book)) (Decides-ltb b (activities book))

at_tested : (x : Place) (a : ℕ) → Decides (is_at x a) (IsAt x a)
at_tested Carry a = never
at_tested (After x) a = Decides-eqb x a

before_tested : (x : Place) (a : ℕ) → Decides (is_before x a) (IsBefore x a)
before_tested Carry a = always
before_tested (After x) a = Decides-ltb x a

fly_tested : (k a : ℕ) (fact : Fact) → Decides (lets_fly k a fact) (LetsFly k a fact)
fly_tested k a (Bar j c) = apart (nat_eq j k) (nat_eq c a) (Decides-eqb j k) (Decides-eqb c a)
fly_tested k a (Must j c) = implied (nat_eq c a) (nat_eq j k) (Decides-eqb c a) (Decides-eqb j k)
fly_tested k a (Cut c d) = always
fly_tested k a (Tie c d) = always

go_tested : (k : ℕ) (x : Place) (b : ℕ) (fact : Fact) → Decides (lets_go k x b fact) (LetsGo k x b fact)
go_tested k x b (Bar j c) = always
go_tested k x b (Must j c) =
    Decides-like (not (nat_eq j k && is_before x c) || nat_le b c) (λ f e h. f (e, h)) (λ f h. f h.0 h.1)
    (implied (nat_eq j k && is_before x c) (nat_le b c) (Decides-and (nat_eq j k) (is_before x c) (Decides-eqb j k) (before_tested x c)) (le_tested b c))
go_tested k x b (Cut c d) = apart (is_at x c) (nat_eq d b) (at_tested x c) (Decides-eqb d b)
go_tested k x b (Tie c d) = Decides-and (not (is_at x c) || nat_eq d b) (not (nat_eq d b) || is_at x c)
    (implied (is_at x c) (nat_eq d b) (at_tested x c) (Decides-eqb d b)) (implied (nat_eq d b) (is_at x c) (Decides-eqb d b) (at_tested x c))

end_tested : (k : ℕ) (x : Place) (fact : Fact) → Decides (lets_end k x fact) (LetsEnd k x fact)
end_tested k x (Bar j c) = always
end_tested k x (Must j c) = apart (nat_eq j k) (is_before x c) (Decides-eqb j k) (before_tested x c)
end_tested k x (Cut c d) = always
end_tested k x (Tie c d) = Decides-not (is_at x c) (at_tested x c)

pub alive_tested : AllowedDecides → (book : BookSeen) (marks : List Fact) (k a : ℕ) → Decides (is_alive book marks k a) (IsAlive book marks k a)
unfolding is_alive
alive_tested allowed book marks k a =
    Decides-like (is_alive book marks k a) (λ h. record { allowed = h.0; facts = h.1 }) (λ r. (r.allowed, r.facts))
    (Decides-and _ _ (allowed book k a) (all_tested (lets_fly k a) (LetsFly k a) (fly_tested k a) marks))

alive_at_tested : AliveDecides → (book : BookSeen) (marks : List Fact) (k : ℕ) (x : Place) → Decides (is_alive_at book marks k x) (IsAliveAt book marks k x)
alive_at_tested alive book marks k Carry = always
alive_at_tested alive book marks k (After x) = alive book marks k x

pub usable_tested : LinkDecides → AliveDecides → (book : BookSeen) (marks : List Fact) (k : ℕ) (x : Place) (b : ℕ)
    → Decides (is_usable book marks k x b) (IsUsable book marks k x b)
unfolding is_usable
usable_tested link alive book marks k x b =
    Decides-like (is_usable book marks k x b) (λ h. record { link = h.0; before = h.1.0; after = h.1.1.0; facts = h.1.1.1 })
    (λ u. (u.link, (u.before, (u.after, u.facts))))
    (Decides-and _ _ (link book k x b) (Decides-and _ _ (alive_at_tested alive book marks k x)
    (Decides-and _ _ (alive book marks k b) (all_tested (lets_go k x b) (LetsGo k x b) (go_tested k x b) marks))))

pub may_end_tested : (marks : List Fact) (k : ℕ) (x : Place) → Decides (may_end marks k x) (MayEnd marks k x)
unfolding may_end
may_end_tested marks k x = all_tested (lets_end k x) (LetsEnd k x) (end_tested k x) marks

pub fits_tested : UsableDecides → MayEndDecides → (book : BookSeen) (marks : List Fact) (k : ℕ) (x : Place) (route : List ℕ)
    → Decides (fits_from book marks k x route) (FitsFrom book marks k x route)
fits_tested usable end book marks k x [] = end marks k x
fits_tested usable end book marks k x (b ∷ rest) = Decides-and _ _ (usable book marks k x b) (fits_tested usable end book marks k (After b) rest)
