-- What is brought to an activity. Nothing is brought over a link that is not usable, and a link to an activity that is
-- not alive never is: so nothing comes there, neither from the carry-in nor from before, and it has no floor. And where
-- the carry-in and each place before bring the same, whatever the marks, the least of it is the same.
use Rattle.std.specs.Prelude.{◌&&◌}
use Rattle.std.proofs.Common.{◌≡◌, ◌∙◌, ℕ, ℤ, ◌<◌, Bool, true, false, List, refl, arith, ap, Option, None, Some}
use Rattle.std.specs.List.{list_all, range_with_len}
use Rattle.std.proofs.lemmas.Bool.{cond-false}
use Rattle.tail_book.specs.Seen.{BookSeen}
use Rattle.tail_book.specs.declared.place.Place.{Place}
use Rattle.tail_book.specs.declared.place.Place.TheVariants.{Carry, After}
use Rattle.tail_book.specs.Counters.{step}
use Rattle.tail_book.specs.Lookup.{activities, carry_of}
use Rattle.tail_book.specs.LegalTests.{is_link, within_limits}
use Rattle.branch_marks.specs.declared.fact.Fact.{Fact}
use Rattle.branch_marks.specs.MarkTests.{is_alive, is_alive_at, is_usable, lets_go}
use Rattle.branch_marks.specs.Floors.{lesser_floor, stepped_floor}
use Rattle.floor_rows.specs.inside.LeastOver.{floor_of, least_over, brought_first, brought, least_at, FloorsAreLeast, BroughtTells}
use Rattle.floor_rows.proofs.LeastOver.{least_same, least_none}

-- what is not alive is not linked
unusable_without : (book : BookSeen) (marks : List Fact) (k : ℕ) (x : Place) (b : ℕ) → is_alive book marks k b ≡ false → is_usable book marks k x b ≡ false
unfolding is_usable
unusable_without book marks k x b e =
    ap (λ (t : Bool). is_link book k x b && (is_alive_at book marks k x && (t && list_all (lets_go k x b) marks))) e
    ∙ never (is_link book k x b) (is_alive_at book marks k x)
  where
    never : (p q : Bool) → (p && (q && false)) ≡ false
    never true true = refl
    never true false = refl
    never false q = refl

-- what cannot be used, or passes a limit, brings nothing
pub unusable_brings : (book : BookSeen) (marks : List Fact) (k : ℕ) (x : Place) (b : ℕ) (floor : Option (List ℤ)) → is_usable book marks k x b ≡ false
    → stepped_floor book marks k x b floor ≡ None
unusable_brings book marks k x b None e = refl
unusable_brings book marks k x b (Some values) e =
    cond-false (is_usable book marks k x b && within_limits book.rules.counters (step book k x b values)) (Some (step book k x b values)) None
    (ap (λ (t : Bool). t && within_limits book.rules.counters (step book k x b values)) e)

-- what is not alive is brought nothing
least_without : (book : BookSeen) (marks : List Fact) (k b : ℕ) (floor : ℕ → Option (List ℤ)) → is_alive book marks k b ≡ false → least_at book marks k floor b ≡ None
least_without book marks k b floor e =
    ap (λ (one : Option (List ℤ)). lesser_floor one (least_over (brought book marks k b floor) (range_with_len 0 b)))
    (unusable_brings book marks k Carry b (Some (carry_of book k)) (unusable_without book marks k Carry b e))
    ∙ least_none (brought book marks k b floor) 0 b
    (λ y le less. unusable_brings book marks k (After y) b (floor y) (unusable_without book marks k (After y) b e))

-- where the same is brought, the least is the same
least_kept : (book : BookSeen) (old new : List Fact) (k b : ℕ) (f g : ℕ → Option (List ℤ)) → brought_first book new k b ≡ brought_first book old k b
    → ((x : ℕ) → x < b → brought book new k b g x ≡ brought book old k b f x) → least_at book new k g b ≡ least_at book old k f b
least_kept book old new k b f g first each =
    ap (λ (one : Option (List ℤ)). lesser_floor one (least_over (brought book new k b g) (range_with_len 0 b))) first
    ∙ ap (λ (rest : Option (List ℤ)). lesser_floor (brought_first book old k b) rest)
    (least_same (brought book new k b g) (brought book old k b f) 0 b (λ y le less. each y (omega (arith, less))))

pub tells : BroughtTells
tells = record { unusable = unusable_brings; without = least_without; same = least_kept }

pub none_without : FloorsAreLeast → (book : BookSeen) (marks : List Fact) (k b : ℕ) → b < activities book → is_alive book marks k b ≡ false → floor_of book marks k b ≡ None
none_without least book marks k b lt e = least book marks k b lt ∙ least_without book marks k b (floor_of book marks k) e
