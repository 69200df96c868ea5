-- What is held under the names that words give: read up to the limit, judged, and known. The three tables that were
-- read are the fronts of those that are held, where each of them is told; that is by cases. What follows of what is
-- held follows where it is told, and where it is known, it holds of that: names are given once, so both speak of the
-- same.
use Rattle.std.proofs.Common.{◌≡◌, ◌∙◌, ℕ, List, Option, Some, None, IfSome, ap, option_map, refl, subst, sym}
use Rattle.std.specs.Prelude.{option_and_then}
use Rattle.tail_outside.specs.Shown.{FilesShown}
use Rattle.run_frame.specs.TableFiles.{IsHeld, OfHeld, tables_held}
use Rattle.run_frame.specs.inside.TableFiles.{front, fronts}
use Rattle.run_frame.specs.Tables.{NamesSeen, TablesSeen}

abbrev Same : TablesSeen → TablesSeen → Type 0
Same a b = a ≡ b

-- three files that were read up to the limit are the fronts of the tables
pub tables-read : (files : FilesShown) (names : NamesSeen) (read : TablesSeen) → IfSome (files.holds names.timetable) (λ bytes. read.timetable ≡ front bytes)
    → IfSome (files.holds names.fleet) (λ bytes. read.fleet ≡ front bytes) → IfSome (files.holds names.rules) (λ bytes. read.rules ≡ front bytes)
    → IfSome (tables_held files names) (λ whole. read ≡ fronts whole)
tables-read files names read h k l = each (files.holds names.timetable) (files.holds names.fleet) (files.holds names.rules) h k l
  where
    alike : {t f r x y z : List ℕ} → t ≡ x → f ≡ y → r ≡ z → Same (record { timetable = t; fleet = f; rules = r }) (record { timetable = x; fleet = y; rules = z })
    alike same_t same_f same_r = rw (same_t, same_f, same_r) refl

    each : (t f r : Option (List ℕ)) → IfSome t (λ bytes. read.timetable ≡ front bytes) → IfSome f (λ bytes. read.fleet ≡ front bytes) → IfSome r (λ bytes. read.rules ≡ front bytes)
        → IfSome (option_and_then (λ timetable. option_and_then (λ fleet. option_map (λ rules. record { timetable = timetable; fleet = fleet; rules = rules }) r) f) t) (λ whole. read ≡ fronts whole)
    each None f r a b c = tt
    each (Some timetable) None r a b c = tt
    each (Some timetable) (Some fleet) None a b c = tt
    each (Some timetable) (Some fleet) (Some rules) a b c = alike a b c

-- what was read later is what was held at first, where nothing else was held meanwhile
pub read-later : (first later : Option (List ℕ)) (read : List ℕ) → later ≡ first → IfSome later (λ bytes. read ≡ front bytes) → IfSome first (λ bytes. read ≡ front bytes)
read-later first later read same h = subst (λ (o : Option (List ℕ)). IfSome o (λ bytes. read ≡ front bytes)) same h

module _ {N X : Type 0} (given : Option N) (held : N → Option X) where
  -- what follows of what is held follows where it is told
  pub OfHeld-map : (P Q : X → Type 0) → ((x : X) → P x → Q x) → OfHeld given held P → OfHeld given held Q
  OfHeld-map P Q step h = (h.0, h.1, inside (held h.0) h.2)
    where
      inside : (x : Option X) → IfSome x P → IfSome x Q
      inside None k = tt
      inside (Some x) k = step x k

  -- where it is known what is held, P holds of that
  pub OfHeld-at : (P : X → Type 0) (x : X) → IsHeld given held x → OfHeld given held P → P x
  OfHeld-at P x named h =
      let same : h.0 ≡ named.0 = only (sym h.1 ∙ named.1) in
      known (held h.0) (ap held same ∙ named.2) h.2
    where
      only : {m n : N} → Some m ≡ Some n → m ≡ n
      only e = cc

      inner : {a b : X} → Some a ≡ Some b → a ≡ b
      inner e = cc

      nothing : (y : Option X) → y ≡ None → y ≡ Some x → ⊥
      nothing y none some = let both = sym none ∙ some in cc

      known : (y : Option X) → y ≡ Some x → IfSome y P → P x
      known None e k = absurd (nothing None refl e)
      known (Some y) e k = subst P (inner e) k

  -- where names were given, they are not refused
  pub given-held : (x : X) → IsHeld given held x → given ≡ None → ⊥
  given-held x named none = let both = sym none ∙ named.1 in cc

-- what holds of a front that was read holds of the whole, where the whole has what its front has
pub whole : {X : Type 0} (cut : X → X) (P : X → Type 0) → ((x : X) → P (cut x) → P x) → (held : Option X) (read : X) → IfSome held (λ x. read ≡ cut x) → P read → IfSome held P
whole cut P grows None read is h = tt
whole cut P grows (Some x) read is h = grows x (subst P is h)
