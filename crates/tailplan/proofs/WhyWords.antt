-- Words that ask why no plan is legal ask for nothing else, and all others give no names for that. So what is promised of the one
-- has nothing to hold of in a run of the other.
use Rattle.std.proofs.Common.{◌≡◌, ◌||◌, ℕ, Bool, true, false, List, [], ◌∷◌, Option, None, codes, if◌then◌else◌, refl, subst}
use Rattle.std.proofs.lemmas.Slice.Eq.{bytes_eq-Decides}
use Rattle.std.specs.Prelude.{IsSome, option_and_then}
use Rattle.tail_outside.specs.Shown.{FilesShown}
use Rattle.run_frame.specs.Tables.{NamesSeen}
use Rattle.run_frame.specs.Words.{matched}
use Rattle.tailplan.proofs.RepairWords.{held_nowhere}
use Rattle.tailplan.specs.Promises.{JudgesBook, RefusesTables}
use Rattle.tailplan.specs.QuotaWords.{is_quota}
use Rattle.tailplan.specs.RepairPromises.{JudgesRepair, RefusesTexts}
use Rattle.tailplan.specs.RepairWords.{is_repair, repair_of}
use Rattle.tailplan.specs.Tasks.{TaskNamesSeen}
use Rattle.tailplan.specs.WhyPromises.{JudgesWhy, RefusesWhy}
use Rattle.tailplan.specs.WhyWords.{is_why, tables_behind, why_of}
use Rattle.tailplan.specs.Words.{command, is_trial, names_in, run_of, seed_of}

none_of : (trial repair why other : Bool) (names : Option TaskNamesSeen) → why ≡ true → (if trial || (repair || (why || other)) then None else names) ≡ None
none_of true repair why other names asks = refl
none_of false true why other names asks = refl
none_of false false true other names asks = refl
none_of false false false other names asks = absurd (cc asks)

no_tables : (words : List (List ℕ)) → is_why words ≡ true → run_of words ≡ None
unfolding run_of
no_tables words asks = none_of (is_trial words) (is_repair words) (is_why words) (is_quota words) (option_and_then names_in (matched command words)) asks

-- a word is not both of two words
no_seed : (words : List (List ℕ)) → is_why words ≡ true → seed_of words ≡ None
unfolding seed_of
no_seed [] asks = refl
no_seed (program ∷ []) asks = refl
no_seed (program ∷ word ∷ rest) asks =
    let same : word ≡ codes "why" = (bytes_eq-Decides word (codes "why")).0 asks in
    rw same refl

no_repair : (words : List (List ℕ)) → is_why words ≡ true → repair_of words ≡ None
unfolding repair_of
no_repair [] asks = refl
no_repair (program ∷ []) asks = refl
no_repair (program ∷ word ∷ rest) asks =
    let same : word ≡ codes "why" = (bytes_eq-Decides word (codes "why")).0 asks in
    rw same refl

pub no_why_in_repair : (words : List (List ℕ)) → is_repair words ≡ true → why_of words ≡ None
unfolding why_of
no_why_in_repair [] asks = refl
no_why_in_repair (program ∷ []) asks = refl
no_why_in_repair (program ∷ word ∷ rest) asks =
    let same : word ≡ codes "repair" = (bytes_eq-Decides word (codes "repair")).0 asks in
    rw same refl

not_asked : (asks : Bool) (names : Option NamesSeen) → asks ≡ false → (if asks then names else None) ≡ None
not_asked true names is = absurd (cc is)
not_asked false names is = refl

pub no_why : (words : List (List ℕ)) → is_why words ≡ false → why_of words ≡ None
unfolding why_of
no_why words other = not_asked (is_why words) (tables_behind words) other

-- so nothing is said of a seed where it is asked why
pub no_touch : (words : List (List ℕ)) (A : Type 0) → is_why words ≡ true → IsSome (seed_of words) → A
no_touch words A asks some = let both = subst (λ (seed : Option ℕ). IsSome seed) (no_seed words asks) some in absurd (cc both)

-- nor of the tables of another run, or of a repair
pub no_refusal : (words : List (List ℕ)) (files : FilesShown) (status : ℕ) → is_why words ≡ true → RefusesTables words files status
no_refusal words files status asks x refusal there refused = absurd (held_nowhere (run_of words) _ x (no_tables words asks) there)

pub no_verdict : (words : List (List ℕ)) (files : FilesShown) (status : ℕ) → is_why words ≡ true → JudgesBook words files status
no_verdict words files status asks x case there is_case = absurd (held_nowhere (run_of words) _ x (no_tables words asks) there)

pub no_repair_refused : (words : List (List ℕ)) (files : FilesShown) (status : ℕ) → is_why words ≡ true → RefusesTexts words files status
no_repair_refused words files status asks x refusal there refused = absurd (held_nowhere (repair_of words) _ x (no_repair words asks) there)

pub no_repair_judged : (words : List (List ℕ)) (files : FilesShown) (status : ℕ) → is_why words ≡ true → JudgesRepair words files status
no_repair_judged words files status asks x case there is_case = absurd (held_nowhere (repair_of words) _ x (no_repair words asks) there)

-- and in another run nothing of this
pub no_why_refused : (words : List (List ℕ)) (files : FilesShown) (status : ℕ) → why_of words ≡ None → RefusesWhy words files status
no_why_refused words files status none x refusal there refused = absurd (held_nowhere (why_of words) _ x none there)

pub no_why_judged : (words : List (List ℕ)) (files : FilesShown) (status : ℕ) → why_of words ≡ None → JudgesWhy words files status
no_why_judged words files status none x case there is_case = absurd (held_nowhere (why_of words) _ x none there)
