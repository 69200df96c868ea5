-- Words that ask for a repair name no tables and no seed, and all others give no names of a repair. So what is promised of the
-- one has nothing to hold of in a run of the other, and files that were only read are as they were.
use Rattle.std.proofs.Common.{◌≡◌, ◌∙◌, ◌||◌, inl, ℕ, Bool, true, false, List, [], ◌∷◌, Option, None, codes, if◌then◌else◌, refl, sym, subst}
use Rattle.std.proofs.lemmas.Slice.Eq.{bytes_eq-Decides}
use Rattle.std.specs.Prelude.{IsSome, cond, option_and_then}
use Rattle.tail_outside.specs.Outside.{OnlyRead}
use Rattle.tail_outside.specs.Shown.{FilesShown}
use Rattle.run_frame.specs.TableFiles.{IsHeld}
use Rattle.run_frame.specs.Words.{matched}
use Rattle.tailplan.specs.Kept.{LeavesCertificate}
use Rattle.tailplan.specs.Promises.{JudgesBook, RefusesTables}
use Rattle.tailplan.specs.QuotaWords.{is_quota}
use Rattle.tailplan.specs.RepairPromises.{JudgesRepair, RefusesTexts}
use Rattle.tailplan.specs.FourTexts.{FourNamesSeen, names_behind}
use Rattle.tailplan.specs.RepairWords.{is_repair, repair_of}
use Rattle.tailplan.specs.Tasks.{TaskNamesSeen}
use Rattle.tailplan.specs.WhyWords.{is_why}
use Rattle.tailplan.specs.Words.{command, is_trial, names_in, run_of, seed_of}

none_of : (trial repair other : Bool) (names : Option TaskNamesSeen) → repair ≡ true → (if trial || (repair || other) then None else names) ≡ None
none_of true repair other names asks = refl
none_of false true other names asks = refl
none_of false false other names asks = absurd (cc asks)

pub no_tables : (words : List (List ℕ)) → is_repair words ≡ true → run_of words ≡ None
unfolding run_of
no_tables words asks = none_of (is_trial words) (is_repair words) (is_why words || is_quota words) (option_and_then names_in (matched command words)) asks

-- a word is not both of two words
pub no_seed : (words : List (List ℕ)) → is_repair words ≡ true → seed_of words ≡ None
unfolding seed_of
no_seed [] asks = refl
no_seed (program ∷ []) asks = refl
no_seed (program ∷ word ∷ rest) asks =
    let same : word ≡ codes "repair" = (bytes_eq-Decides word (codes "repair")).0 asks in
    rw same refl

-- so nothing is said of a seed in a repair
pub no_touch : (words : List (List ℕ)) (A : Type 0) → is_repair words ≡ true → IsSome (seed_of words) → A
no_touch words A asks some = let both = subst (λ (seed : Option ℕ). IsSome seed) (no_seed words asks) some in absurd (cc both)

not_asked : (asks : Bool) (names : Option FourNamesSeen) → asks ≡ false → (if asks then names else None) ≡ None
not_asked true names is = absurd (cc is)
not_asked false names is = refl

pub no_repair : (words : List (List ℕ)) → is_repair words ≡ false → repair_of words ≡ None
unfolding repair_of
no_repair words other = not_asked (is_repair words) (names_behind words) other

pub held_nowhere : {N X : Type 0} (given : Option N) (held : N → Option X) (x : X) → given ≡ None → IsHeld given held x → ⊥
held_nowhere given held x none there = let both = sym none ∙ there.1 in absurd (cc both)

-- of the tables nothing is said in a repair
pub no_refusal : (words : List (List ℕ)) (files : FilesShown) (status : ℕ) → is_repair words ≡ true → RefusesTables words files status
no_refusal words files status asks x refusal there refused = absurd (held_nowhere (run_of words) _ x (no_tables words asks) there)

pub no_verdict : (words : List (List ℕ)) (files : FilesShown) (status : ℕ) → is_repair words ≡ true → JudgesBook words files status
no_verdict words files status asks x case there is_case = absurd (held_nowhere (run_of words) _ x (no_tables words asks) there)

-- and of a repair nothing in another run
pub no_repair_refused : (words : List (List ℕ)) (files : FilesShown) (status : ℕ) → is_repair words ≡ false → RefusesTexts words files status
no_repair_refused words files status other x refusal there refused = absurd (held_nowhere (repair_of words) _ x (no_repair words other) there)

pub no_repair_judged : (words : List (List ℕ)) (files : FilesShown) (status : ℕ) → is_repair words ≡ false → JudgesRepair words files status
no_repair_judged words files status other x case there is_case = absurd (held_nowhere (repair_of words) _ x (no_repair words other) there)

-- files that were only read hold what they held
pub left_alone : (words : List (List ℕ)) (files later : FilesShown) → OnlyRead files later → LeavesCertificate words files later
left_alone words files later only name is alive = inl (only.holds name)

-- what is promised of one kind of words
pub in_repair : (A B : Type 0) (asks : Bool) → asks ≡ true → A → cond asks A B
in_repair A B true is a = a
in_repair A B false is a = absurd (cc is)

pub in_other : (A B : Type 0) (asks : Bool) → asks ≡ false → B → cond asks A B
in_other A B true is b = absurd (cc is)
in_other A B false is b = b
