-- Words that ask for a trial name no tables: the reading of names answers none where the first word asks for a trial.
-- So what is promised of tables has nothing to hold of, and the files are left alone.
use Rattle.std.proofs.Common.{◌≡◌, ◌∙◌, ◌||◌, inl, ℕ, Bool, true, false, List, Option, Some, None, if◌then◌else◌, refl, sym}
use Rattle.std.specs.Prelude.{option_and_then}
use Rattle.tail_outside.specs.Shown.{FilesShown}
use Rattle.run_frame.specs.TableFiles.{IsHeld}
use Rattle.run_frame.specs.Words.{matched}
use Rattle.tailplan.specs.Kept.{LeavesCertificate}
use Rattle.tailplan.specs.Promises.{JudgesBook, RefusesTables}
use Rattle.tailplan.specs.QuotaWords.{is_quota}
use Rattle.tailplan.specs.RepairWords.{is_repair}
use Rattle.tailplan.specs.Tasks.{TaskNamesSeen}
use Rattle.tailplan.specs.WhyWords.{is_why}
use Rattle.tailplan.specs.Words.{command, is_trial, names_in, run_of, seed_behind, seed_of}

either : (asks other : Bool) (seed : Option ℕ) (names : Option TaskNamesSeen) (n : ℕ) → (if asks then seed else None) ≡ Some n → (if asks || other then None else names) ≡ None
either true other seed names n is = refl
either false other seed names n is = absurd (cc is)

pub no_names : (words : List (List ℕ)) (seed : ℕ) → seed_of words ≡ Some seed → run_of words ≡ None
unfolding seed_of run_of
no_names words seed is = either (is_trial words) (is_repair words || (is_why words || is_quota words)) (seed_behind words) (option_and_then names_in (matched command words)) seed is

nothing_held : {X : Type 0} (words : List (List ℕ)) (seed : ℕ) (held : TaskNamesSeen → Option X) (x : X) → seed_of words ≡ Some seed → IsHeld (run_of words) held x → ⊥
nothing_held words seed held x is there = let both = sym (no_names words seed is) ∙ there.1 in absurd (cc both)

-- so nothing is said of tables
pub no_refusal : (words : List (List ℕ)) (seed : ℕ) (files : FilesShown) (status : ℕ) → seed_of words ≡ Some seed → RefusesTables words files status
no_refusal words seed files status is x refusal there refused = absurd (nothing_held words seed _ x is there)

pub no_verdict : (words : List (List ℕ)) (seed : ℕ) (files : FilesShown) (status : ℕ) → seed_of words ≡ Some seed → JudgesBook words files status
no_verdict words seed files status is x case there is_case = absurd (nothing_held words seed _ x is there)

pub left_alone : (words : List (List ℕ)) (files : FilesShown) → LeavesCertificate words files files
left_alone words files name is alive = inl refl
