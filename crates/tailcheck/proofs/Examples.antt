-- What the words mean, at command lines that are written out. The rows show a plan's name in each way to write it, as
-- every program takes it, then a certificate's in its place, and that both at once, one of them twice or another option
-- are refused.
use Rattle.std.proofs.Common.{◌≡◌, ℕ, List, [], ◌∷◌, Option, Some, None, codes, refl}
use Rattle.clap.proofs.OnLiterals.{clap_on_literals}
use Rattle.run_frame.specs.inside.PlanWords.{ReadsPlans}
use Rattle.tailcheck.specs.Texts.{CheckNamesSeen, CertificateName}
use Rattle.tailcheck.proofs.WordLaws.{named}
use Rattle.tailcheck.specs.Words.{check_of}

-- a plan is named as by each program that judges one
plans : ReadsPlans (codes "tailcheck") check_of named
unfolding clap_on_literals check_of
plans = record {
  no_words = (refl, refl);
  option_anywhere = (refl, refl, refl, refl, refl, refl);
  any_program = (refl, refl);
  other_counts = (refl, refl, refl, refl, refl);
  option_once = (refl, refl, refl, refl, refl, refl);
  option_written_out = (refl, refl, refl, refl);
  odd_names = (refl, refl, refl, refl);
  dash_in_front = (refl, refl, refl, refl, refl, refl);
  behind_two_dashes = (refl, refl, refl, refl, refl);
  no_help = (refl, refl, refl, refl, refl);
}

-- the words after the program's name
abbrev after_name : List (List ℕ) → Option CheckNamesSeen
after_name words = check_of (codes "tailcheck" ∷ words)

-- the words name these tables, `t`, `f` and `r`, and this certificate
abbrev certified : List ℕ → Option CheckNamesSeen
certified cert = Some (record { tables = record { timetable = codes "t"; fleet = codes "f"; rules = codes "r" }; subject = CertificateName cert })

-- a certificate is named like a plan, and in its place
certificates : (after_name (codes "t" ∷ codes "f" ∷ codes "r" ∷ codes "--cert" ∷ codes "c" ∷ []) ≡ certified (codes "c"))
    × (after_name (codes "--cert=c" ∷ codes "t" ∷ codes "f" ∷ codes "r" ∷ []) ≡ certified (codes "c"))
    × (after_name (codes "t" ∷ codes "--cert" ∷ codes "" ∷ codes "f" ∷ codes "r" ∷ []) ≡ certified (codes ""))
    × (after_name (codes "t" ∷ codes "f" ∷ codes "r" ∷ codes "--cert=-c" ∷ []) ≡ certified (codes "-c"))
unfolding clap_on_literals check_of
certificates = (refl, refl, refl, refl)

-- both are not judged at once, nor two certificates, and no other option is taken
no_other_options : (after_name (codes "t" ∷ codes "f" ∷ codes "r" ∷ codes "--plan" ∷ codes "p" ∷ codes "--cert" ∷ codes "c" ∷ []) ≡ None)
    × (after_name (codes "t" ∷ codes "f" ∷ codes "r" ∷ codes "--cert=c" ∷ codes "--cert=c" ∷ []) ≡ None)
    × (after_name (codes "t" ∷ codes "f" ∷ codes "r" ∷ codes "--cert" ∷ []) ≡ None)
    × (after_name (codes "t" ∷ codes "f" ∷ codes "r" ∷ codes "--plan" ∷ codes "p" ∷ codes "--nodes" ∷ codes "5" ∷ []) ≡ None)
unfolding clap_on_literals check_of
no_other_options = (refl, refl, refl, refl)
