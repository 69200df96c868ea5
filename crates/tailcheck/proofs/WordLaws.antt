-- What the words mean, whatever the names are. The reading computes for names that are not known: a value behind an
-- equals sign and names behind two dashes are taken unseen, and other names only have to begin with no dash.
use Rattle.std.proofs.Common.{◌≡◌, ℕ, List, [], ◌∷◌, ◌++◌, Option, Some, None, codes, refl}
use Rattle.clap.proofs.OnLiterals.{clap_on_literals}
use Rattle.run_frame.specs.inside.PlanWords.{ReadsAnyNames}
use Rattle.tailcheck.specs.Texts.{CheckNamesSeen, PlanName, CertificateName}
use Rattle.tailcheck.specs.Words.{check_of}

-- the words name these tables and this plan
abbrev pub named : List ℕ → List ℕ → List ℕ → List ℕ → Option CheckNamesSeen
named timetable fleet rules plan = Some (record { tables = record { timetable = timetable; fleet = fleet; rules = rules }; subject = PlanName plan })

-- a plan is named as by each program that judges one
plans : ReadsAnyNames check_of named
unfolding clap_on_literals check_of
plans = record {
  any_program = λ one other words. refl;
  any_names = λ program timetable fleet rules plan. refl;
  no_fourth = λ program plan one two three four rest. refl;
  plain_names = λ program timetable fleet rules plan t f r et ef er. rw (et, et, ef, ef, er, er) refl;
  option_wanted = λ program timetable fleet rules. refl;
}

-- the words name these tables and this certificate
abbrev certified : List ℕ → List ℕ → List ℕ → List ℕ → Option CheckNamesSeen
certified timetable fleet rules cert = Some (record { tables = record { timetable = timetable; fleet = fleet; rules = rules }; subject = CertificateName cert })

-- and so is any certificate
any_certificate : (program timetable fleet rules cert : List ℕ)
    → check_of (program ∷ (codes "--cert=" ++ cert) ∷ codes "--" ∷ timetable ∷ fleet ∷ rules ∷ []) ≡ certified timetable fleet rules cert
unfolding clap_on_literals check_of
any_certificate program timetable fleet rules cert = refl

-- a plan and a certificate are never judged at once
one_or_the_other : (program timetable fleet rules plan cert : List ℕ)
    → check_of (program ∷ (codes "--plan=" ++ plan) ∷ (codes "--cert=" ++ cert) ∷ codes "--" ∷ timetable ∷ fleet ∷ rules ∷ []) ≡ None
unfolding clap_on_literals check_of
one_or_the_other program timetable fleet rules plan cert = refl
