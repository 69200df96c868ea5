-- From an answer to tables that were read to one to the words, and what the certificate's file is left with. The tables
-- that were read are fronts of those held, and the book of the fronts is that of the whole. Reading changes no file, so
-- a file that stays as it was after the reading is as it was at first, and a certificate that is due for the fronts is
-- due for the whole.
use Rattle.std.proofs.Common.{◌≡◌, ◌∙◌, ◌⊎◌, inl, inr, ℕ, false, List, Option, Some, IfSome, Result, Ok, Err, sym, ap, subst}
use Rattle.std.specs.Prelude.{IfOk, option_and_then}
use Rattle.tail_outside.specs.Outside.{OnlyRead}
use Rattle.tail_outside.specs.Shown.{FilesShown}
use Rattle.run_frame.proofs.Fronts.{book_of-fronts}
use Rattle.run_frame.proofs.Held.{whole}
use Rattle.tailplan.specs.Answers.{HasFrontOfDue, HoldsText, cert_of}
use Rattle.tailplan.specs.Kept.{LeavesCertificate}
use Rattle.tailplan.specs.Tasks.{TaskNamesSeen, TaskSeen, task_held}
use Rattle.tailplan.specs.Words.{run_of}
use Rattle.tailplan.specs.inside.Ending.{LeavesFile}
use Rattle.tailplan.specs.inside.Tasks.{task_fronts}

pub if_ok : {T E : Type 0} (P Q : T → Type 0) (result : Result T E) → ((x : T) → P x → Q x) → IfOk result P → IfOk result Q
if_ok P Q (Ok x) step is = step x is
if_ok P Q (Err e) step is = tt

-- from the files after the tables were read to those before
module _ (words : List (List ℕ)) (files read later : FilesShown) (names : TaskNamesSeen) (given : run_of words ≡ Some names) (only : OnlyRead files read) where
  abbrev cert_at : Option TaskNamesSeen → Option (List ℕ)
  cert_at of = option_and_then (λ (n : TaskNamesSeen). n.cert) of

  cert_given : cert_of words ≡ names.cert
  cert_given = ap cert_at given

  module _ (task : TaskSeen) (cert : task.cert ≡ names.cert) (fronts : IfSome (task_held files names) (λ whole. task ≡ task_fronts whole)) where
    still_due : (text : List ℕ) (all : TaskSeen) → HasFrontOfDue (task_fronts all) text → HasFrontOfDue all text
    still_due text all due = (due.0, sym (book_of-fronts all.tables) ∙ due.1, due.2)

    still_held : (name : List ℕ) (all : TaskSeen) → HoldsText later name (HasFrontOfDue (task_fronts all)) → HoldsText later name (HasFrontOfDue all)
    still_held name all held = (held.0, held.1, still_due held.0 all held.2)

    pub left_before : LeavesFile task read later → LeavesCertificate words files later
    left_before leaves name is alive =
        let named : task.cert ≡ Some name = cert ∙ sym cert_given ∙ is in
        elim ((subst (λ (c : Option (List ℕ)). IfSome c (λ n. later.ceased n ≡ false → (later.holds n ≡ read.holds n) ⊎ HoldsText later n (HasFrontOfDue task))) named leaves) alive) [
          | inl stays ↦ inl (stays ∙ only.holds name)
          | inr due ↦ inr (names, given, whole task_fronts (λ x. HoldsText later name (HasFrontOfDue x)) (still_held name) (task_held files names) task fronts due)
        ]
