-- What was read of the files that words name: up to the limit each, and so the fronts of what is held, where each is told. The
-- files hold the same all along, so what was read later is of the same files.
use Rattle.std.proofs.Common.{◌≡◌, ℕ, List, Option, None, Some, IfSome, ap, option_map, refl, subst}
use Rattle.std.specs.Prelude.{option_and_then}
use Rattle.tail_outside.specs.Shown.{FilesShown}
use Rattle.run_frame.specs.Tables.{TablesSeen}
use Rattle.run_frame.specs.TableFiles.{tables_held}
use Rattle.run_frame.specs.inside.TableFiles.{front, fronts}
use Rattle.tailview.specs.Texts.{TextsSeen, ViewNamesSeen, before_held, texts_held}
use Rattle.tailview.specs.inside.Texts.{text_fronts}

-- the bytes of a plan that was published before, where its file is named
pub before-read : (held : Option (List ℕ)) (read : List ℕ) → IfSome held (λ bytes. read ≡ front bytes)
    → IfSome (option_map (λ bytes. Some bytes) held) (λ whole. Some read ≡ option_map front whole)
before-read None read h = tt
before-read (Some bytes) read h = ap (λ (b : List ℕ). Some b) h

-- files that hold the same hold the same of that plan
same_before : (one other : FilesShown) (before : Option (List ℕ)) → ((name : List ℕ) → other.holds name ≡ one.holds name) → before_held other before ≡ before_held one before
same_before one other None same = refl
same_before one other (Some name) same = ap (λ (held : Option (List ℕ)). option_map (λ bytes. Some bytes) held) (same name)

pub before-later : (one other : FilesShown) (before read : Option (List ℕ)) → ((name : List ℕ) → other.holds name ≡ one.holds name)
    → IfSome (before_held other before) (λ whole. read ≡ option_map front whole) → IfSome (before_held one before) (λ whole. read ≡ option_map front whole)
before-later one other before read same h =
    subst (λ (o : Option (Option (List ℕ))). IfSome o (λ whole. read ≡ option_map front whole)) (same_before one other before same) h

-- all that was read
pub texts-read : (files : FilesShown) (names : ViewNamesSeen) (tables : TablesSeen) (plan : List ℕ) (before : Option (List ℕ))
    → IfSome (tables_held files names.tables) (λ whole. tables ≡ fronts whole) → IfSome (files.holds names.plan) (λ bytes. plan ≡ front bytes)
    → IfSome (before_held files names.before) (λ whole. before ≡ option_map front whole)
    → IfSome (texts_held files names) (λ whole. record { tables = tables; plan = plan; before = before; airport = names.airport; by_day = names.by_day; html = names.html } ≡ text_fronts whole)
texts-read files names tables plan before h k l = each (tables_held files names.tables) (files.holds names.plan) (before_held files names.before) h k l
  where
    text : TablesSeen → List ℕ → Option (List ℕ) → TextsSeen
    text t p b = record { tables = t; plan = p; before = b; airport = names.airport; by_day = names.by_day; html = names.html }

    alike : {t x : TablesSeen} {p y : List ℕ} {b z : Option (List ℕ)} → t ≡ x → p ≡ y → b ≡ z → text t p b ≡ text x y z
    alike same_t same_p same_b = rw (same_t, same_p, same_b) refl

    each : (t : Option TablesSeen) (p : Option (List ℕ)) (b : Option (Option (List ℕ))) → IfSome t (λ whole. tables ≡ fronts whole) → IfSome p (λ bytes. plan ≡ front bytes)
        → IfSome b (λ whole. before ≡ option_map front whole)
        → IfSome (option_and_then (λ tables. option_and_then (λ plan. option_map (λ before. text tables plan before) b) p) t) (λ whole. text tables plan before ≡ text_fronts whole)
    each None p b h k l = tt
    each (Some t) None b h k l = tt
    each (Some t) (Some p) None h k l = tt
    each (Some t) (Some p) (Some b) h k l = alike h k l
