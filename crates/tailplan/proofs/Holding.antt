-- What files hold once a certificate was written to one of them, or a front of it. Only the file of that name was
-- written, so all others hold what they held. Its file was empty before the first piece, so what the sink took is what
-- it holds, where it has not ceased; and a certificate that is held whole is a front of itself.
use Rattle.std.proofs.Common.{◌≡◌, ◌∙◌, inl, ℕ, false, List, [], Option, Some, arith, sym, ap, subst}
use Rattle.std.proofs.Math.Nat.{le_trans}
use Rattle.std.proofs.lemmas.List.{append-nil}
use Rattle.tail_book.specs.Seen.{BookSeen}
use Rattle.tail_book.specs.declared.outcome.Outcome.{Outcome}
use Rattle.tail_outside.specs.Outside.{OnlyRead}
use Rattle.tail_outside.specs.Shown.{FilesShown}
use Rattle.tail_outside.specs.inside.Outside.{OnlyWritten}
use Rattle.tail_outside.specs.inside.OverFile.{shown_over}
use Rattle.branch_tree.specs.declared.limit.Limit.{Limit}
use Rattle.cert_lines.specs.declared.version.Version.{Version}
use Rattle.certified_search.specs.Written.{IsCertificateOf, IsFrontOfDue, LeavesText}
use Rattle.certified_search.specs.declared.order.Order.{Order}
use Rattle.tailplan.specs.Answers.{HoldsText}
use Rattle.tailplan.specs.Kept.{OnlyCertificate}

-- only one file was written
pub one_written : (name : List ℕ) (old new : FilesShown) → OnlyWritten name old new → OnlyCertificate (Some name) old new
one_written name old new written = record {
  others = λ other differs. written.others other (λ is. differs (ap (λ (n : List ℕ). Some n) (sym is)));
  lets_read = written.lets_read;
  lets_write = written.lets_write;
  ceases = written.ceases;
  reads = omega (arith, written.reads);
  writes = written.writes;
}

-- what was read before makes no difference
pub read_before : (cert : Option (List ℕ)) (a b c : FilesShown) → OnlyRead a b → OnlyCertificate cert b c → OnlyCertificate cert a c
read_before cert a b c read written = record {
  others = λ other differs. written.others other differs ∙ read.holds other;
  lets_read = λ name. written.lets_read name ∙ read.lets_read name;
  lets_write = λ name. written.lets_write name ∙ read.lets_write name;
  ceases = λ name lasts. sym (read.ceased name) ∙ written.ceases name lasts;
  reads = le_trans read.reads written.reads;
  writes = omega (arith, read.writes, written.writes);
}

-- what a sink over an empty file took is what the file holds
pub text_held : (P : List ℕ → Type 0) (name : List ℕ) (old new : FilesShown) → (old.ceased name ≡ false → old.holds name ≡ Some []) → (new.ceased name ≡ false → old.ceased name ≡ false)
    → LeavesText (shown_over old name) (shown_over new name) P → new.ceased name ≡ false → HoldsText new name P
text_held P name old new empty lasts leaves alive = leaves alive (empty (lasts alive))

-- the same for files under other names for them, as a call hands them on
pub held_by : (P : List ℕ → Type 0) (name first last : List ℕ) (begun old new later : FilesShown) → first ≡ name → last ≡ first → old ≡ begun → later ≡ new
    → (begun.ceased name ≡ false → begun.holds name ≡ Some []) → OnlyWritten first old new → LeavesText (shown_over old first) (shown_over new last) P
    → later.ceased name ≡ false → HoldsText later name P
held_by P name first last begun old new later is_first is_last is_old is_later empty written leaves =
    subst (λ (files : FilesShown). files.ceased name ≡ false → HoldsText files name P) (sym is_later)
    (text_held P name old new (subst (λ (files : FilesShown). files.ceased name ≡ false → files.holds name ≡ Some []) (sym is_old) empty) (λ lasts. written.ceases name lasts)
    (subst (λ (n : List ℕ). LeavesText (shown_over old n) (shown_over new name) P) is_first
    (subst (λ (n : List ℕ). LeavesText (shown_over old first) (shown_over new n) P) (is_last ∙ is_first) leaves)))

-- a certificate that is held whole is a front of itself
pub certificate_front : (book : BookSeen) (limit : Limit) (order : Order) (version : Version) (outcome : Outcome) (name : List ℕ) (new : FilesShown)
    → HoldsText new name (IsCertificateOf book limit order version outcome) → HoldsText new name (IsFrontOfDue book limit order version)
certificate_front book limit order version outcome name new (text, held, is) = (text, held, inl (record { outcome = outcome; whole = text; is = is; front = ([], sym (append-nil text)) }))
