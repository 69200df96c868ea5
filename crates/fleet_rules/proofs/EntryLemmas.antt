-- The entries of one key, table by table: those so far stand before what is left, and each turn of the loop takes one
-- table from what is left.
use Rattle.std.proofs.Common.{◌≡◌, ◌∙◌, ◌<◌, ℕ, ◌+◌, ◌-◌, Bool, true, false, List, [], ◌∷◌, ◌++◌, Result, Ok, Err, length, length-append, refl, arith, nat_lt}
use Rattle.std.proofs.lemmas.Bool.Decides.{nat_tests}
use Rattle.std.proofs.lemmas.List.{append-nil}
use Rattle.toml.specs.Data.{Members}
use Rattle.tail_text.specs.Checks.{must}
use Rattle.tail_text.specs.declared.codes.TheConstants.{KEY, TOO_MANY}
use Rattle.tail_text.specs.declared.refusal.Refusal.{Refusal}
use Rattle.tail_text.specs.inside.Joined.{joined, joined-more}
use Rattle.fleet_rules.specs.Entries.{Section, entries_from, entry_in, refused}
use Rattle.fleet_rules.specs.TomlValues.{has_only}

positive : (room : ℕ) → nat_lt 0 room ≡ true → 0 < room
positive room e = grind (arith, nat_tests)

passed : {A : Type 0} (room : ℕ) (test : Bool) (next : Result A ℕ) (entry : A) → nat_lt 0 room ≡ test → must test TOO_MANY next ≡ Ok entry → 0 < room
passed room true next entry is e = positive room is
passed room false next entry is e = cc e

-- a table that gives an entry had room
pub entry_in-room : {A : Type 0} (section : Section A) (room : ℕ) (table : Members) (entry : A) → entry_in section room table ≡ Ok entry → 0 < room
entry_in-room section room table entry e = passed room (nat_lt 0 room) (must (has_only section.keys table) KEY (section.entry_of table)) entry refl e

-- the turns of the loop over the tables, over what all of them give
module _ {A : Type 0} (section : Section A) (first : ℕ) (all : Result (List A) Refusal) (entries : List A) (left : List Members)
    (known : all ≡ joined entries (entries_from section (first + length entries) (section.limit - length entries) left)) where
  pub turn-end : left ≡ [] → all ≡ Ok entries
  unfolding entries_from
  turn-end e = known ∙ rw (e, append-nil) refl

  pub turn-bad : (table : Members) (more : List Members) (code : ℕ) → left ≡ table ∷ more
      → entry_in section (section.limit - length entries) table ≡ Err code → all ≡ Err (refused code (first + length entries))
  unfolding entries_from
  turn-bad table more code e bad = known ∙ rw (e, bad) refl

  pub turn-good : (table : Members) (more : List Members) (entry : A) → left ≡ table ∷ more
      → entry_in section (section.limit - length entries) table ≡ Ok entry
      → all ≡ joined (entries ++ entry ∷ [])
      (entries_from section (first + length (entries ++ entry ∷ [])) (section.limit - length (entries ++ entry ∷ [])) more)
  unfolding entries_from
  turn-good table more entry e good =
      let longer : length (entries ++ entry ∷ []) ≡ length entries + 1 = omega (arith, length-append entries (entry ∷ [])) in
      let place : first + (length entries + 1) ≡ first + length entries + 1 = omega arith in
      let room : section.limit - (length entries + 1) ≡ section.limit - length entries - 1 = omega arith in
      known ∙ rw (e, good, longer, place, room) (joined-more entries entry (entries_from section (first + length entries + 1) (section.limit - length entries - 1) more))
