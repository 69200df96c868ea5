-- Tables that say what facts say still do when they note one fact more. What all facts let, or some fact says, is an
-- `and` or an `or` over their list, so the new fact at its end is one operand more: the entry it had, joined with what
-- the new fact says there. What facts name is kept from the left, and the last one is noted upon the rest. Tables of no
-- facts say what the rules alone say. And a fact is of the book exactly where its numbers are within the tables' own.
use Rattle.std.proofs.Common.{◌≡◌, ◌∙◌, ℕ, ◌<◌, arith, ap, Bool, true, false, refl, sym, List, [], ◌∷◌, ◌++◌, length, get_or, Option}
use Rattle.std.specs.Prelude.{◌||◌, ◌&&◌}
use Rattle.std.specs.List.{list_all, list_any}
use Rattle.std.proofs.lemmas.List.Folds.{list_all-append, list_any-append}
use Rattle.tail_book.specs.Seen.{BookSeen}
use Rattle.tail_book.specs.Lookup.{activities, aircraft}
use Rattle.tail_book.specs.LegalTests.{is_allowed}
use Rattle.branch_marks.specs.declared.fact.Fact.{Fact}
use Rattle.branch_marks.specs.declared.fact.Fact.TheVariants.{Bar, Must, Cut, Tie}
use Rattle.branch_marks.specs.declared.named.Named.{Named}
use Rattle.branch_marks.specs.declared.named.Named.TheVariants.{Nothing}
use Rattle.branch_marks.specs.Facts.{IsFactOf}
use Rattle.branch_marks.specs.MarkTests.{is_alive, lets_fly}
use Rattle.branch_marks.specs.inside.BitRows.{BitRowsSeen, has_pair, AreChanged}
use Rattle.branch_marks.specs.inside.Named.{AreNoted, named_from, with_named}
use Rattle.branch_marks.specs.inside.MarkTables.{IsAllowedTable, IsAliveTable, IsFactTable, IsNamedTable, IsFactWithin}

pub all_more : {X : Type 0} (p : X → Bool) (xs : List X) (x : X) → list_all p (xs ++ x ∷ []) ≡ (list_all p xs && p x)
all_more p xs x = list_all-append p xs (x ∷ []) ∙ ap (λ t. list_all p xs && t) (last (p x))
  where
    last : (t : Bool) → (t && true) ≡ t
    last t = grind arith

pub any_more : {X : Type 0} (p : X → Bool) (xs : List X) (x : X) → list_any p (xs ++ x ∷ []) ≡ (list_any p xs || p x)
any_more p xs x = list_any-append p xs (x ∷ []) ∙ ap (λ t. list_any p xs || t) (last (p x))
  where
    last : (t : Bool) → (t || false) ≡ t
    last t = grind arith

-- with no pair at first, who is added is who may fly
pub allowed_first : (book : BookSeen) (k a : ℕ) (had in_range : Bool) → had ≡ false → in_range ≡ true → (had || (in_range && is_allowed book k a)) ≡ is_allowed book k a
allowed_first book k a had in_range none within = only had in_range (is_allowed book k a) none within
  where
    only : (x y z : Bool) → x ≡ false → y ≡ true → (x || (y && z)) ≡ z
    only x y z e f = grind arith

-- with no fact, who is allowed is alive
pub alive_none : (m n : ℕ) (allowed alive : BitRowsSeen) → alive ≡ allowed → allowed.rows ≡ n → allowed.columns ≡ m → IsAliveTable m n allowed [] alive
alive_none m n allowed alive same rows columns = record {
  rows = ap (λ (t : BitRowsSeen). t.rows) same ∙ rows;
  columns = ap (λ (t : BitRowsSeen). t.columns) same ∙ columns;
  pairs = λ a k la lk. ap (λ (t : BitRowsSeen). has_pair t a k) same ∙ and_true (has_pair allowed a k);
}
  where
    and_true : (t : Bool) → t ≡ (t && true)
    and_true t = grind arith

-- with one fact more, who is alive is who was and is let fly by it
pub alive_more : (m n : ℕ) (allowed : BitRowsSeen) (marks : List Fact) (fact : Fact) (old new : BitRowsSeen) → IsAliveTable m n allowed marks old
    → AreChanged (λ a k had. had && lets_fly k a fact) old new → IsAliveTable m n allowed (marks ++ fact ∷ []) new
alive_more m n allowed marks fact old new table changed = record {
  rows = changed.rows ∙ table.rows;
  columns = changed.columns ∙ table.columns;
  pairs = λ a k la lk. changed.pairs a k (rw table.columns lk) ∙ ap (λ t. t && lets_fly k a fact) (table.pairs a k la lk)
      ∙ three (has_pair allowed a k) (list_all (lets_fly k a) marks) (lets_fly k a fact)
      ∙ ap (λ t. has_pair allowed a k && t) (sym (all_more (lets_fly k a) marks fact));
}
  where
    three : (x y z : Bool) → ((x && y) && z) ≡ (x && (y && z))
    three x y z = grind arith

-- who is alive by the table, and may fly by the rules of the book, is alive
pub alive_is : (book : BookSeen) (m n : ℕ) (allowed alive : BitRowsSeen) (marks : List Fact) → IsAllowedTable book allowed → IsAliveTable m n allowed marks alive
    → (a k : ℕ) → a < n → k < m → a < activities book → k < aircraft book → has_pair alive a k ≡ is_alive book marks k a
unfolding is_alive
alive_is book m n allowed alive marks rules table a k la lk la' lk' = table.pairs a k la lk ∙ ap (λ t. t && list_all (lets_fly k a) marks) (rules.pairs a k la' lk')

pub facts_more : (rows columns : ℕ) (kind : ℕ → ℕ → Fact → Bool) (marks : List Fact) (fact : Fact) (old new : BitRowsSeen) → IsFactTable rows columns kind marks old
    → AreChanged (λ r c had. had || kind r c fact) old new → IsFactTable rows columns kind (marks ++ fact ∷ []) new
facts_more rows columns kind marks fact old new table changed = record {
  rows_are = changed.rows ∙ table.rows_are;
  columns_are = changed.columns ∙ table.columns_are;
  pairs = λ r c lr lc. changed.pairs r c (rw table.columns_are lc) ∙ ap (λ t. t || kind r c fact) (table.pairs r c lr lc) ∙ sym (any_more (kind r c) marks fact);
}

pub named_last : (names : Fact → Option ℕ) (so_far : Named) (marks : List Fact) (fact : Fact) → named_from names so_far (marks ++ fact ∷ []) ≡ with_named (named_from names so_far marks) (names fact)
named_last names so_far [] fact = refl
named_last names so_far (first ∷ rest) fact = named_last names (with_named so_far (names first)) rest fact

pub named_more : (n : ℕ) (names : ℕ → Fact → Option ℕ) (marks : List Fact) (fact : Fact) (old new : List Named) → IsNamedTable n names marks old
    → AreNoted (λ a. names a fact) old new → IsNamedTable n names (marks ++ fact ∷ []) new
named_more n names marks fact old new table noted = record {
  count = noted.count ∙ table.count;
  each = λ a la. noted.each a (rw table.count la) ∙ ap (λ t. with_named t (names a fact)) (table.each a la) ∙ sym (named_last (names a) Nothing marks fact);
}

-- a fact of the book is within the numbers of the book's marks
pub within_marks : (book : BookSeen) (m n : ℕ) (fact : Fact) → m ≡ aircraft book → n ≡ activities book → IsFactOf book fact → IsFactWithin m n fact
within_marks book m n (Bar k a) em en h = (omega (arith, h.0, em), omega (arith, h.1, en))
within_marks book m n (Must k a) em en h = (omega (arith, h.0, em), omega (arith, h.1, en))
within_marks book m n (Cut a b) em en h = (omega (arith, h.0, en), omega (arith, h.1, en))
within_marks book m n (Tie a b) em en h = (omega (arith, h.0, en), omega (arith, h.1, en))

-- tables that have nothing say what no fact says
pub facts_none : (rows columns : ℕ) (kind : ℕ → ℕ → Fact → Bool) (table : BitRowsSeen) → table.rows ≡ rows → table.columns ≡ columns → ((r c : ℕ) → has_pair table r c ≡ false)
    → IsFactTable rows columns kind [] table
facts_none rows columns kind table er ec none = record { rows_are = er; columns_are = ec; pairs = λ r c lr lc. none r c }

pub named_none : (n : ℕ) (names : ℕ → Fact → Option ℕ) (named : List Named) → length named ≡ n → ((a : ℕ) → get_or named a Nothing ≡ Nothing) → IsNamedTable n names [] named
named_none n names named count none = record { count = count; each = λ a la. none a }

-- and what is within them is of the book
pub of_book : (book : BookSeen) (m n : ℕ) (fact : Fact) → m ≡ aircraft book → n ≡ activities book → IsFactWithin m n fact → IsFactOf book fact
of_book book m n (Bar k a) em en h = (omega (arith, h.0, em), omega (arith, h.1, en))
of_book book m n (Must k a) em en h = (omega (arith, h.0, em), omega (arith, h.1, en))
of_book book m n (Cut a b) em en h = (omega (arith, h.0, en), omega (arith, h.1, en))
of_book book m n (Tie a b) em en h = (omega (arith, h.0, en), omega (arith, h.1, en))
