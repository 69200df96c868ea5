-- The quotas of a table, record by record: what the reader has so far stands before what is left, and each turn of its loop
-- takes one record from what is left.
use Rattle.std.proofs.Common.{◌≡◌, ◌∙◌, ◌<◌, ℕ, ◌+◌, ◌-◌, true, length-append, List, [], ◌∷◌, ◌++◌, Result, Ok, Err, length, refl, arith, nat_lt, ◌==◌}
use Rattle.std.proofs.lemmas.Bool.Decides.{nat_tests}
use Rattle.std.proofs.lemmas.List.{append-nil}
use Rattle.tail_book.specs.Seen.{BookSeen}
use Rattle.tail_text.specs.Checks.{must}
use Rattle.tail_text.specs.declared.codes.TheConstants.{SHAPE, TOO_MANY}
use Rattle.tail_text.specs.inside.Joined.{joined, joined-more}
use Rattle.table_records.proofs.RowLemmas.{must-passes}
use Rattle.quota_rows.specs.QuotaTable.{QuotaRefusal, header, quota_in, quotas_from, record_in, refused_at}
use Rattle.quota_rows.specs.declared.quota.Quota.{Quota}
use Rattle.quota_rows.specs.declared.quota.TheConstants.{QUOTA_LIMIT}

positive : (n : ℕ) → nat_lt 0 n ≡ true → 0 < n
positive n e = grind (arith, nat_tests)

-- a record that gives a quota had room
pub record_in-room : (book : BookSeen) (room : ℕ) (fields : List (List ℕ)) (quota : Quota) → record_in book room fields ≡ Ok quota → 0 < room
record_in-room book room fields quota e =
    let counted = must-passes (length fields == length header) SHAPE (must (nat_lt 0 room) TOO_MANY (quota_in book fields)) quota e in
    positive room (must-passes (nat_lt 0 room) TOO_MANY (quota_in book fields) quota counted.1).0

-- the turns of the loop, over what all records give
module _ (book : BookSeen) (all : Result (List Quota) QuotaRefusal) (quotas : List Quota) (left : List (List (List ℕ)))
    (known : all ≡ joined quotas (quotas_from book (length quotas + 2) (QUOTA_LIMIT - length quotas) left)) where
  pub turn-end : left ≡ [] → all ≡ Ok quotas
  unfolding quotas_from
  turn-end e = known ∙ rw (e, append-nil) refl

  pub turn-bad : (fields : List (List ℕ)) (more : List (List (List ℕ))) (code : ℕ) → left ≡ fields ∷ more
      → record_in book (QUOTA_LIMIT - length quotas) fields ≡ Err code → all ≡ Err (refused_at code (length quotas + 2))
  unfolding quotas_from
  turn-bad fields more code e bad = known ∙ rw (e, bad) refl

  pub turn-good : (fields : List (List ℕ)) (more : List (List (List ℕ))) (quota : Quota) → left ≡ fields ∷ more
      → record_in book (QUOTA_LIMIT - length quotas) fields ≡ Ok quota
      → all ≡ joined (quotas ++ quota ∷ []) (quotas_from book (length (quotas ++ quota ∷ []) + 2) (QUOTA_LIMIT - length (quotas ++ quota ∷ [])) more)
  unfolding quotas_from
  turn-good fields more quota e good =
      let longer : length (quotas ++ quota ∷ []) ≡ length quotas + 1 = omega (arith, length-append quotas (quota ∷ [])) in
      let place : length quotas + 1 + 2 ≡ length quotas + 2 + 1 = omega arith in
      let room : QUOTA_LIMIT - (length quotas + 1) ≡ QUOTA_LIMIT - length quotas - 1 = omega arith in
      known ∙ rw (e, good, longer, place, room) (joined-more quotas quota (quotas_from book (length quotas + 2 + 1) (QUOTA_LIMIT - length quotas - 1) more))
