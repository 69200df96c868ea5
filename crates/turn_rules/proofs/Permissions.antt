-- The table of permissions is a row for each aircraft, with an entry for each activity: the entry `a` of row `k` is
-- whether aircraft `k` may fly activity `a`.
use Rattle.std.proofs.Common.{◌≡◌, ℕ, ◌+◌, ◌*◌, ◌<◌, ◌∙◌, arith, length, ap, get_or}
use Rattle.std.proofs.lemmas.List.FromFn.{length-map-range_with_len, get_or-map-range_with_len}
use Rattle.std.specs.Prelude.{false}
use Rattle.std.specs.List.{flat_map, range_with_len}
use Rattle.tail_book.specs.Seen.{BookSeen}
use Rattle.tail_book.specs.Lookup.{activities, aircraft}
use Rattle.tail_book.specs.LegalTests.{is_allowed}
use Rattle.tail_book.proofs.Rows.{entry, rows_length}
use Rattle.turn_rules.specs.inside.PermissionTable.{allowed_to}

row_length : (book : BookSeen) (k : ℕ) → length (allowed_to book k) ≡ activities book
row_length book k = length-map-range_with_len (is_allowed book k) 0 (activities book)

pub permissions_length : (book : BookSeen) → length (flat_map (allowed_to book) (range_with_len 0 (aircraft book))) ≡ activities book * aircraft book
permissions_length book = rows_length (allowed_to book) (activities book) (row_length book) 0 (aircraft book)

pub permission_at : (book : BookSeen) (k a : ℕ) → k < aircraft book → a < activities book
    → get_or (flat_map (allowed_to book) (range_with_len 0 (aircraft book))) (k * activities book + a) false ≡ is_allowed book k a
permission_at book k a lk la =
    let same : allowed_to book (0 + k) ≡ allowed_to book k = ap (allowed_to book) (omega arith) in
    entry false (allowed_to book) (activities book) (row_length book) 0 (aircraft book) k a lk la ∙ ap (λ row. get_or row a false) same
    ∙ get_or-map-range_with_len (is_allowed book k) 0 (activities book) a a false la (omega arith)
