-- A key, written counter by counter. It begins with the weight and the moment of arrival; what is written, with the
-- keys of the counters that are left behind it, is the whole key at each step. So with no counter left what is written
-- is the key. It has two values more than there are counters.
use Rattle.std.proofs.Common.{append_assoc, append-nil, suc, ◌≡◌, ℕ, ℤ, pos, ◌+◌, ◌<◌, ◌≤◌, Bool, arith, refl, List, [], ◌∷◌, ◌++◌, length, get_or, drop, sym, ◌∙◌, ap, ap₂}
use Rattle.std.proofs.lemmas.List.{drop_more, drop_all}
use Rattle.tail_book.specs.Seen.{BookSeen, CounterSeen}
use Rattle.tail_book.specs.Lookup.{end_of}
use Rattle.pricing.specs.Rows.{counters_of}
use Rattle.pricing.specs.inside.Lines.{key_row, key_one, keys}

pub values_long : (row : List ℤ) (n : ℕ) → length row ≡ n + 1 → length (counters_of row) ≡ n
values_long [] n same = absurd (omega (arith, same))
values_long (w ∷ values) n same = omega (arith, same)

-- one counter more is written
pub key_more : (port : ℕ) (lo arrival : ℤ) (counters : List CounterSeen) (values key : List ℤ) (c : ℕ) (counter : CounterSeen) (next : ℤ)
    → c < length counters → c < length values → counter ≡ get_or counters c counter → next ≡ key_one port lo arrival counter (get_or values c (pos 0))
    → key ++ keys port lo arrival (drop c counters) (drop c values) ≡ (key ++ next ∷ []) ++ keys port lo arrival (drop (c + 1) counters) (drop (c + 1) values)
key_more port lo arrival counters values key c counter next in_counters in_values is_counter is_next =
    ap (λ r. key ++ r) (ap₂ (keys port lo arrival) (drop_more counters c counter in_counters ∙ ap (λ z. z ∷ drop (c + 1) counters) (sym is_counter)) (drop_more values c (pos 0) in_values))
    ∙ ap (λ v. key ++ v ∷ keys port lo arrival (drop (c + 1) counters) (drop (c + 1) values)) (sym is_next)
    ∙ sym (append_assoc key (next ∷ []) _)

-- all counters are written
pub key_done : (port : ℕ) (lo arrival : ℤ) (counters : List CounterSeen) (values key whole : List ℤ) (c : ℕ) → length counters ≤ c
    → whole ≡ key ++ keys port lo arrival (drop c counters) (drop c values) → key ≡ whole
key_done port lo arrival counters values key whole c all so_far =
    sym (so_far ∙ ap (λ cs. key ++ keys port lo arrival cs (drop c values)) (drop_all c counters all) ∙ append-nil key)

length-keys : (port : ℕ) (lo arrival : ℤ) (counters : List CounterSeen) (values : List ℤ) → length values ≡ length counters → length (keys port lo arrival counters values) ≡ length counters
length-keys port lo arrival [] values same = refl
length-keys port lo arrival (counter ∷ counters) [] same = absurd (omega (arith, same))
length-keys port lo arrival (counter ∷ counters) (v ∷ values) same = ap suc (length-keys port lo arrival counters values (omega (arith, same)))

pub length-key_row : (book : BookSeen) (port : ℕ) (lo : ℤ) (lasting : Bool) (x : ℕ) (row : List ℤ) → length row ≡ length book.rules.counters + 1
    → length (key_row book port lo lasting x row) ≡ 2 + length book.rules.counters
length-key_row book port lo lasting x [] same = absurd (omega (arith, same))
length-key_row book port lo lasting x (w ∷ values) same =
    let long = length-keys port lo (end_of book x) book.rules.counters values (omega (arith, same)) in omega (arith, long)
