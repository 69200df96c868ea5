-- Names and numbers have no space, no newline and no colon: each of their bytes passes a test that these fail. So a
-- line is cut where something was put between them, and nowhere else.
use Rattle.std.proofs.Common.{◌≡◌, ◌∙◌, ℕ, Bool, true, false, List, [], ◌∷◌, length, sym, refl, arith, ◌≤◌, ◌==◌, ◌&&◌, ◌||◌, nat_le, get_or}
use Rattle.std.proofs.lemmas.Bool.{and_parts, eqb-true, leb-true}
use Rattle.std.proofs.lemmas.List.Sums.{AllPass-from_list_all}
use Rattle.std.specs.Char.{is_ascii_alphanumeric}
use Rattle.std.specs.List.{list_all, All}
use Rattle.tail_book.specs.Name.{is_name, is_name_byte}

-- no byte of the text is this one
abbrev pub Lacks : ℕ → List ℕ → Type 0
Lacks byte text = All (λ c. (c == byte) ≡ false) text

-- a byte that fails a test is none that passes it
apart : (test : ℕ → Bool) (byte c : ℕ) (same : Bool) → (c == byte) ≡ same → test byte ≡ false → test c ≡ true → same ≡ false
apart test byte c true is fails passes = let e : c ≡ byte = eqb-true c byte is in let told : test byte ≡ true = rw e at passes in sym told ∙ fails
apart test byte c false is fails passes = refl

pub lacks : (test : ℕ → Bool) (byte : ℕ) (text : List ℕ) → test byte ≡ false → list_all test text ≡ true → Lacks byte text
lacks test byte text fails passes =
    let each = AllPass-from_list_all test text passes in
    λ k d lt. apart test byte (get_or text k d) _ refl fails (each k d lt)

or_left : (a b : Bool) → a ≡ true → (a || b) ≡ true
or_left a b e = rw e refl

-- every byte of a name may stand in a name
pub is_name-bytes : (text : List ℕ) → is_name text ≡ true → list_all is_name_byte text ≡ true
is_name-bytes [] e = refl
is_name-bytes (c ∷ cs) e =
    let parts = and_parts (is_ascii_alphanumeric c) (nat_le (length cs) 15 && list_all is_name_byte cs) e in
    let rest = and_parts (nat_le (length cs) 15) (list_all is_name_byte cs) parts.1 in
    rw (parts.0, rest.1) refl

pub is_name-lacks : (byte : ℕ) (text : List ℕ) → is_name_byte byte ≡ false → is_name text ≡ true → Lacks byte text
is_name-lacks byte text fails name = lacks is_name_byte byte text fails (is_name-bytes text name)

pub is_name-short : (text : List ℕ) → is_name text ≡ true → length text ≤ 16
is_name-short [] e = omega arith
is_name-short (c ∷ cs) e =
    let parts = and_parts (is_ascii_alphanumeric c) (nat_le (length cs) 15 && list_all is_name_byte cs) e in
    let rest = and_parts (nat_le (length cs) 15) (list_all is_name_byte cs) parts.1 in
    omega (arith, leb-true (length cs) 15 rest.0)
