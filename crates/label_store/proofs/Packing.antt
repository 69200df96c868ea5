-- Values packed one row after the other: the values at place q begin at q times the width, and end before those of any
-- later place begin. So a row that is copied to another place changes no value elsewhere, a cut behind some places
-- leaves these as they are, and one more row stands at the place behind the others. With the numbers that move, are cut
-- and come alike, the values stay packed.
use Rattle.std.proofs.Common.{◌≡◌, ◌≢◌, ◌⊎◌, ℕ, ℤ, pos, ◌+◌, ◌*◌, ◌-◌, ◌<◌, ◌≤◌, min, arith, inl, inr, List, [], ◌∷◌, ◌++◌, length, take, drop, get_or, set, sym, ◌∙◌, ap, ap₂, subst, get_or-set_other}
use Rattle.std.specs.Prelude.{All}
use Rattle.std.specs.List.{SameBelow, SameFrom, CopiedTo}
use Rattle.std.proofs.lemmas.Nat.{mul-le}
use Rattle.std.proofs.lemmas.Bool.{cases_lt}
use Rattle.std.proofs.lemmas.List.{get_or-take, get_or-drop, ext_get_or, length-take, length-drop, length-take-le, length-append, length-set, get_or-set_same, get_or_append_left, get_or-append-add, get_or_push}
use Rattle.label_store.specs.Buckets.{row_at}
use Rattle.label_store.specs.inside.Packing.{part, IsPacked, HasMoved}

-- a number is another one, or not
pub same_or_not : (v node : ℕ) → (v ≡ node) ⊎ (v ≢ node)
same_or_not v node = elim (cases_lt v node) [
  | inl less ↦ inr (λ same. absurd (omega (arith, less, same)))
  | inr more ↦ elim (cases_lt node v) [
    | inl less ↦ inr (λ same. absurd (omega (arith, less, same)))
    | inr least ↦ inl (omega (arith, more, least))
  ]
]

-- the values at a place end before those at a later one begin
pub ends_before : (width p q : ℕ) → p < q → p * width + width ≤ q * width
ends_before width p q less =
    let wide : (p + 1) * width ≤ q * width = mul-le (p + 1) width q width (omega (arith, less)) (omega arith) in
    let product : (p + 1) * width ≡ p * width + width = omega arith in
    omega (arith, wide, product)

-- each value of a part is one of the list
part_at : (width q c : ℕ) (values : List ℤ) → c < width → get_or (part width q values) c (pos 0) ≡ get_or values (q * width + c) (pos 0)
part_at width q c values below = get_or-take width (drop (q * width) values) c (pos 0) below ∙ get_or-drop (q * width) values c (pos 0)

part_wide : (width q : ℕ) (values : List ℤ) → q * width + width ≤ length values → length (part width q values) ≡ width
part_wide width q values inside =
    let left = length-drop (q * width) values in
    length-take-le width (drop (q * width) values) (omega (arith, left, inside))

within : (width q c : ℕ) (values : List ℤ) → c < length (part width q values) → c < width
within width q c values below =
    let long = length-take width (drop (q * width) values) in
    omega (arith, long, below)

-- two parts that agree value by value
alike : (width p q : ℕ) (now old : List ℤ) → length (part width p now) ≡ length (part width q old)
    → ((c : ℕ) → c < width → get_or now (p * width + c) (pos 0) ≡ get_or old (q * width + c) (pos 0)) → part width p now ≡ part width q old
alike width p q now old long same =
    ext_get_or (pos 0) (part width p now) (part width q old) long
    (λ c below.
    let less = within width p c now below in
    part_at width p c now less ∙ same c less ∙ sym (part_at width q c old less))

as_long : (width p : ℕ) (now old : List ℤ) → length now ≡ length old → length (part width p now) ≡ length (part width p old)
as_long width p now old long =
    length-take width (drop (p * width) now)
    ∙ ap (min width) (length-drop (p * width) now ∙ ap (λ n. n - p * width) long ∙ sym (length-drop (p * width) old))
    ∙ sym (length-take width (drop (p * width) old))

-- what a copy of a row over another one leaves
module _ (width from to : ℕ) (old now : List ℤ) (long : length now ≡ length old) (inside_from : from * width + width ≤ length old)
    (inside_to : to * width + width ≤ length old) where
  moved_at : (count : ℕ) → count ≡ width → CopiedTo old now (from * width) (to * width) count → SameBelow old now (to * width)
      → SameFrom old now (to * width + count) → HasMoved width from to old now
  moved_at count is copied below behind = record {
    long = long;
    moved =
        alike width to from now old
        (part_wide width to now (omega (arith, long, inside_to)) ∙ sym (part_wide width from old inside_from))
        (λ c less.
        let back : to * width + c - to * width ≡ c = omega arith in
        copied (to * width + c) (pos 0) (omega arith) (omega (arith, is, less)) ∙ ap (λ k. get_or old (from * width + k) (pos 0)) back);
    others = λ p other.
        alike width p p now old (as_long width p now old long)
        (λ c less. elim (cases_lt p to) [
          | inl before ↦
              let ends = ends_before width p to before in
              below (p * width + c) (pos 0) (omega (arith, ends, less))
          | inr after ↦ elim (cases_lt to p) [
            | inl before ↦
                let ends = ends_before width to p before in
                behind (p * width + c) (pos 0) (omega (arith, ends, is))
            | inr least ↦ absurd (other (omega (arith, after, least)))
          ]
        ]);
  }

  -- where the places are known by other names
  pub moved_of : (source target count : ℕ) → source ≡ from * width → target ≡ to * width → count ≡ width → CopiedTo old now source target count
      → SameBelow old now target → SameFrom old now (target + count) → HasMoved width from to old now
  moved_of source target count begins ends is copied below behind =
      moved_at count is
      (subst (λ s. CopiedTo old now s (to * width) count) begins (subst (λ t. CopiedTo old now source t count) ends copied))
      (subst (λ t. SameBelow old now t) ends below) (subst (λ t. SameFrom old now (t + count)) ends behind)

module _ (width : ℕ) (rows : List (List ℤ)) (bucket : List ℕ) (values : List ℤ) (packed : IsPacked width rows bucket values) where
  -- each row lies inside
  inside : (q : ℕ) → q < length bucket → q * width + width ≤ length values
  inside q below =
      let ends = ends_before width q (length bucket) below in
      omega (arith, ends, packed.fill)

  -- a row moves with its number
  pub packed_moved : (from to : ℕ) (now : List ℤ) → from < length bucket → to ≤ from → HasMoved width from to values now
      → IsPacked width rows (set bucket to (get_or bucket from 0)) now
  packed_moved from to now below before moved = record {
    fill = moved.long ∙ packed.fill ∙ ap (λ n. n * width) (sym (length-set bucket to (get_or bucket from 0)));
    each = λ q inside_q. elim (same_or_not q to) [
      | inl same ↦
          let room : to < length bucket = omega (arith, below, before) in
          ap (λ p. part width p now) same ∙ moved.moved ∙ packed.each from below
          ∙ ap (row_at rows) (sym (get_or-set_same bucket to (get_or bucket from 0) 0 room) ∙ ap (λ p. get_or (set bucket to (get_or bucket from 0)) p 0) (sym same))
      | inr other ↦
          let less : q < length bucket = omega (arith, inside_q, length-set bucket to (get_or bucket from 0)) in
          moved.others q other ∙ packed.each q less ∙ ap (row_at rows) (sym (get_or-set_other bucket to q (get_or bucket from 0) 0 other))
    ];
  }

  -- the first ones of a bucket are packed
  pub packed_cut : (kept : ℕ) → kept ≤ length bucket → IsPacked width rows (take kept bucket) (take (kept * width) values)
  packed_cut kept few =
      let fits : kept * width ≤ length values = omega (arith, mul-le kept width (length bucket) width few (omega arith), packed.fill) in
      let long = length-take-le (kept * width) values fits in
      let numbers = length-take-le kept bucket few in
      record {
        fill = long ∙ ap (λ n. n * width) (sym numbers);
        each = λ q below.
            let less : q < kept = omega (arith, below, numbers) in
            let here : q < length bucket = omega (arith, less, few) in
            let ends = ends_before width q kept less in
            alike width q q (take (kept * width) values) values
            (part_wide width q (take (kept * width) values) (omega (arith, ends, long)) ∙ sym (part_wide width q values (inside q here)))
            (λ c small. get_or-take (kept * width) values (q * width + c) (pos 0) (omega (arith, ends, small)))
            ∙ packed.each q here ∙ ap (row_at rows) (sym (get_or-take kept bucket q 0 less));
      }

  -- and so are those with one more
  pub packed_pushed : (i : ℕ) (row : List ℤ) → length row ≡ width → row_at rows i ≡ row → IsPacked width rows (bucket ++ i ∷ []) (values ++ row)
  packed_pushed i row wide is =
      let long = length-append values row in
      let numbers = length-append bucket (i ∷ []) in
      let product : (length bucket + 1) * width ≡ length bucket * width + width = omega arith in
      record {
        fill = long ∙ ap₂ (λ m n. m + n) packed.fill wide ∙ sym product ∙ ap (λ n. n * width) (sym numbers);
        each = λ q below. elim (cases_lt q (length bucket)) [
          | inl less ↦
              let ends = inside q less in
              alike width q q (values ++ row) values
              (part_wide width q (values ++ row) (omega (arith, ends, long)) ∙ sym (part_wide width q values ends))
              (λ c small. get_or_append_left values row (pos 0) (q * width + c) (omega (arith, ends, small)))
              ∙ packed.each q less ∙ ap (row_at rows) (sym (get_or_append_left bucket (i ∷ []) 0 q less))
          | inr more ↦
              let last : q ≡ length bucket = omega (arith, more, below, numbers) in
              let begins : q * width ≡ length values = ap (λ n. n * width) last ∙ sym packed.fill in
              let whole : length (part width q (values ++ row)) ≡ length row =
              part_wide width q (values ++ row) (omega (arith, begins, long, wide)) ∙ sym wide in
              ext_get_or (pos 0) (part width q (values ++ row)) row whole
              (λ c small.
              part_at width q c (values ++ row) (omega (arith, small, whole, wide)) ∙ ap (λ n. get_or (values ++ row) (n + c) (pos 0)) begins
              ∙ get_or-append-add values row c (pos 0))
              ∙ sym is ∙ ap (row_at rows) (sym (get_or_push bucket i 0 q (sym last)))
        ];
      }

  -- one more row among all changes nothing in a bucket that has it not
  pub packed_longer : (row : List ℤ) → All (λ j. j < length rows) bucket → IsPacked width (rows ++ row ∷ []) bucket values
  packed_longer row numbers = record {
    fill = packed.fill;
    each = λ q below. packed.each q below ∙ sym (get_or_append_left rows (row ∷ []) [] (get_or bucket q 0) (numbers q 0 below));
  }
