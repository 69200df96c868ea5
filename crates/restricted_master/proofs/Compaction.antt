-- A list compacted in place: what stays of the places that were looked at stands at the front, and from the present
-- place on nothing has moved. By induction on the places: what stays is written behind the front, at or before the
-- place where it was read, so nothing is lost that is still to be read. At the end the front is what stays of the whole
-- list.
use Rattle.std.proofs.Common.{◌≡◌, ◌≢◌, ℕ, ◌+◌, ◌<◌, ◌≤◌, arith, refl, true, false, Bool, cond, List, [], ◌∷◌, ◌++◌, length, get_or, set, take, sym, ◌∙◌, ap, ap₂, subst, map, get_or-set_other}
use Rattle.std.specs.Prelude.{filter}
use Rattle.std.proofs.lemmas.List.{length-set, take_all, take_more_set, append-nil}
use Rattle.std.proofs.lemmas.List.Elements.{filter_more}

-- the front of now is what stays of the first q places of old, and from q on nothing has moved
pub record Compacts {X : Type 0} (stays : X → Bool) (d : X) (old now : List X) (kept q : ℕ) : Type 0 where
  pub order : kept ≤ q
  pub same : length now ≡ length old
  pub front : take kept now ≡ filter stays (take q old)
  pub rest : (r : ℕ) → q ≤ r → get_or now r d ≡ get_or old r d

module _ {X : Type 0} (stays : X → Bool) (d : X) (old now : List X) (kept q : ℕ) (so_far : Compacts stays d old now kept q) (below : q < length old)
    (x : X) (read : x ≡ get_or now q d) where
  is_old : get_or old q d ≡ x
  is_old = sym (so_far.rest q (omega arith)) ∙ sym read

  one_more : (stay : Bool) → stays x ≡ stay → filter stays (take (q + 1) old) ≡ take kept now ++ cond stay (x ∷ []) []
  one_more stay is =
      filter_more stays old q d below
      ∙ ap₂ (λ front i. front ++ cond (stays i) (i ∷ []) []) (sym so_far.front) is_old
      ∙ ap (λ b. take kept now ++ cond b (x ∷ []) []) is

  -- what goes leaves the front as it is
  pub compact_drop : stays x ≡ false → Compacts stays d old now kept (q + 1)
  compact_drop goes = record {
    order = omega (arith, so_far.order);
    same = so_far.same;
    front = sym (one_more false goes ∙ append-nil (take kept now));
    rest = λ r le. so_far.rest r (omega (arith, le));
  }

  -- what stays comes to the end of the front
  pub compact_keep : stays x ≡ true → Compacts stays d old (set now kept x) (kept + 1) (q + 1)
  compact_keep stay =
      let order = so_far.order in
      let room : kept < length now = omega (arith, order, below, so_far.same) in
      record {
        order = omega (arith, order);
        same = length-set now kept x ∙ so_far.same;
        front = take_more_set now kept x room ∙ sym (one_more true stay);
        rest = λ r le.
            let other : r ≢ kept = omega (arith, le, order) in
            get_or-set_other now kept r x d other ∙ so_far.rest r (omega (arith, le));
      }

-- at the end the front is what stays
pub compacted : {X : Type 0} (stays : X → Bool) (d : X) (old now : List X) (kept q : ℕ) → Compacts stays d old now kept q → q ≡ length old → take kept now ≡ filter stays old
compacted stays d old now kept q all end = all.front ∙ ap (filter stays) (take_all q old (omega (arith, end)))

-- what is seen of what stays is what stays of what is seen
pub map-filter : {X Y : Type 0} (f : X → Y) (p : Y → Bool) (xs : List X) → map f (filter (λ x. p (f x)) xs) ≡ filter p (map f xs)
map-filter f p [] = refl
map-filter f p (x ∷ xs) = go (p (f x)) (map-filter f p xs)
  where
    go : (b : Bool) → map f (filter (λ y. p (f y)) xs) ≡ filter p (map f xs)
        → map f (cond b (x ∷ filter (λ y. p (f y)) xs) (filter (λ y. p (f y)) xs)) ≡ cond b (f x ∷ filter p (map f xs)) (filter p (map f xs))
    go true rest = ap (λ ys. f x ∷ ys) rest
    go false rest = rest

-- the same under other names
pub same_compacts : {X : Type 0} (stays : X → Bool) (d : X) (old now later : List X) (kept more q : ℕ) → Compacts stays d old now kept q → later ≡ now → more ≡ kept
    → Compacts stays d old later more q
same_compacts {X} stays d old now later kept more q moved same one =
    subst (λ (m : ℕ). Compacts stays d old later m q) (sym one) (subst (λ (l : List X). Compacts stays d old l kept q) (sym same) moved)
