-- The ids of a line, part by part: those before the limit are kept, and the others are only tested. By induction on the
-- parts that were seen: all of them are names, and the first ones, as many as may be, are kept. A part past the limit
-- is remembered and not refused at once, since a later part that is no name decides first.
use Rattle.std.proofs.Common.{◌≡◌, ◌∙◌, ◌<◌, ◌≤◌, ℕ, ◌+◌, Bool, true, false, sym, List, [], ◌∷◌, ◌++◌, Result, Ok, Err, length, length-append, take, refl, arith, nat_lt, nat_le, length-take, append_assoc, ap}
use Rattle.std.specs.List.{list_all}
use Rattle.std.proofs.lemmas.Bool.{le-leb, le-ltb, lt-leb, lt-ltb, ltb-false, ltb-true}
use Rattle.std.proofs.lemmas.List.{append-nil, take_all, take-append-le}
use Rattle.std.proofs.lemmas.List.Folds.{list_all-append}
use Rattle.tail_book.specs.Name.{is_name}
use Rattle.tail_text.specs.Bad.{bad}
use Rattle.tail_text.specs.NameText.{name_of}
use Rattle.tail_text.specs.declared.bad.Bad.{Bad}
use Rattle.plan_report.specs.PlanText.{ids_in}
use Rattle.tail_book.specs.declared.limits.TheConstants.{ACTIVITY_LIMIT}

named : (test : Bool) (text name : List ℕ) → is_name text ≡ test → Ok name ≡ name_of text → (name ≡ text) × (is_name text ≡ true)
named true text name is e = let told : ◌≡◌ {A = Result (List ℕ) Bad} (Ok name) (Ok text) = rw is at e in (cc told, is)
named false text name is e = let told : ◌≡◌ {A = Result (List ℕ) Bad} (Ok name) (Err bad) = rw is at e in cc told

unnamed : (test : Bool) (text : List ℕ) (why : Bad) → is_name text ≡ test → Err why ≡ name_of text → is_name text ≡ false
unnamed true text why is e = let told : ◌≡◌ {A = Result (List ℕ) Bad} (Err why) (Ok text) = rw is at e in cc told
unnamed false text why is e = is

-- of the parts some were seen, and are names; the first of them are kept, and a part too many is remembered
pub record AreKept (limit : ℕ) (parts left ids : List (List ℕ)) (too_many : Bool) : Type 0 where
  pub seen : List (List ℕ)
  pub split : parts ≡ seen ++ left
  pub good : list_all is_name seen ≡ true
  pub kept : ids ≡ take limit seen
  pub many : too_many ≡ nat_lt limit (length seen)

-- no more are kept than may be
pub AreKept-few : (limit : ℕ) (parts left ids : List (List ℕ)) (too_many : Bool) → AreKept limit parts left ids too_many → length ids ≤ limit
AreKept-few limit parts left ids too_many h = omega (arith, ap length h.kept, length-take limit h.seen)

-- the turns at one part
module _ (limit : ℕ) (parts left ids : List (List ℕ)) (too_many : Bool) (so_far : AreKept limit parts left ids too_many)
    (part : List ℕ) (more : List (List ℕ)) (next : left ≡ part ∷ more) where
  split_on : parts ≡ (so_far.seen ++ part ∷ []) ++ more
  split_on = so_far.split ∙ rw (next, append_assoc) refl

  longer : length (so_far.seen ++ part ∷ []) ≡ length so_far.seen + 1
  longer = omega (arith, length-append so_far.seen (part ∷ []))

  good : (id : List ℕ) → Ok id ≡ name_of part → list_all is_name (so_far.seen ++ part ∷ []) ≡ true
  good id e = rw (list_all-append is_name so_far.seen (part ∷ []), so_far.good, (named (is_name part) part id refl e).1) refl

  room : length ids < limit → length so_far.seen < limit
  room few = omega (arith, few, ap length so_far.kept, length-take limit so_far.seen)

  -- a good part that still has room is kept
  pub turn-kept : (id : List ℕ) → Ok id ≡ name_of part → length ids < limit → AreKept limit parts more (ids ++ id ∷ []) too_many
  turn-kept id e few =
      let n = room few in
      let before : ids ≡ so_far.seen = so_far.kept ∙ take_all limit so_far.seen (omega (arith, n)) in
      let all : take limit (so_far.seen ++ part ∷ []) ≡ so_far.seen ++ part ∷ [] = take_all limit (so_far.seen ++ part ∷ []) (omega (arith, n, longer)) in
      record {
        seen = so_far.seen ++ part ∷ [];
        split = split_on;
        good = good id e;
        kept = rw (all, before, (named (is_name part) part id refl e).0) refl;
        many = so_far.many ∙ le-ltb limit (length so_far.seen) (omega (arith, n)) ∙ sym (le-ltb limit (length (so_far.seen ++ part ∷ [])) (omega (arith, n, longer)));
      }

  full : limit ≤ length ids → limit ≤ length so_far.seen
  full most = omega (arith, most, ap length so_far.kept, length-take limit so_far.seen)

  -- a good part past the room is only tested
  pub turn-over : (id : List ℕ) → Ok id ≡ name_of part → limit ≤ length ids → AreKept limit parts more ids true
  turn-over id e most =
      let n = full most in
      record {
        seen = so_far.seen ++ part ∷ [];
        split = split_on;
        good = good id e;
        kept = so_far.kept ∙ sym (take-append-le limit so_far.seen (part ∷ []) n);
        many = sym (lt-ltb limit (length (so_far.seen ++ part ∷ [])) (omega (arith, n, longer)));
      }

  -- a bad part decides
  pub turn-bad : (why : Bad) → Err why ≡ name_of part → list_all is_name parts ≡ false
  turn-bad why e =
      let bad_part : is_name part ≡ false = unnamed (is_name part) part why refl e in
      rw (so_far.split, next, list_all-append is_name so_far.seen (part ∷ more), so_far.good, bad_part) refl

-- behind the last part
module _ (limit : ℕ) (parts left ids : List (List ℕ)) (done : left ≡ []) where
  whole : (too_many : Bool) (so_far : AreKept limit parts left ids too_many) → parts ≡ so_far.seen
  whole too_many so_far = so_far.split ∙ rw (done, append-nil) refl

  pub end-good : (too_many : Bool) → AreKept limit parts left ids too_many → list_all is_name parts ≡ true
  end-good too_many so_far = rw (whole too_many so_far) so_far.good

  pub end-many : AreKept limit parts left ids true → nat_le (length parts) limit ≡ false
  end-many so_far = rw (whole true so_far) (lt-leb (length so_far.seen) limit (ltb-true limit (length so_far.seen) (sym so_far.many)))

  pub end-few : AreKept limit parts left ids false → (nat_le (length parts) limit ≡ true) × (parts ≡ ids)
  end-few so_far =
      let few = ltb-false limit (length so_far.seen) (sym so_far.many) in
      let all = whole false so_far in
      (rw all (le-leb (length so_far.seen) limit few), all ∙ sym (so_far.kept ∙ take_all limit so_far.seen few))

pub ids_in-good : (place : ℕ) (parts ids : List (List ℕ)) → list_all is_name parts ≡ true → nat_le (length parts) ACTIVITY_LIMIT ≡ true → parts ≡ ids → ids_in place parts ≡ Ok ids
ids_in-good place parts ids good few same = rw (good, few, same) refl
