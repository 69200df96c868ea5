-- The items of a field, part by part: those before the limit are kept, and the others are only looked at.
-- What the parts behind give decides, so each turn moves one item from there to those that are read.
use Rattle.std.proofs.Common.{◌≡◌, ◌∙◌, ◌<◌, ◌≤◌, ℕ, ◌+◌, Bool, true, false, sym, List, [], ◌∷◌, ◌++◌, Result, Ok, Err, length, take, refl, arith, nat_lt, nat_le, length-take, ap}
use Rattle.std.proofs.lemmas.Bool.{le-leb, le-ltb, lt-leb, lt-ltb, ltb-false, ltb-true}
use Rattle.std.proofs.lemmas.List.{append-nil, length_push, take_all, take-append-le}
use Rattle.std.proofs.lemmas.List.Elements.{All-push}
use Rattle.std.specs.Prelude.{All}
use Rattle.tail_book.specs.declared.limits.TheConstants.{ITEM_LIMIT}
use Rattle.tail_text.specs.Checks.{look_each}
use Rattle.tail_text.specs.declared.codes.TheConstants.{TOO_MANY}
use Rattle.tail_text.specs.inside.Joined.{joined, joined-bad, joined-good}
use Rattle.table_records.specs.Lists.{items_of}

-- what is read of these parts stands before what those give that are left, the first of it is kept, and an item too
-- many has been seen
pub record AreRead {A : Type 0} (give : List ℕ → Result A ℕ) (P : A → Type 0) (parts left : List (List ℕ)) (kept : List A) (too_many : Bool) : Type 0 where
  pub read : List A
  pub rest : look_each give parts ≡ joined read (look_each give left)
  pub front : kept ≡ take ITEM_LIMIT read
  pub many : too_many ≡ nat_lt ITEM_LIMIT (length read)
  pub sound : All P kept

-- where fewer items are kept than may be, fewer have been read
short : {A : Type 0} (limit : ℕ) (kept read : List A) → kept ≡ take limit read → length kept < limit → length read < limit
short limit kept read front few = omega (arith, length-take limit read, ap length front)

long : {A : Type 0} (limit : ℕ) (kept read : List A) → kept ≡ take limit read → limit ≤ length kept → limit ≤ length read
long limit kept read front full = omega (arith, length-take limit read, ap length front)

within : {A : Type 0} (limit : ℕ) (kept read : List A) → kept ≡ take limit read → length kept ≤ limit
within limit kept read front = omega (arith, length-take limit read, ap length front)

module _ {A : Type 0} (give : List ℕ → Result A ℕ) (P : A → Type 0) (parts left : List (List ℕ)) (kept : List A) where
  -- the turns at one part
  module _ (too_many : Bool) (so_far : AreRead give P parts left kept too_many) (text : List ℕ) (more : List (List ℕ)) (taken : left ≡ text ∷ more) where
    next : look_each give parts ≡ joined so_far.read (look_each give (text ∷ more))
    next = so_far.rest ∙ ap (λ ps. joined so_far.read (look_each give ps)) taken

    moved : (item : A) → Ok item ≡ give text → look_each give parts ≡ joined (so_far.read ++ item ∷ []) (look_each give more)
    moved item is = next ∙ joined-good so_far.read (give text) (look_each give more) item is

    -- a good item that still has room is kept
    pub turn-kept : (item : A) → Ok item ≡ give text → P item → length kept < ITEM_LIMIT → AreRead give P parts more (kept ++ item ∷ []) too_many
    turn-kept item is good few =
        let room : length so_far.read < ITEM_LIMIT = short ITEM_LIMIT kept so_far.read so_far.front few in
        let longer : length (so_far.read ++ item ∷ []) ≡ length so_far.read + 1 = length_push so_far.read item in
        let before : kept ≡ so_far.read = so_far.front ∙ take_all ITEM_LIMIT so_far.read (omega arith) in
        record {
          read = so_far.read ++ item ∷ [];
          rest = moved item is;
          front = rw before (sym (take_all ITEM_LIMIT (so_far.read ++ item ∷ []) (omega (arith, longer))));
          many = so_far.many ∙ le-ltb ITEM_LIMIT (length so_far.read) (omega arith)
              ∙ sym (le-ltb ITEM_LIMIT (length (so_far.read ++ item ∷ [])) (omega (arith, longer)));
          sound = All-push P kept item so_far.sound good;
        }

    -- a good item past the room is only looked at
    pub turn-over : (item : A) → Ok item ≡ give text → ITEM_LIMIT ≤ length kept → AreRead give P parts more kept true
    turn-over item is full =
        let many : ITEM_LIMIT ≤ length so_far.read = long ITEM_LIMIT kept so_far.read so_far.front full in
        let longer : length (so_far.read ++ item ∷ []) ≡ length so_far.read + 1 = length_push so_far.read item in
        record {
          read = so_far.read ++ item ∷ [];
          rest = moved item is;
          front = so_far.front ∙ sym (take-append-le ITEM_LIMIT so_far.read (item ∷ []) many);
          many = sym (lt-ltb ITEM_LIMIT (length (so_far.read ++ item ∷ [])) (omega (arith, longer)));
          sound = so_far.sound;
        }

    -- a bad item decides
    pub turn-bad : (code : ℕ) → Err code ≡ give text → items_of give parts ≡ Err code
    turn-bad code is =
        let all : look_each give parts ≡ Err code = next ∙ joined-bad so_far.read (give text) (look_each give more) code is in
        rw all refl

  -- the end of the parts
  module _ (end : left ≡ []) where
    all-read : (too_many : Bool) (so_far : AreRead give P parts left kept too_many) → look_each give parts ≡ Ok so_far.read
    all-read too_many so_far = so_far.rest ∙ ap (λ ps. joined so_far.read (look_each give ps)) end ∙ rw append-nil refl

    pub end-many : AreRead give P parts left kept true → items_of give parts ≡ Err TOO_MANY
    end-many so_far =
        let all : look_each give parts ≡ Ok so_far.read = all-read true so_far in
        let past : nat_le (length so_far.read) ITEM_LIMIT ≡ false = lt-leb (length so_far.read) ITEM_LIMIT (ltb-true ITEM_LIMIT (length so_far.read) (sym so_far.many)) in
        rw (all, past) refl

    pub end-few : AreRead give P parts left kept false → items_of give parts ≡ Ok kept
    end-few so_far =
        let all : look_each give parts ≡ Ok so_far.read = all-read false so_far in
        let few : length so_far.read ≤ ITEM_LIMIT = ltb-false ITEM_LIMIT (length so_far.read) (sym so_far.many) in
        let fits : nat_le (length so_far.read) ITEM_LIMIT ≡ true = le-leb (length so_far.read) ITEM_LIMIT few in
        let same : kept ≡ so_far.read = so_far.front ∙ take_all ITEM_LIMIT so_far.read few in
        rw (all, fits, same) refl
