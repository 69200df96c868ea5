-- Reading a line chains answers that may be missing: map, and then, a test, one of two. Where the answer of a chain is
-- there, each part was there and each test passed, by cases of the first part. So a goal about a line that was read
-- becomes a goal about what its words were read as.
use Rattle.std.proofs.Common.{◌≡◌, Bool, true, false, Option, Some, None, refl, subst}
use Rattle.std.specs.Prelude.{option_map, option_and_then, if◌then◌else◌}

some_is : {A : Type 0} (a b : A) → Some a ≡ Some b → a ≡ b
some_is a b e = cc e

-- it was made of one that is there
pub through_map : {A B : Type 0} (f : A → B) (P : B → Type 0) (o : Option A) (b : B) → ((a : A) → o ≡ Some a → P (f a)) → option_map f o ≡ Some b → P b
through_map f P None b given e = absurd (cc e)
through_map f P (Some a) b given e = subst P (some_is (f a) b e) (given a refl)

pub through_then : {A B : Type 0} (f : A → Option B) (P : B → Type 0) (o : Option A) (b : B) → ((a : A) → o ≡ Some a → f a ≡ Some b → P b) → option_and_then f o ≡ Some b → P b
through_then f P None b given e = absurd (cc e)
through_then f P (Some a) b given e = given a refl e

-- a test passed
pub through_if : {B : Type 0} (test : Bool) (P : B → Type 0) (o : Option B) (b : B) → (test ≡ true → o ≡ Some b → P b) → (if test then o else None) ≡ Some b → P b
through_if true P o b given e = given refl e
through_if false P o b given e = absurd (cc e)

-- one of two answers is it
pub through_either : {B : Type 0} (test : Bool) (P : B → Type 0) (one other : Option B) (b : B) → (test ≡ true → one ≡ Some b → P b) → (test ≡ false → other ≡ Some b → P b)
    → (if test then one else other) ≡ Some b → P b
through_either true P one other b given or e = given refl e
through_either false P one other b given or e = or refl e
