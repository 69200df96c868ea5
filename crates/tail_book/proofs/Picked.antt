-- What a test picks from two numbers is one of them.
use Rattle.std.proofs.Common.{◌≡◌, ◌⊎◌, ℤ, Bool, true, false, cond, refl, inl, inr}

pub picked : (b : Bool) (x y : ℤ) → (cond b y x ≡ x) ⊎ (cond b y x ≡ y)
picked true x y = inr refl
picked false x y = inl refl
