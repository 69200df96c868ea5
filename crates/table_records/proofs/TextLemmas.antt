-- Whether a text is UTF-8, as std tells: where std gives the text, the test of the definition holds, and where it gives
-- an error, it does not. So both have one answer.
use Rattle.std.proofs.Common.{◌≡◌, ℕ, Bool, true, false, List, Result, Ok, Err, sym, refl}
use Rattle.std.proofs.lemmas.Str.{IsUtf8-from_is_utf8, is_utf8-from_IsUtf8}
use Rattle.std.specs.Result.{MatchResult, is_ok}
use Rattle.std.specs.Str.{IsUtf8, is_utf8}

failed : (bytes : List ℕ) (test : Bool) → is_utf8 bytes ≡ test → ¬ IsUtf8 bytes → test ≡ false
failed bytes true e no_text = absurd (no_text (IsUtf8-from_is_utf8 bytes e))
failed bytes false e no_text = refl

-- where std gives the text, the test holds, and where it gives an error, it does not
pub is_utf8-told : {T E : Type 0} (bytes : List ℕ) (P : T → Type 0) (Q : E → Type 0) (r : Result T E)
    → MatchResult r (λ t. P t × IsUtf8 bytes) (λ e. ¬ IsUtf8 bytes × Q e) → is_ok r ≡ is_utf8 bytes
is_utf8-told bytes P Q (Ok t) told = sym (is_utf8-from_IsUtf8 bytes told.1)
is_utf8-told bytes P Q (Err e) told = sym (failed bytes (is_utf8 bytes) refl told.0)
