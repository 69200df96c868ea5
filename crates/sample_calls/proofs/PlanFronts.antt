-- A plan's file that is read up to one byte more than it may have reads as the whole of it: where that cuts it, both
-- are too big, and else nothing is cut.
use Rattle.std.proofs.Common.{◌≡◌, ◌∙◌, ℕ, ◌+◌, ◌<◌, ◌≤◌, ◌⊎◌, inl, inr, false, arith, List, length, take, ap, sym, subst, refl, length-take-le}
use Rattle.std.proofs.lemmas.Bool.Decides.{nat_tests}
use Rattle.std.proofs.lemmas.List.{take_all}
use Rattle.std.specs.Prelude.{nat_le, Option, Some, None, IfSome, Result, Err}
use Rattle.tail_book.specs.Seen.{RawPlanSeen}
use Rattle.plan_report.specs.PlanText.{plan_in, refused}
use Rattle.tail_text.specs.declared.refusal.TheConstants.{SIZE_LIMIT}
use Rattle.sample_calls.specs.Files.{TellsPlan}
use Rattle.sample_calls.specs.declared.files.NoPlan.{NoPlan}
use Rattle.sample_calls.specs.declared.files.TheConstants.{READ_LIMIT}

too_big : (n size : ℕ) → size < n → nat_le n size ≡ false
too_big n size h = grind (arith, nat_tests)

split : (n limit : ℕ) → (n ≤ limit) ⊎ (limit < n)
split n limit = grind arith

refuses : (bytes : List ℕ) → nat_le (length bytes) SIZE_LIMIT ≡ false → plan_in bytes ≡ Err (refused 1 0)
refuses bytes big = rw big refl

limited : (bytes : List ℕ) (limit : ℕ) → limit ≡ SIZE_LIMIT + 1 → plan_in (take limit bytes) ≡ plan_in bytes
limited bytes limit one_more = elim (split (length bytes) limit) [
  | inl short ↦ ap plan_in (take_all limit bytes short)
  | inr long ↦
      let fits : limit ≤ length bytes = omega arith in
      let cut : length (take limit bytes) ≡ limit = length-take-le limit bytes fits in
      let first : nat_le (length (take limit bytes)) SIZE_LIMIT ≡ false = too_big (length (take limit bytes)) SIZE_LIMIT (omega (arith, cut, one_more)) in
      let second : nat_le (length bytes) SIZE_LIMIT ≡ false = too_big (length bytes) SIZE_LIMIT (omega (arith, one_more, long)) in
      refuses (take limit bytes) first ∙ sym (refuses bytes second)
]

-- what is told of the front that is read is told of the file
pub tells_whole : (held : Option (List ℕ)) (front : List ℕ) (answer : Result RawPlanSeen NoPlan) → IfSome held (λ bytes. front ≡ take READ_LIMIT bytes)
    → TellsPlan (plan_in front) answer → IfSome held (λ bytes. TellsPlan (plan_in bytes) answer)
tells_whole None front answer is tells = tt
tells_whole (Some bytes) front answer is tells = subst (λ due. TellsPlan due answer) (ap plan_in is ∙ limited bytes READ_LIMIT (omega arith)) tells
