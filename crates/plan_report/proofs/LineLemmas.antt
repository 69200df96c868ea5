-- The later lines of a plan file, one by one: those that were read stand before what is left, and each turn takes one
-- line. What the lines give is always what was read, joined to what the lines that are left give. So the first line
-- that is refused, or is one too many, decides for the whole, and its place is the number of lines read plus 2.
use Rattle.std.proofs.Common.{◌≡◌, ◌∙◌, ◌<◌, ◌≤◌, ℕ, ◌+◌, ◌-◌, true, length-append, List, [], ◌∷◌, ◌++◌, Result, Ok, Err, length, refl, arith, nat_lt}
use Rattle.std.proofs.lemmas.Bool.Decides.{nat_tests}
use Rattle.std.proofs.lemmas.List.{append-nil}
use Rattle.tail_book.specs.Seen.{RawLineSeen}
use Rattle.tail_text.specs.declared.codes.TheConstants.{TOO_MANY}
use Rattle.tail_text.specs.inside.Joined.{joined, joined-more}
use Rattle.tail_text.specs.inside.Reading.{Answers}
use Rattle.tail_text.specs.declared.refusal.Refusal.{Refusal}
use Rattle.tail_text.specs.declared.refusal.Stopped.{Stopped}
use Rattle.tail_text.specs.declared.refusal.Stopped.TheVariants.{Refused, Memory}
use Rattle.plan_report.specs.TextLines.{LineSeen}
use Rattle.plan_report.specs.PlanText.{line_in, lines_from, refused}

has_room : (n : ℕ) → 0 < n → nat_lt 0 n ≡ true
has_room n h = grind (arith, nat_tests)

-- the turns of the loop, over what all the lines give
module _ (limit : ℕ) (all : Result (List RawLineSeen) Refusal) (lines : List RawLineSeen) (left : List LineSeen)
    (known : all ≡ joined lines (lines_from (length lines + 2) (limit - length lines) left)) where
  pub turn-end : left ≡ [] → all ≡ Ok lines
  unfolding lines_from
  turn-end e = known ∙ rw (e, append-nil) refl

  module _ (line : LineSeen) (more : List LineSeen) (next : left ≡ line ∷ more) (place : ℕ) (here : place ≡ length lines + 2) where
    pub turn-full : limit ≤ length lines → all ≡ Err (refused TOO_MANY place)
    unfolding lines_from
    turn-full full =
        let none : limit - length lines ≡ 0 = omega arith in
        known ∙ rw (next, here, none) refl

    pub turn-bad : length lines < limit → (refusal : Refusal) → line_in place line ≡ Err refusal → all ≡ Err refusal
    unfolding lines_from
    turn-bad room refusal bad =
        let some : nat_lt 0 (limit - length lines) ≡ true = has_room _ (omega arith) in
        let judged : line_in (length lines + 2) line ≡ Err refusal = rw here at bad in
        known ∙ rw (next, some, judged) refl

    pub turn-good : length lines < limit → (given : RawLineSeen) → line_in place line ≡ Ok given
        → all ≡ joined (lines ++ given ∷ []) (lines_from (length (lines ++ given ∷ []) + 2) (limit - length (lines ++ given ∷ [])) more)
    unfolding lines_from
    turn-good room given good =
        let some : nat_lt 0 (limit - length lines) ≡ true = has_room _ (omega arith) in
        let judged : line_in (length lines + 2) line ≡ Ok given = rw here at good in
        let longer : length (lines ++ given ∷ []) ≡ length lines + 1 = omega (arith, length-append lines (given ∷ [])) in
        let next_place : length lines + 1 + 2 ≡ length lines + 2 + 1 = omega arith in
        let room_left : limit - (length lines + 1) ≡ limit - length lines - 1 = omega arith in
        known ∙ rw (next, some, judged, longer, next_place, room_left) (joined-more lines given (lines_from (length lines + 2 + 1) (limit - length lines - 1) more))

-- what stops one line stops them all
pub stopped-through : {S T U V : Type 0} (seen : T → S) (shown : V → U) (due : Result S Refusal) (all : Result U Refusal) (why : Stopped)
    → ((refusal : Refusal) → due ≡ Err refusal → all ≡ Err refusal) → Answers seen due (Err why) → Answers shown all (Err why)
stopped-through seen shown due all (Refused refusal) through e = through refusal e
stopped-through seen shown due all Memory through e = tt
