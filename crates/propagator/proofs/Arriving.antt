-- Adding Bars of one aircraft. Each leaves all other aircraft the same and makes nothing alive for its own, and so do
-- several, one after the other. Where the aircraft is alive at an activity and has no floor there, the activity is dead
-- for it, so its Bar follows.
use Rattle.std.specs.Prelude.{Result, Ok, Err, OnOk, OnErr}
use Rattle.std.proofs.Common.{◌≡◌, ◌∙◌, ℕ, List, [], ◌∷◌, ◌++◌, refl, sym, subst}
use Rattle.std.proofs.lemmas.Bool.{and_parts}
use Rattle.tail_book.specs.Seen.{BookSeen}
use Rattle.branch_marks.specs.declared.fact.Fact.{Fact}
use Rattle.branch_marks.specs.declared.fact.Fact.TheVariants.{Bar}
use Rattle.branch_marks.specs.MarkTests.{is_alive, lets_fly}
use Rattle.propagator.specs.inside.SameFor.{SameFor, BarsLeaveOthers}
use Rattle.propagator.specs.inside.Settling.{ActsOn}
use Rattle.propagator.proofs.MoreMarks.{alive_more}

pub same_as_itself : (book : BookSeen) (k : ℕ) (marks : List Fact) → SameFor book k marks marks
same_as_itself book k marks = record { alive = λ a. refl; usable = λ x b. refl; ends = λ x. refl }

pub same_on : (book : BookSeen) (k : ℕ) (a b c : List Fact) → SameFor book k a b → SameFor book k b c → SameFor book k a c
same_on book k a b c f g = record {
  alive = λ x. g.alive x ∙ f.alive x;
  usable = λ x y. g.usable x y ∙ f.usable x y;
  ends = λ x. g.ends x ∙ f.ends x;
}

pub acts_not : (book : BookSeen) (k : ℕ) (marks : List Fact) → ActsOn book k marks marks
acts_not book k marks = record { others = λ j ne. same_as_itself book j marks; fewer = λ a h. h }

pub acts_on : (book : BookSeen) (k : ℕ) (a b c : List Fact) → ActsOn book k a b → ActsOn book k b c → ActsOn book k a c
acts_on book k a b c f g = record {
  others = λ j ne. same_on book j a b c (f.others j ne) (g.others j ne);
  fewer = λ x h. f.fewer x (g.fewer x h);
}

pub bar_acts : BarsLeaveOthers → (book : BookSeen) (marks : List Fact) (k c : ℕ) → ActsOn book k marks (marks ++ Bar k c ∷ [])
bar_acts leave book marks k c = record {
  others = λ j ne. leave book marks k c j ne;
  fewer = λ a h. (and_parts (is_alive book marks k a) (lets_fly k a (Bar k c)) (sym (alive_more book marks (Bar k c) k a) ∙ h)).0;
}

-- what is told of both ends of a call is told where it ends
pub at_either : {T E : Type 0} (P : List Fact → Type 0) (result : Result T E) (old new next : List Fact) → OnOk result (new ≡ next) → OnErr result (new ≡ old)
    → P next → P old → P new
at_either P (Ok v) old new next ok err p q = subst P (sym ok) p
at_either P (Err e) old new next ok err p q = subst P (sym err) q
