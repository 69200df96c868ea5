-- How the loops over names go on. A name stands behind those that were met, and adds one number to the aircraft or to
-- the activities, or none where it is dropped; so the marks still say what was met, with one mark more or as they were.
-- Before the end a turn takes the first of the names that are left, and behind the last one nothing more is met.
use Rattle.std.proofs.Common.{◌≡◌, ◌∙◌, refl, ap, ℕ, ◌+◌, ◌<◌, ◌≤◌, Bool, true, List, [], ◌∷◌, ◌++◌, length, set, get_or, drop}
use Rattle.std.proofs.lemmas.List.{drop_all, drop_more, append-nil}
use Rattle.tail_book.specs.Seen.{BookSeen, RawLineSeen}
use Rattle.plan_audit.specs.declared.met.Met.{Met}
use Rattle.plan_audit.specs.declared.met.Met.TheVariants.{Unknown, Twice, Tail, Activity}
use Rattle.plan_audit.specs.inside.Met.{IsDropped}
use Rattle.plan_audit.specs.Met.{tails_met, activities_met, with_ids, with_line, with_lines, as_activity, activity_named}
use Rattle.plan_audit.specs.inside.Marks.{AreMarks}
use Rattle.plan_audit.proofs.MarkLemmas.{marks-more}

pub tails_met-append : (met more : List Met) → tails_met (met ++ more) ≡ tails_met met ++ tails_met more
tails_met-append [] more = refl
tails_met-append (Unknown name ∷ met) more = tails_met-append met more
tails_met-append (Twice name ∷ met) more = tails_met-append met more
tails_met-append (Tail k ∷ met) more = ap (λ ks. k ∷ ks) (tails_met-append met more)
tails_met-append (Activity a ∷ met) more = tails_met-append met more

pub activities_met-append : (met more : List Met) → activities_met (met ++ more) ≡ activities_met met ++ activities_met more
activities_met-append [] more = refl
activities_met-append (Unknown name ∷ met) more = activities_met-append met more
activities_met-append (Twice name ∷ met) more = activities_met-append met more
activities_met-append (Tail k ∷ met) more = activities_met-append met more
activities_met-append (Activity a ∷ met) more = ap (λ ks. a ∷ ks) (activities_met-append met more)

-- a name that is no aircraft, or no activity, leaves the marks as they are
pub tails-same : (marks : List Bool) (met now : List Met) (m : Met) → now ≡ met ++ m ∷ [] → tails_met (m ∷ []) ≡ [] → AreMarks marks (tails_met met) → AreMarks marks (tails_met now)
tails-same marks met now m e none are =
    let same : tails_met now ≡ tails_met met = ap tails_met e ∙ tails_met-append met (m ∷ []) ∙ ap (λ ks. tails_met met ++ ks) none ∙ append-nil (tails_met met) in
    rw same are

pub activities-same : (marks : List Bool) (met now : List Met) (m : Met) → now ≡ met ++ m ∷ [] → activities_met (m ∷ []) ≡ [] → AreMarks marks (activities_met met) → AreMarks marks (activities_met now)
activities-same marks met now m e none are =
    let same : activities_met now ≡ activities_met met = ap activities_met e ∙ activities_met-append met (m ∷ []) ∙ ap (λ ks. activities_met met ++ ks) none ∙ append-nil (activities_met met) in
    rw same are

-- one that is an aircraft, or an activity, has its mark set
pub tails-more : (marks marked : List Bool) (met now : List Met) (k : ℕ) → now ≡ met ++ Tail k ∷ [] → marked ≡ set marks k true → k < length marks
    → AreMarks marks (tails_met met) → AreMarks marked (tails_met now)
tails-more marks marked met now k e f within are =
    let more : tails_met now ≡ tails_met met ++ k ∷ [] = ap tails_met e ∙ tails_met-append met (Tail k ∷ []) in
    rw (more, f) (marks-more marks (tails_met met) k within are)

pub activities-more : (marks marked : List Bool) (met now : List Met) (a : ℕ) → now ≡ met ++ Activity a ∷ [] → marked ≡ set marks a true → a < length marks
    → AreMarks marks (activities_met met) → AreMarks marked (activities_met now)
activities-more marks marked met now a e f within are =
    let more : activities_met now ≡ activities_met met ++ a ∷ [] = ap activities_met e ∙ activities_met-append met (Activity a ∷ []) in
    rw (more, f) (marks-more marks (activities_met met) a within are)

-- behind the last id, and behind the last line, the names are met
pub ids-end : (book : BookSeen) (met : List Met) (ids : List (List ℕ)) (i : ℕ) → length ids ≤ i → with_ids book met (drop i ids) ≡ met
unfolding with_ids
ids-end book met ids i h = rw (drop_all i ids h) refl

pub ids-next : (book : BookSeen) (met now : List Met) (ids : List (List ℕ)) (i : ℕ) (id : List ℕ) → i < length ids → id ≡ get_or ids i id
    → now ≡ met ++ as_activity met id (activity_named book id) ∷ [] → with_ids book met (drop i ids) ≡ with_ids book now (drop (i + 1) ids)
unfolding with_ids
ids-next book met now ids i id within here e = rw (drop_more ids i id within, ← here, e) refl

pub lines-end : (book : BookSeen) (met : List Met) (lines : List RawLineSeen) (i : ℕ) → length lines ≤ i → with_lines book met (drop i lines) ≡ met
unfolding with_lines
lines-end book met lines i h = rw (drop_all i lines h) refl

pub lines-next : (book : BookSeen) (met now : List Met) (lines : List RawLineSeen) (i : ℕ) (line : RawLineSeen) → i < length lines → line ≡ get_or lines i line
    → now ≡ with_line book met line → with_lines book met (drop i lines) ≡ with_lines book now (drop (i + 1) lines)
unfolding with_lines
lines-next book met now lines i line within here e = rw (drop_more lines i line within, ← here, e) refl

pub no_tail : (m : Met) → IsDropped m → tails_met (m ∷ []) ≡ []
no_tail (Unknown name) h = refl
no_tail (Twice name) h = refl
no_tail (Tail k) h = absurd h
no_tail (Activity a) h = absurd h

pub no_activity : (m : Met) → IsDropped m → activities_met (m ∷ []) ≡ []
no_activity (Unknown name) h = refl
no_activity (Twice name) h = refl
no_activity (Tail k) h = absurd h
no_activity (Activity a) h = absurd h
