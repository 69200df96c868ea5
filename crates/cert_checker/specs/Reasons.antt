-- The reasons for which a certificate fails: the number and the name of each, and a test for each that looks at the book. The
-- others follow from what stands before a line alone. For src/claim.rt, src/verdict.rt and others.
use Rattle.std.specs.Prelude.{ℕ, ℤ, List, [], codes, find, Bool, true, false, ◌&&◌, nat_le, ◌==◌, Option, Some, None}
use Rattle.std.specs.Option.{option_map_or}
use Rattle.tail_book.specs.Cost.{plan_cost}
use Rattle.tail_book.specs.Lookup.{aircraft}
use Rattle.tail_book.specs.Seen.{BookSeen}
use Rattle.tail_book.specs.CostTable.{costs_of}
use Rattle.tail_book.specs.Fliers.{plan_by}
use Rattle.tail_book.specs.LegalTests.{is_legal_plan}
use Rattle.branch_marks.specs.declared.fact.Fact.{Fact}
use Rattle.branch_marks.specs.Labels.{Label}
use Rattle.branch_marks.specs.TreeTests.{is_shown_cover, is_shown_stuck}
use Rattle.cert_checker.specs.declared.verdict.Reason.{Reason}
use Rattle.cert_checker.specs.declared.verdict.Reason.TheVariants.{BadLine, OutOfPlace, KnownFact, NotFollowing, NotAlive, OpenCover, OutOfBox, BadPlan, WeakBound, Unfinished}
use Rattle.cert_checker.specs.declared.verdict.TheConstants.{REASONS}
use Rattle.cert_checker.specs.State.{OpenLeaf}

-- the number of a reason
abbrev pub number_of_reason : Reason → ℕ
number_of_reason BadLine = 1
number_of_reason OutOfPlace = 2
number_of_reason KnownFact = 3
number_of_reason NotFollowing = 4
number_of_reason NotAlive = 5
number_of_reason OpenCover = 6
number_of_reason OutOfBox = 7
number_of_reason BadPlan = 8
number_of_reason WeakBound = 9
number_of_reason Unfinished = 10

-- its name
abbrev pub name_of_reason : Reason → List ℕ
name_of_reason BadLine = codes "BadLine"
name_of_reason OutOfPlace = codes "OutOfPlace"
name_of_reason KnownFact = codes "KnownFact"
name_of_reason NotFollowing = codes "NotFollowing"
name_of_reason NotAlive = codes "NotAlive"
name_of_reason OpenCover = codes "OpenCover"
name_of_reason OutOfBox = codes "OutOfBox"
name_of_reason BadPlan = codes "BadPlan"
name_of_reason WeakBound = codes "WeakBound"
name_of_reason Unfinished = codes "Unfinished"

-- the name of the reason that has this number
abbrev pub reason_name : ℕ → List ℕ
reason_name number = option_map_or name_of_reason (find (λ reason. number_of_reason reason == number) REASONS) []

-- the labels of an open leaf show what its line claims: a value that no route of the aircraft undercuts, or that it has no route
abbrev pub shows : BookSeen → List Fact → ℕ → List ℤ → Option ℤ → List Label → Bool
shows book marks k duals None family = is_shown_stuck (costs_of book) book marks k family
shows book marks k duals (Some value) family = is_shown_cover (costs_of book) book marks k duals (record { value = value; family = family })

abbrev pub is_shown_leaf : BookSeen → OpenLeaf → Bool
is_shown_leaf book leaf = shows book leaf.marks leaf.k leaf.duals leaf.value leaf.family

-- who flies each activity makes a legal plan of this cost
abbrev pub is_plan_of_fliers : BookSeen → List ℕ → ℕ → Bool
is_plan_of_fliers book fliers cost =
    is_legal_plan book (plan_by fliers (aircraft book)) && plan_cost book (plan_by fliers (aircraft book)) == cost

-- there is a plan exactly where the claim has one, and it is legal and costs what is claimed
abbrev pub has_claimed_plan : BookSeen → Option (List ℕ) → Option ℕ → Bool
has_claimed_plan book None None = true
has_claimed_plan book (Some fliers) None = false
has_claimed_plan book None (Some cost) = false
has_claimed_plan book (Some fliers) (Some cost) = is_plan_of_fliers book fliers cost

-- each bound so far is at least what is asked
abbrev pub reaches : ℕ → Option ℕ → Bool
reaches asked None = true
reaches asked (Some low) = nat_le asked low
