-- The book of the three tables, or the first refusal: each table by itself, and then the names of all three. Activities
-- are put in order last, so that a refusal has its place in the table as it was written.
use Rattle.std.specs.Prelude.{ℕ, List, map, Some, Result, Ok}
use Rattle.tail_book.specs.Seen.{ActivitySeen, BookSeen, TailSeen}
use Rattle.tail_text.specs.Checks.{look}
use Rattle.tail_text.specs.declared.refusal.Refusal.{Refusal}
use Rattle.tail_text.specs.declared.refusal.Table.TheVariants.{Fleet, Timetable}
use Rattle.timetable_reader.specs.Activity.{RawActivitySeen}
use Rattle.timetable_reader.specs.Timetable.{timetable_of}
use Rattle.fleet_rules.specs.Fleet.{fleet_of}
use Rattle.fleet_rules.specs.RawRules.{RawRulesSeen}
use Rattle.fleet_rules.specs.RulesTable.{rules_of}
use Rattle.fleet_rules.specs.Tail.{RawTailSeen}
use Rattle.book_maker.specs.LookedUp.{looked_up_in}
use Rattle.book_maker.specs.RulesFound.{airport_names, counter_names, kind_names, rules_in}
use Rattle.book_maker.specs.TailFound.{tail_in}
use Rattle.book_maker.specs.ActivityFound.{activity_in}
use Rattle.book_maker.specs.Order.{in_order}
use Rattle.book_maker.specs.Tags.{tags_of}

-- the aircraft with numbers; the header is record 1 of its table, so the first aircraft stands in record 2
abbrev pub tails_in : RawRulesSeen → List (List ℕ) → List RawTailSeen → Result (List TailSeen) Refusal
tails_in rules tags tails =
    looked_up_in Fleet 2 (λ t. Some t.name) (tail_in (kind_names rules) (airport_names rules) (counter_names rules) tags) tails

-- the activities with numbers, in the order of their table
abbrev pub activities_in : RawRulesSeen → List RawTailSeen → List (List ℕ) → List RawActivitySeen → Result (List ActivitySeen) Refusal
activities_in rules tails tags activities =
    looked_up_in Timetable 2 (λ a. Some a.id)
    (activity_in (kind_names rules) (airport_names rules) (counter_names rules) (map (λ t. t.name) tails) tags) activities

-- the book of the records, or their first refusal: that of the rules, of the fleet, and then of the timetable
abbrev pub made_of : List RawActivitySeen → List RawTailSeen → RawRulesSeen → Result BookSeen Refusal
made_of activities tails rules =
    let tags = tags_of tails activities in
    look (rules_in rules) (λ numbered_rules.
    look (tails_in rules tags tails) (λ numbered_tails.
    look (activities_in rules tails tags activities) (λ numbered_activities.
    Ok (record {
      activities = in_order numbered_activities;
      tails = numbered_tails;
      rules = numbered_rules;
    }))))

-- what follows from the records of the three tables, or the first refusal: of the timetable, of the fleet and of the rules,
-- each by itself
abbrev pub look_at_tables : List ℕ → List ℕ → List ℕ
    → (List RawActivitySeen → List RawTailSeen → RawRulesSeen → Result BookSeen Refusal) → Result BookSeen Refusal
look_at_tables timetable fleet rules follows =
    look (timetable_of timetable) (λ activities.
    look (fleet_of fleet) (λ tails.
    look (rules_of rules) (λ raw_rules.
    follows activities tails raw_rules)))

-- the book of the three tables, or the first refusal: of each by itself, and then of the names in all three
unfoldable pub book_of : List ℕ → List ℕ → List ℕ → Result BookSeen Refusal
book_of timetable fleet rules = look_at_tables timetable fleet rules made_of
