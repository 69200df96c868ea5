-- The names of a run of the viewer as contracts see them, and the fronts of what is held.
use Rattle.std.specs.Prelude.{option_map}
use Rattle.run_frame.specs.inside.TableFiles.{front, fronts, names_seen}
use Rattle.tailview.specs.Texts.{ViewNamesSeen, TextsSeen}
use Rattle.tailview.specs.declared.words.ViewNames.{ViewNames}

-- the names, as bytes
abbrev pub view_names_seen : ViewNames → ViewNamesSeen
view_names_seen names = record {
  tables = names_seen names.tables;
  plan = names.plan.now;
  before = option_map (λ s. s.now) names.before;
  airport = option_map (λ s. s.now) names.airport;
  by_day = names.by_day;
  html = names.html;
}

-- as much of the tables and of the plans' files as is read
abbrev pub text_fronts : TextsSeen → TextsSeen
text_fronts texts = record {
  tables = fronts texts.tables;
  plan = front texts.plan;
  before = option_map front texts.before;
  airport = texts.airport;
  by_day = texts.by_day;
  html = texts.html;
}
