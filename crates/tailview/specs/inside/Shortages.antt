-- The names of a run that draws a shortage as contracts see them, and the fronts of what is held. For src/shortage_words.rt and
-- src/shortage_texts.rt.
use Rattle.std.specs.Prelude.{option_map}
use Rattle.run_frame.specs.inside.TableFiles.{front, fronts, names_seen}
use Rattle.tailview.specs.ShortageTexts.{ShortageNamesSeen, ShortageTextsSeen}
use Rattle.tailview.specs.declared.shortage_words.ShortageNames.{ShortageNames}

-- the names, as bytes
abbrev pub shortage_names_seen : ShortageNames → ShortageNamesSeen
shortage_names_seen names = record {
  tables = names_seen names.tables;
  told = names.told.now;
  airport = option_map (λ s. s.now) names.airport;
  html = names.html;
}

-- as much of the tables and of the shortage's file as is read
abbrev pub shortage_fronts : ShortageTextsSeen → ShortageTextsSeen
shortage_fronts texts = record { tables = fronts texts.tables; told = front texts.told; airport = texts.airport; html = texts.html }
