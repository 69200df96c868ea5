-- The names of four files as contracts see them, and the fronts of what is held. For src/four_texts.rt, src/repair_words.rt and
-- src/quota_words.rt.
use Rattle.run_frame.specs.inside.TableFiles.{front, fronts, names_seen}
use Rattle.tailplan.specs.FourTexts.{FourNamesSeen, FourTextsSeen}
use Rattle.tailplan.specs.declared.four_texts.FourNames.{FourNames}

-- the names, as bytes
abbrev pub four_names_seen : FourNames → FourNamesSeen
four_names_seen names = record { tables = names_seen names.tables; fourth = names.fourth.now }

-- as much of the tables and of the fourth file as is read
abbrev pub text_fronts : FourTextsSeen → FourTextsSeen
text_fronts texts = record { tables = fronts texts.tables; fourth = front texts.fourth }
