-- How the words are read by a program that judges a plan by three tables: at command lines that are written out, and whatever the names are.
use Rattle.std.specs.Prelude.{◌≡◌, ◌==◌, ℕ, false, List, [], ◌∷◌, ◌++◌, Option, None, codes}

-- the program's name, the reading of that word and those behind it, and what it gives for the names of these tables and this plan
module _ {A : Type 0} (program : List ℕ) (read : List (List ℕ) → Option A) (named : List ℕ → List ℕ → List ℕ → List ℕ → Option A) where
  -- the words after the program's name
  abbrev pub after_name : List (List ℕ) → Option A
  after_name words = read (program ∷ words)

  -- the words name the tables `t`, `f` and `r` and the plan `p`
  abbrev pub all_named : Option A
  all_named = named (codes "t") (codes "f") (codes "r") (codes "p")

  pub record ReadsPlans : Type 0 where
    -- no words at all, or the program's name alone, give no names
    pub no_words : (read [] ≡ None) × (after_name [] ≡ None)
    -- the plan's option stands behind the three names, before them or between them
    pub option_anywhere : (after_name (codes "t" ∷ codes "f" ∷ codes "r" ∷ codes "--plan" ∷ codes "p" ∷ []) ≡ all_named)
        × (after_name (codes "--plan" ∷ codes "p" ∷ codes "t" ∷ codes "f" ∷ codes "r" ∷ []) ≡ all_named)
        × (after_name (codes "t" ∷ codes "--plan" ∷ codes "p" ∷ codes "f" ∷ codes "r" ∷ []) ≡ all_named)
        × (after_name (codes "t" ∷ codes "f" ∷ codes "--plan" ∷ codes "p" ∷ codes "r" ∷ []) ≡ all_named)
        × (after_name (codes "t" ∷ codes "f" ∷ codes "r" ∷ codes "--plan=p" ∷ []) ≡ all_named)
        × (after_name (codes "t" ∷ codes "--plan=p" ∷ codes "f" ∷ codes "r" ∷ []) ≡ all_named)
    -- whatever the program is called
    pub any_program : (read (codes "" ∷ codes "t" ∷ codes "f" ∷ codes "r" ∷ codes "--plan" ∷ codes "p" ∷ []) ≡ all_named)
        × (read (codes "--plan=q" ∷ codes "t" ∷ codes "f" ∷ codes "r" ∷ codes "--plan" ∷ codes "p" ∷ []) ≡ all_named)
    -- fewer than three names are too few, and four are too many
    pub other_counts : (after_name (codes "--plan" ∷ codes "p" ∷ []) ≡ None)
        × (after_name (codes "t" ∷ codes "--plan" ∷ codes "p" ∷ []) ≡ None)
        × (after_name (codes "t" ∷ codes "f" ∷ codes "--plan" ∷ codes "p" ∷ []) ≡ None)
        × (after_name (codes "t" ∷ codes "f" ∷ codes "r" ∷ codes "x" ∷ codes "--plan" ∷ codes "p" ∷ []) ≡ None)
        × (after_name (codes "t" ∷ codes "f" ∷ codes "r" ∷ codes "" ∷ codes "--plan" ∷ codes "p" ∷ []) ≡ None)
    -- the option has to be given, once, and with a value
    pub option_once : (after_name (codes "t" ∷ codes "f" ∷ codes "r" ∷ []) ≡ None)
        × (after_name (codes "t" ∷ codes "f" ∷ codes "r" ∷ codes "--plan" ∷ codes "p" ∷ codes "--plan" ∷ codes "q" ∷ []) ≡ None)
        × (after_name (codes "t" ∷ codes "f" ∷ codes "r" ∷ codes "--plan=p" ∷ codes "--plan=p" ∷ []) ≡ None)
        × (after_name (codes "t" ∷ codes "f" ∷ codes "r" ∷ codes "--plan" ∷ []) ≡ None)
        × (after_name (codes "t" ∷ codes "f" ∷ codes "r" ∷ codes "--plan" ∷ codes "--" ∷ []) ≡ None)
        × (after_name (codes "--plan" ∷ codes "t" ∷ codes "f" ∷ codes "r" ∷ []) ≡ None)
    -- its name is written out, behind two dashes
    pub option_written_out : (after_name (codes "t" ∷ codes "f" ∷ codes "r" ∷ codes "--pla" ∷ codes "p" ∷ []) ≡ None)
        × (after_name (codes "t" ∷ codes "f" ∷ codes "r" ∷ codes "-p" ∷ codes "p" ∷ []) ≡ None)
        × (after_name (codes "t" ∷ codes "f" ∷ codes "r" ∷ codes "-plan" ∷ codes "p" ∷ []) ≡ None)
        × (after_name (codes "t" ∷ codes "f" ∷ codes "r" ∷ codes "plan" ∷ codes "p" ∷ []) ≡ None)
    -- an empty word, a dash alone, blanks and the word help are names like others
    pub odd_names : (after_name (codes "" ∷ codes "" ∷ codes "" ∷ codes "--plan" ∷ codes "" ∷ []) ≡ named (codes "") (codes "") (codes "") (codes ""))
        × (after_name (codes "t" ∷ codes "f" ∷ codes "r" ∷ codes "--plan=" ∷ []) ≡ named (codes "t") (codes "f") (codes "r") (codes ""))
        × (after_name (codes "-" ∷ codes "f" ∷ codes "-" ∷ codes "--plan" ∷ codes "-" ∷ []) ≡ named (codes "-") (codes "f") (codes "-") (codes "-"))
        × (after_name (codes "help" ∷ codes "a b" ∷ codes "r=1" ∷ codes "--plan" ∷ codes "p q" ∷ [])
        ≡ named (codes "help") (codes "a b") (codes "r=1") (codes "p q"))
    -- a name that begins with a dash is refused, but behind the option's `=`
    pub dash_in_front : (after_name (codes "-t" ∷ codes "f" ∷ codes "r" ∷ codes "--plan" ∷ codes "p" ∷ []) ≡ None)
        × (after_name (codes "t" ∷ codes "f" ∷ codes "-5" ∷ codes "--plan" ∷ codes "p" ∷ []) ≡ None)
        × (after_name (codes "t" ∷ codes "--f" ∷ codes "r" ∷ codes "--plan" ∷ codes "p" ∷ []) ≡ None)
        × (after_name (codes "t" ∷ codes "f" ∷ codes "r" ∷ codes "--plan" ∷ codes "-x" ∷ []) ≡ None)
        × (after_name (codes "t" ∷ codes "f" ∷ codes "r" ∷ codes "--plan=-x" ∷ []) ≡ named (codes "t") (codes "f") (codes "r") (codes "-x"))
        × (after_name (codes "t" ∷ codes "f" ∷ codes "r" ∷ codes "--plan==p" ∷ []) ≡ named (codes "t") (codes "f") (codes "r") (codes "=p"))
    -- behind two dashes each word is the name of a table
    pub behind_two_dashes : (after_name (codes "--plan" ∷ codes "p" ∷ codes "--" ∷ codes "-t" ∷ codes "--plan" ∷ codes "-" ∷ [])
        ≡ named (codes "-t") (codes "--plan") (codes "-") (codes "p"))
        × (after_name (codes "t" ∷ codes "--plan" ∷ codes "p" ∷ codes "--" ∷ codes "--" ∷ codes "--help" ∷ [])
        ≡ named (codes "t") (codes "--") (codes "--help") (codes "p"))
        × (after_name (codes "t" ∷ codes "f" ∷ codes "r" ∷ codes "--plan" ∷ codes "p" ∷ codes "--" ∷ []) ≡ all_named)
        × (after_name (codes "--" ∷ codes "t" ∷ codes "f" ∷ codes "r" ∷ codes "--plan" ∷ codes "p" ∷ []) ≡ None)
        × (after_name (codes "--plan" ∷ codes "p" ∷ codes "--" ∷ codes "t" ∷ codes "f" ∷ []) ≡ None)
    -- there is no flag for help or for the version, alone or beside the names
    pub no_help : (after_name (codes "--help" ∷ []) ≡ None)
        × (after_name (codes "-h" ∷ []) ≡ None)
        × (after_name (codes "--version" ∷ []) ≡ None)
        × (after_name (codes "t" ∷ codes "f" ∷ codes "r" ∷ codes "--plan" ∷ codes "p" ∷ codes "--help" ∷ []) ≡ None)
        × (after_name (codes "t" ∷ codes "f" ∷ codes "r" ∷ codes "--plan" ∷ codes "p" ∷ codes "-V" ∷ []) ≡ None)

-- the reading of all words, and what it gives for the names of these tables and this plan
module _ {A : Type 0} (read : List (List ℕ) → Option A) (named : List ℕ → List ℕ → List ℕ → List ℕ → Option A) where
  pub record ReadsAnyNames : Type 0 where
    -- the program's name does not matter
    pub any_program : (one other : List ℕ) (words : List (List ℕ)) → read (one ∷ words) ≡ read (other ∷ words)
    -- any four words can be given as the names
    pub any_names : (program timetable fleet rules plan : List ℕ)
        → read (program ∷ (codes "--plan=" ++ plan) ∷ codes "--" ∷ timetable ∷ fleet ∷ rules ∷ []) ≡ named timetable fleet rules plan
    -- more than three tables are too many
    pub no_fourth : (program plan one two three four : List ℕ) (rest : List (List ℕ))
        → read (program ∷ (codes "--plan=" ++ plan) ∷ codes "--" ∷ one ∷ two ∷ three ∷ four ∷ rest) ≡ None
    -- names of tables that begin with another sign than a dash are taken as they stand
    pub plain_names : (program timetable fleet rules plan : List ℕ) (t f r : ℕ) → (t == 45) ≡ false → (f == 45) ≡ false → (r == 45) ≡ false
        → read (program ∷ (codes "--plan=" ++ plan) ∷ (t ∷ timetable) ∷ (f ∷ fleet) ∷ (r ∷ rules) ∷ []) ≡ named (t ∷ timetable) (f ∷ fleet) (r ∷ rules) plan
    -- without an option no names are taken
    pub option_wanted : (program timetable fleet rules : List ℕ) → read (program ∷ codes "--" ∷ timetable ∷ fleet ∷ rules ∷ []) ≡ None
