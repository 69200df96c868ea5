-- From the answer of a run that draws a shortage, true and printed, to what the run promises. The fronts that were read say what the
-- whole files say. Files are one case and no refusal, and what is shown has the status 0.
use Rattle.std.proofs.Common.{◌≡◌, ◌∙◌, ℕ, arith, List, Ok, Err, None, Option, Some, IfSome, ap, option_map, refl, subst, sym}
use Rattle.std.specs.Prelude.{Result, option_and_then}
use Rattle.tail_book.specs.Seen.{BookSeen}
use Rattle.tail_outside.specs.Outside.{PieceHasFailed, Takes}
use Rattle.tail_outside.specs.Shown.{FilesShown, SinkShown}
use Rattle.tail_text.specs.Checks.{look}
use Rattle.tail_text.specs.declared.refusal.Refusal.{Refusal}
use Rattle.book_maker.specs.Made.{book_of}
use Rattle.plan_report.specs.Lines.{text_of}
use Rattle.run_frame.proofs.Ending as ending
use Rattle.run_frame.proofs.Fronts.{book_of-fronts, front-limited}
use Rattle.run_frame.proofs.Held.{OfHeld-map}
use Rattle.run_frame.specs.inside.Answer.{IsAnswerTo, IsPrintable, IsPrinted, status_of}
use Rattle.run_frame.specs.Answer.{IsUnlessStopped}
use Rattle.run_frame.specs.TableFiles.{tables_held}
use Rattle.run_frame.specs.Tables.{TablesSeen}
use Rattle.run_frame.specs.inside.TableFiles.{front, fronts}
use Rattle.run_frame.specs.declared.answer.Answer.TheVariants.{ReadFailed}
use Rattle.shortage_picture.specs.Picture.{picture}
use Rattle.shortage_picture.specs.declared.picture.View.{View}
use Rattle.shortage_reader.specs.ShortageText.{refused as refused_told, shortage_in}
use Rattle.shortage_reader.specs.Told.{ToldSeen}
use Rattle.shortage_reader.specs.inside.OfBook.{IsToldOf}
use Rattle.tailview.specs.ShortageAnswers.{AreNotShown, AreShown, IsTrueShortageAnswer, OfShortage, ShortageAnswer, ShortageCase, shortage_answer_text, shortage_case_of, shown_lines, shown_view}
use Rattle.tailview.specs.ShortagePromises.{DrawsShortage, RefusesShortage, ShortagePromise}
use Rattle.tailview.specs.ShortageTexts.{ShortageNamesSeen, ShortageTextsSeen, shortage_held}
use Rattle.tailview.specs.ShortageWords.{shortage_of}
use Rattle.tailview.specs.Usage.{shortage_usage_line}
use Rattle.tailview.specs.declared.shown.Shown.{Shown}
use Rattle.tailview.specs.inside.Shortages.{shortage_fronts}

-- all that was read
pub shortage-read : (files : FilesShown) (names : ShortageNamesSeen) (tables : TablesSeen) (told : List ℕ)
    → IfSome (tables_held files names.tables) (λ whole. tables ≡ fronts whole) → IfSome (files.holds names.told) (λ bytes. told ≡ front bytes)
    → IfSome (shortage_held files names) (λ whole. record { tables = tables; told = told; airport = names.airport; html = names.html } ≡ shortage_fronts whole)
shortage-read files names tables told h k = each (tables_held files names.tables) (files.holds names.told) h k
  where
    text : TablesSeen → List ℕ → ShortageTextsSeen
    text t b = record { tables = t; told = b; airport = names.airport; html = names.html }

    alike : {t x : TablesSeen} {b z : List ℕ} → t ≡ x → b ≡ z → text t b ≡ text x z
    alike same_t same_b = rw (same_t, same_b) refl

    each : (t : Option TablesSeen) (b : Option (List ℕ)) → IfSome t (λ whole. tables ≡ fronts whole) → IfSome b (λ bytes. told ≡ front bytes)
        → IfSome (option_and_then (λ tables. option_map (λ told. text tables told) b) t) (λ whole. text tables told ≡ shortage_fronts whole)
    each None b h k = tt
    each (Some t) None h k = tt
    each (Some t) (Some b) h k = alike h k

shortage_in-front : (book : BookSeen) (bytes : List ℕ) → shortage_in book (front bytes) ≡ shortage_in book bytes
shortage_in-front book bytes = front-limited (shortage_in book) (refused_told 1 0) (λ b big. rw big refl) bytes

-- a book and a file are a case, or the first refusal of the two
abbrev case_by : Result BookSeen Refusal → List ℕ → Result ShortageCase Refusal
case_by b bytes = look b (λ book. look (shortage_in book bytes) (λ told. Ok (record { book = book; told = told })))

case_by-front : (b : Result BookSeen Refusal) (bytes : List ℕ) → case_by b (front bytes) ≡ case_by b bytes
case_by-front (Ok book) bytes = ap (λ (s : Result ToldSeen Refusal). look s (λ told. Ok (record { book = book; told = told }))) (shortage_in-front book bytes)
case_by-front (Err why) bytes = refl

-- what is drawn of the fronts is what is drawn of the whole files
case_of-fronts : (texts : ShortageTextsSeen) → shortage_case_of (shortage_fronts texts) ≡ shortage_case_of texts
case_of-fronts texts =
    ap (λ (b : Result BookSeen Refusal). case_by b (front texts.told)) (book_of-fronts texts.tables)
    ∙ case_by-front (book_of texts.tables.timetable texts.tables.fleet texts.tables.rules) texts.told

-- an answer to the files that were read is a true answer to the words
pub true_answer : (words : List (List ℕ)) (files : FilesShown) (names : ShortageNamesSeen) (read : ShortageTextsSeen) (answer : ShortageAnswer) → shortage_of words ≡ Some names
    → IfSome (shortage_held files names) (λ texts. read ≡ shortage_fronts texts) → IsAnswerTo AreNotShown AreShown read answer → IsTrueShortageAnswer words files answer
true_answer words files = ending.true_answer (shortage_of words) (shortage_held files) AreNotShown AreShown shortage_fronts
    (λ texts refusal h. sym (case_of-fronts texts) ∙ h) (λ texts shown h. (sym (case_of-fronts texts) ∙ h.0, h.1))

-- a book and a shortage that is read are a case
pub case_of-both : (texts : ShortageTextsSeen) (book : BookSeen) (told : ToldSeen) → book_of texts.tables.timetable texts.tables.fleet texts.tables.rules ≡ Ok book
    → shortage_in book texts.told ≡ Ok told → shortage_case_of texts ≡ Ok (record { book = book; told = told })
case_of-both texts book told is_book is_told = rw (is_book, is_told) refl

-- and a refusal of the file is theirs
pub case_of-refused : (texts : ShortageTextsSeen) (book : BookSeen) (refusal : Refusal) → book_of texts.tables.timetable texts.tables.fleet texts.tables.rules ≡ Ok book
    → shortage_in book texts.told ≡ Err refusal → shortage_case_of texts ≡ Err refusal
case_of-refused texts book refusal is_book refused = rw (is_book, refused) refl

-- a case is no refusal
apart : (texts : ShortageTextsSeen) (case : ShortageCase) (refusal : Refusal) → shortage_case_of texts ≡ Ok case → AreNotShown texts refusal → ⊥
apart texts case refusal is refused = let both = sym is ∙ refused in cc

-- what was shown can be drawn
abbrev IsDrawn : Shown → Type 0
IsDrawn shown = IsToldOf shown.book shown.told

module _ (words : List (List ℕ)) (files : FilesShown) (before after : SinkShown) where
  -- what was drawn is the picture of what the files say
  found_promises : (shown : Shown) → OfShortage words files (λ texts. AreShown texts shown) → Takes before after (text_of (shown_lines shown))
      → ShortagePromise words files before after 0
  found_promises shown k took = OfHeld-map (shortage_of words) (shortage_held files) _ _ (λ texts own. record {
    case = record { book = shown.book; told = shown.told };
    is = own.0;
    printed = subst (λ (view : View). Takes before after (picture view shown.book shown.told)) own.1 took;
  }) k

  module _ (status : ℕ) (answer : ShortageAnswer) (truth : IsTrueShortageAnswer words files answer)
      (printed : IsPrinted (shortage_answer_text answer) (status_of (λ shown. 0) answer) before after status) where
    pub promise : IsPrintable IsDrawn answer → ShortagePromise words files before after status
    promise fit = ending.promise (shortage_of words) (shortage_held files) AreNotShown AreShown shortage_usage_line shown_lines (λ shown. 0)
        before after status answer truth printed (ShortagePromise words files before after) IsDrawn fit
        (λ h. h) (λ h. h) (λ h. h) (λ h. h) (λ h. h) (λ shown fits k took. found_promises shown k took)

    pub piece_failed : status ≡ 6 → PieceHasFailed before after
    piece_failed = ending.piece_failed (shortage_of words) (shortage_held files) AreNotShown AreShown shortage_usage_line shown_lines (λ shown. 0)
        before after status answer truth printed (λ shown e. absurd (omega (arith, e)))

    pub read_failed : (Cause : Type 0) → (answer ≡ ReadFailed → Cause) → status ≡ 5 → Cause
    read_failed Cause cause = ending.read_failed (shortage_of words) (shortage_held files) AreNotShown AreShown shortage_usage_line shown_lines (λ shown. 0)
        before after status answer truth printed Cause cause (λ shown e. absurd (omega (arith, e)))

    pub words_refused : shortage_of words ≡ None → IsUnlessStopped 2 status
    words_refused = ending.words_refused (shortage_of words) (shortage_held files) AreNotShown AreShown shortage_usage_line shown_lines (λ shown. 0)
        before after status answer truth printed

    pub texts_refused : RefusesShortage words files status
    texts_refused = ending.refused (shortage_of words) (shortage_held files) AreNotShown AreShown shortage_usage_line shown_lines (λ shown. 0)
        before after status answer truth printed (λ texts refusal shown is own. apart texts (record { book = shown.book; told = shown.told }) refusal own.0 is)

    pub drawn : IsPrintable IsDrawn answer → DrawsShortage words files status
    drawn fit = ending.judged (shortage_of words) (shortage_held files) AreNotShown AreShown shortage_usage_line shown_lines (λ shown. 0)
        before after status answer truth printed (λ texts case. shortage_case_of texts ≡ Ok case) (λ case code. code ≡ 0) IsDrawn fit apart
        (λ texts case shown is own fits s. s)
