-- A run over lines against the definitions of a file and a start.
use Rattle.std.proofs.Common.{◌≡◌, ℕ, ◌+◌, ◌≤◌, List, [], ◌∷◌, ◌++◌, length, filter, take, drop, Option, Some, None, refl, sym, ◌∙◌, ap, subst, arith, inl, inr, length-append, true, if◌then◌else◌}
use Rattle.std.specs.Prelude.{option_and_then}
use Rattle.std.specs.List.{list_all}
use Rattle.std.proofs.lemmas.List.Folds.{list_all-append}
use Rattle.iso_text.specs.Draft.{next_of, begin, finished, Refuses}
use Rattle.iso_text.specs.DraftLines.{draft}
use Rattle.iso_text.specs.File.{IsFile, IsStart, IsBadAfter, HasCause}
use Rattle.iso_text.specs.FileLines.{file_lines}
use Rattle.iso_text.specs.FileValue.{File}
use Rattle.iso_text.specs.LineKinds.{kind_of, or_bad, said_by}
use Rattle.iso_text.specs.LineSpellings.{SayLines}
use Rattle.iso_text.specs.Lines.{lines_of, is_skipped, is_text, unindented}
use Rattle.iso_text.specs.declared.draft.Draft.{Draft}
use Rattle.iso_text.specs.declared.draft.Stage.{Stage}
use Rattle.iso_text.specs.declared.draft.Stage.TheVariants as stage
use Rattle.iso_text.specs.declared.line_kinds.Line.{Line}
use Rattle.iso_text.specs.declared.line_kinds.Line.TheVariants.{Skip, Bad}
use Rattle.iso_text.specs.declared.read_error.ReadError.{ReadError}
use Rattle.iso_text.specs.declared.read_error.ReadError.TheVariants.{BadText, NoMemory}
use Rattle.iso_text.proofs.BodyLemmas.{both}
use Rattle.iso_text.proofs.Completions.{completes}
use Rattle.iso_text.proofs.DraftLines.{is_said}
use Rattle.iso_text.proofs.DraftRuns.{runs, runs_append, then_runs, runs_keep, runs_kept, runs_good}
use Rattle.iso_text.proofs.FileRuns.{file_runs}
use Rattle.iso_text.proofs.KindsOfLines.{kinds, is_kept, say-sound, say-complete}
use Rattle.iso_text.proofs.LineFacts.{lines_said, split_take, kinds_more, length_take, take_length, all_taken}
use Rattle.iso_text.proofs.Steps.{some_is}

-- what runs says what the reader keeps
run_says : (lines : List (List ℕ)) (d : Draft) → runs begin (kinds 1 lines) ≡ Some d → SayLines 1 lines (filter is_kept (kinds 1 lines))
run_says lines d run = say-sound 1 lines (runs_good (kinds 1 lines) begin d run)

kept_run : (lines : List (List ℕ)) (o : Option Draft) → runs begin (kinds 1 lines) ≡ o → runs begin (filter is_kept (kinds 1 lines)) ≡ o
kept_run lines o run = sym (runs_kept begin (kinds 1 lines)) ∙ run

-- a run to the end is over a file
pub run_is_file : (lines : List (List ℕ)) (f : File) → runs begin (kinds 1 lines) ≡ Some (draft stage.Done f) → IsFile lines f
run_is_file lines f run =
    let says = run_says lines (draft stage.Done f) run in
    let kept = runs_keep (filter is_kept (kinds 1 lines)) begin (draft stage.Done f) (lines_said 1 lines (filter is_kept (kinds 1 lines)) says) (kept_run lines (Some (draft stage.Done f)) run) tt in
    record { said = subst (λ x. SayLines 1 lines x) (sym kept.lines) says; sound = kept.at }

-- what lines say runs as they do
said_runs : (lines : List (List ℕ)) (said : List Line) → SayLines 1 lines said → runs begin (kinds 1 lines) ≡ runs begin said
said_runs lines said says = runs_kept begin (kinds 1 lines) ∙ ap (runs begin) ((say-complete 1 lines said says).1)

-- a file runs to its end
pub file_is_run : (lines : List (List ℕ)) (f : File) → IsFile lines f → runs begin (kinds 1 lines) ≡ Some (draft stage.Done f)
file_is_run lines f file = said_runs lines (file_lines f) file.said ∙ file_runs f file.sound

-- what runs is a start
pub run_is_start : (lines : List (List ℕ)) (d : Draft) → runs begin (kinds 1 lines) ≡ Some d → IsStart lines
run_is_start lines d run =
    let said = filter is_kept (kinds 1 lines) in
    let says = run_says lines d run in
    let all = lines_said 1 lines said says in
    let kept = runs_keep said begin d all (kept_run lines (Some d) run) tt in
    let end = completes d.stage d.document kept.at in
    let whole = runs_keep (said ++ end.more) begin (draft stage.Done end.file) (list_all-append is_said said end.more ∙ both (list_all is_said said) (list_all is_said end.more) all end.said) (then_runs begin d said end.more (Some (draft stage.Done end.file)) (kept_run lines (Some d) run) end.run) tt in
    record { said = said; says = says; more = end.more; file = end.file; whole = sym whole.lines; sound = whole.at }

-- what doesn't run is no start
pub stop_is_no_start : (lines : List (List ℕ)) → runs begin (kinds 1 lines) ≡ None → IsStart lines → ⊥
stop_is_no_start lines stopped start =
    let whole : runs begin (start.said ++ start.more) ≡ Some (draft stage.Done start.file) = ap (runs begin) start.whole ∙ file_runs start.file start.sound in
    let none : runs begin (start.said ++ start.more) ≡ None = runs_append begin start.said start.more ∙ ap (option_and_then (λ t. runs t start.more)) (sym (said_runs lines start.said start.says) ∙ stopped) in
    apart_options none whole
  where
    apart_options : {o : Option Draft} {d : Draft} → o ≡ None → o ≡ Some d → ⊥
    apart_options none some = cc

-- a run that doesn't end is over no file
pub short_is_no_file : (lines : List (List ℕ)) (d : Draft) → runs begin (kinds 1 lines) ≡ Some d → finished d ≡ None → (f : File) → IsFile lines f → ⊥
short_is_no_file lines d run none f file = apart_files (sym (ap finished (some_is (sym run ∙ file_is_run lines f file))) ∙ none)
  where
    apart_files : {x : File} → Some x ≡ None → ⊥
    apart_files e = cc

done_is : (st : Stage) (f g : File) → finished (draft st f) ≡ Some g → draft st f ≡ draft stage.Done g
done_is stage.Done f g e = let same : f ≡ g = cc in ap (draft stage.Done) same
done_is _ f g e = absurd cc

last_step : (o : Option Draft) → option_and_then (λ t. Some t) o ≡ o
last_step None = refl
last_step (Some t) = refl

-- where a reader stands: n lines are read, and the lines of a rest are left
pub record Stands (lines : List (List ℕ)) (n : ℕ) (d : Draft) (left : List (List ℕ)) : Type 0 where
  pub run : runs begin (kinds 1 (take n lines)) ≡ Some d
  pub rest : drop n lines ≡ left
  pub within : n ≤ length lines

pub stands_first : (lines : List (List ℕ)) → Stands lines 0 begin lines
stands_first lines = record { run = refl; rest = refl; within = omega arith }

run_more : (lines : List (List ℕ)) (n : ℕ) (d : Draft) (line : List ℕ) (left : List (List ℕ)) → runs begin (kinds 1 (take n lines)) ≡ Some d → drop n lines ≡ line ∷ left → runs begin (kinds 1 (take (n + 1) lines)) ≡ next_of d (kind_of (n + 1) line)
run_more lines n d line left run e =
    ap (runs begin) (kinds_more lines n line left e) ∙ runs_append begin (kinds 1 (take n lines)) (kind_of (n + 1) line ∷ []) ∙ ap (option_and_then (λ t. runs t (kind_of (n + 1) line ∷ []))) run ∙ last_step (next_of d (kind_of (n + 1) line))

-- one line more
pub stands_next : (lines : List (List ℕ)) (n : ℕ) (d e : Draft) (line : List ℕ) (left lines_left : List (List ℕ)) → Stands lines n d left → left ≡ line ∷ lines_left → next_of d (kind_of (n + 1) line) ≡ Some e → Stands lines (n + 1) e lines_left
stands_next lines n d e line left lines_left stands first step =
    let parts = split_take lines n line lines_left (stands.rest ∙ first) in
    record { run = run_more lines n d line lines_left stands.run (stands.rest ∙ first) ∙ step; rest = parts.2; within = omega (arith, ap (λ x. length x) parts.1, length-append (take n lines) (line ∷ []), parts.0, length_take lines (n + 1)) }

-- a line that can't stand there
pub stands_bad : (lines : List (List ℕ)) (n : ℕ) (d : Draft) (line : List ℕ) (left lines_left : List (List ℕ)) → Stands lines n d left → left ≡ line ∷ lines_left → next_of d (kind_of (n + 1) line) ≡ None → IsBadAfter n lines
stands_bad lines n d line left lines_left stands first stopped = (
  run_is_start (take n lines) d stands.run,
  inl (stop_is_no_start (take (n + 1) lines) (run_more lines n d line lines_left stands.run (stands.rest ∙ first) ∙ stopped)),
)

-- all lines are read, and the end isn't among them
pub stands_short : (lines : List (List ℕ)) (n : ℕ) (d : Draft) → Stands lines n d [] → finished d ≡ None → IsBadAfter n lines
stands_short lines n d stands none =
    let whole = all_taken lines n stands.rest in
    let count : length lines ≡ n = omega (arith, ap (λ x. length x) whole, take_length lines n, stands.within) in
    (run_is_start (take n lines) d stands.run, inr (count, short_is_no_file lines d (ap (λ x. runs begin (kinds 1 x)) (sym whole) ∙ stands.run) none))

-- all lines are read, and they are a file
pub stands_whole : (lines : List (List ℕ)) (n : ℕ) (d : Draft) (f : File) → Stands lines n d [] → finished d ≡ Some f → IsFile lines f
stands_whole lines n d f stands is =
    run_is_file lines f (ap (λ x. runs begin (kinds 1 x)) (sym (all_taken lines n stands.rest)) ∙ stands.run ∙ ap (λ x. Some x) (done_is d.stage d.document f is))

pub stands_refused : (lines : List (List ℕ)) (n : ℕ) (d : Draft) (line : List ℕ) (left lines_left : List (List ℕ)) (e : ReadError) → Stands lines n d left → left ≡ line ∷ lines_left → Refuses d (n + 1) line e → HasCause lines e
stands_refused lines n d line left lines_left (BadText number) stands first refused = (n, refused.0, stands_bad lines n d line left lines_left stands first refused.1)
stands_refused lines n d line left lines_left NoMemory stands first refused = tt

none_left : (rest : List ℕ) → length rest ≡ 0 → lines_of rest ≡ []
none_left [] empty = refl
none_left (c ∷ rest) empty = absurd (omega arith)

pub at_end : (lines : List (List ℕ)) (n : ℕ) (d : Draft) (rest : List ℕ) → Stands lines n d (lines_of rest) → length rest ≡ 0 → Stands lines n d []
at_end lines n d rest stands empty = record { run = stands.run; rest = stands.rest ∙ none_left rest empty; within = stands.within }

-- a skipped line changes nothing
pub stands_skipped : (lines : List (List ℕ)) (n : ℕ) (d : Draft) (line : List ℕ) (left lines_left : List (List ℕ)) → Stands lines n d left → left ≡ line ∷ lines_left → is_skipped line ≡ true → Stands lines (n + 1) d lines_left
stands_skipped lines n d line left lines_left stands first skipped =
    stands_next lines n d d line left lines_left stands first (ap (λ b. next_of d (if b then Skip else (if is_text line then or_bad (said_by (n + 1) (unindented line)) else Bad))) skipped)
