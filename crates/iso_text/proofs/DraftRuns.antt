-- Whole runs of a draft over lines.
use Rattle.std.proofs.Common.{◌≡◌, true, List, [], ◌∷◌, ◌++◌, Option, Some, None, refl, sym, ◌∙◌, ap, subst, append_assoc, append-nil}
use Rattle.std.specs.Prelude.{option_and_then, filter}
use Rattle.std.specs.List.{list_all}
use Rattle.iso_text.specs.Draft.{next_of}
use Rattle.iso_text.specs.declared.draft.Draft.{Draft}
use Rattle.iso_text.specs.declared.line_kinds.Line.{Line}
use Rattle.iso_text.specs.declared.line_kinds.Line.TheVariants.{Skip, Bad}
use Rattle.iso_text.proofs.BodyLemmas.{both, apart}
use Rattle.iso_text.proofs.DraftLines.{is_said, lines_at, IsAt, Holds}
use Rattle.iso_text.proofs.DraftSteps.{next_keeps}
use Rattle.iso_text.proofs.KindsOfLines.{is_kept, is_good}
use Rattle.iso_text.proofs.Steps.{bind}

-- the draft after the lines
abbrev pub runs : Draft → List Line → Option Draft
runs d [] = Some d
runs d (line ∷ lines) = option_and_then (λ e. runs e lines) (next_of d line)

step_same : (o : Option Draft) (f g : Draft → Option Draft) → ((t : Draft) → f t ≡ g t) → option_and_then f o ≡ option_and_then g o
step_same None f g same = refl
step_same (Some t) f g same = same t

step_twice : (o : Option Draft) (f g : Draft → Option Draft) → option_and_then (λ t. option_and_then g (f t)) o ≡ option_and_then g (option_and_then f o)
step_twice None f g = refl
step_twice (Some t) f g = refl

pub runs_append : (d : Draft) (a b : List Line) → runs d (a ++ b) ≡ option_and_then (λ t. runs t b) (runs d a)
runs_append d [] b = refl
runs_append d (line ∷ a) b = step_same (next_of d line) _ _ (λ t. runs_append t a b) ∙ step_twice (next_of d line) (λ t. runs t a) (λ t. runs t b)

pub then_runs : (d e : Draft) (a b : List Line) (o : Option Draft) → runs d a ≡ Some e → runs e b ≡ o → runs d (a ++ b) ≡ o
then_runs d e a b o first rest = runs_append d a b ∙ ap (option_and_then (λ t. runs t b)) first ∙ rest

-- many lines more
pub runs_keep : (lines : List Line) (d e : Draft) → list_all is_said lines ≡ true → runs d lines ≡ Some e → IsAt d.stage d.document → Holds e (lines_at d.stage d.document ++ lines)
runs_keep [] d e said run at =
    let same : d ≡ e = cc in
    subst (λ x. Holds x (lines_at d.stage d.document ++ [])) same (record { at = at; lines = sym (append-nil (lines_at d.stage d.document)) })
runs_keep (line ∷ lines) d e said run at =
    let two = bind (next_of d line) (λ x. runs x lines) e run in
    let says = apart (is_said line) (list_all is_said lines) said in
    let kept = next_keeps line d.stage d.document two.0 says.0 two.1 at in
    let more = runs_keep lines two.0 e says.1 two.2 kept.at in
    record { at = more.at; lines = more.lines ∙ ap (λ x. x ++ lines) kept.lines ∙ append_assoc (lines_at d.stage d.document) (line ∷ []) lines }

-- skipped lines change nothing
pub runs_kept : (d : Draft) (lines : List Line) → runs d lines ≡ runs d (filter is_kept lines)
runs_kept d [] = refl
runs_kept d (Skip ∷ lines) = runs_kept d lines
runs_kept d (line ∷ lines) = step_same (next_of d line) _ _ (λ t. runs_kept t lines)

-- no line of a run is bad
pub runs_good : (lines : List Line) (d e : Draft) → runs d lines ≡ Some e → list_all is_good lines ≡ true
runs_good [] d e run = refl
runs_good (Bad ∷ lines) d e run = absurd cc
runs_good (line ∷ lines) d e run =
    let two = bind (next_of d line) (λ x. runs x lines) e run in
    both (is_good line) (list_all is_good lines) refl (runs_good lines two.0 e two.2)
