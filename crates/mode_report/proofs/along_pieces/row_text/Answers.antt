use Rattle.std.proofs.Common.{◌∙◌, ℕ, ◌++◌, List, length, ap, sym}
use Rattle.cyclo24.specs.declared.k24.K24.{K24}
use Rattle.cyclo24.specs.ExactK24.{Exact24, k24_laws}
use Rattle.cyclo24.specs.K24.{exact24}
use Rattle.lin_alg.specs.Rows.{vector}
use Rattle.mode_report.specs.ModesReport.{mode_text}
use Rattle.mode_report.proofs.along_pieces.row_text.Goals as goal

pub push_mode-requires : goal.push_mode-requires
push_mode-requires c = ap (λ (xs : List K24). length xs) c.deref.ensures.value ∙ c.in_ok-row.ensures.width ∙ c.requires.width

pub returns : goal.returns
returns c =
    let f = mode_text c.args.atoms in
    let x : List ℕ × (ℕ → Exact24) = (c.args.name.now, vector k24_laws exact24 c.deref.result.now) in
    let row = ap (λ (xs : List K24). vector k24_laws exact24 xs) c.deref.ensures.value ∙ sym c.in_ok-row.ensures.entries in
    c.in_ok-push_mode.ensures ∙ ap (λ (t : List ℕ). t ++ f (c.args.number, x)) c.new-text.ensures ∙ (λ j. f (c.args.number, (c.args.name.now, row j)))
