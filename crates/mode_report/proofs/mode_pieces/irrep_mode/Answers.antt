use Rattle.std.proofs.Common.{◌∙◌, ℕ, ◌+◌, ◌++◌, List, ap}
use Rattle.cyclo24.specs.ExactK24.{Exact24, k24_laws}
use Rattle.cyclo24.specs.K24.{exact24}
use Rattle.lin_alg.specs.Rows.{vector}
use Rattle.mode_report.specs.ModesReport.{mode_text_by}
use Rattle.mode_report.proofs.ReportLemmas.{irrep-mode}
use Rattle.mode_report.proofs.mode_pieces.irrep_mode.Goals as goal

pub returns : goal.returns
returns c r s =
    let f = mode_text_by c.args.entries c.args.atoms in
    let x : List ℕ × (ℕ → Exact24) = (c.mode_name-name.result.now, vector k24_laws exact24 c.row.result.now) in
    let told = irrep-mode c.args.irreps.now c.args.found.now.rows c.args.m c.mode_name-name.result.now c.row.result.now r c.requires.mode c.mode_name-name.ensures c.row.ensures.row s in
    c.in_ok-push_mode.ensures ∙ ap (λ (t : List ℕ). t ++ f (c.args.m + 1, x)) c.new-text.ensures ∙ ap (λ y. f (c.args.m + 1, y)) told
