use Rattle.std.proofs.Common.{◌∙◌, ◌+◌, ◌<◌, ◌≤◌, arith, length}
use Rattle.std.proofs.lemmas.Result.{IfOk-weaker}
use Rattle.mode_report.specs.ModesReport.{mode_text_by}
use Rattle.mode_report.proofs.ModeLemmas.{irrep-told, site-told}
use Rattle.mode_report.proofs.mode_pieces.mode_piece.Goals as goal

pub returns-then-m-irrep_modes : goal.returns-then-m-irrep_modes
returns-then-m-irrep_modes c =
    let v = c.args.found.now in
    let m = c.args.m in
    let l : m < length v.rows = omega (arith, c.irrep_modes.ensures, c.if-m-irrep_modes.true) in
    IfOk-weaker c.irrep_mode.result _ _ (λ text h x s. let r = irrep-told c.args.irreps.now v m x l s in h r.0 r.1 ∙ (λ j. mode_text_by c.args.entries (c.atoms.ensures.value j) (m + 1, r.2 j))) c.irrep_mode.ensures

pub returns : goal.returns
returns c =
    let v = c.args.found.now in
    let m = c.args.m in
    let l : length v.rows ≤ m = omega (arith, c.irrep_modes.ensures, c.if-m-irrep_modes.false) in
    IfOk-weaker c.site_mode.result _ _ (λ text h x s. let k = site-told c.args.irreps.now v m x l c.requires.mode s in h k.0 k.1 ∙ (λ j. mode_text_by c.args.entries (c.atoms-2.ensures.value j) (m + 1, k.2 j))) c.site_mode.ensures
