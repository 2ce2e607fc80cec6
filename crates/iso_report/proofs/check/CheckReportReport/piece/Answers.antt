use Rattle.std.proofs.Common.{◌≡◌, ◌∙◌, ◌++◌, ℕ, List, length, map, flat_map, sym, ap, arith, Some, slice_get}
use Rattle.std.proofs.lemmas.Result.{IfOk-weaker}
use Rattle.iso_text.specs.FileValue.{File}
use Rattle.iso_text.specs.Lines.{line}
use Rattle.space_ops.specs.Lattice.{centrings_of}
use Rattle.super_group.specs.Quotient.{SupercellGroup, order_of}
use Rattle.report_buffer.specs.PieceLaws.{behind-first}
use Rattle.report_steps.specs.Held.{facts_in, IsInducedHeld}
use Rattle.report_steps.specs.OpLines.{listed_line}
use Rattle.iso_report.specs.Check.{first_line, lattice_line, supercell_line, check_head, irrep_pieces, check_pieces}
use Rattle.iso_report.proofs.ReportLemmas.{pieces-count}
use Rattle.iso_report.proofs.check.CheckReportReport.piece.Goals as goal

pub irrep_piece-requires-clause-place : goal.irrep_piece-requires-clause-place
irrep_piece-requires-clause-place c =
    let f = c.args.self.now.file in
    let n = pieces-count f.divided.quotient.parent facts_in (IsInducedHeld f.divided.quotient) f.divided.file.irreps f.irreps.items c.requires.fits in
    omega (arith, c.requires.place, n)

pub returns-then-number-eq0 : goal.returns-then-number-eq0
returns-then-number-eq0 c =
    let r = c.args.self.now in
    let zero : c.args.number ≡ 0 = omega (arith, c.if-number-eq0.true) in
    let front : ℕ → SupercellGroup → List ℕ = λ n q.
    line (first_line n) (line (lattice_line q.parent.lattice (length (centrings_of q.parent.lattice)) (length q.parent.ops)) (flat_map listed_line q.parent.ops ++ supercell_line q.d (order_of q))) in
    let format = c.format-format.ensures ∙ ap (λ (f : File). f.format) c.document.ensures in
    let same : front c.format-format.result c.quotient.result.now ≡ check_head r.file.divided = λ j. front (format j) (c.quotient.ensures j) in
    IfOk-weaker c.front_text.result _ _ (λ text e. ap (slice_get (check_pieces r)) zero ∙ ap (λ t. Some t) (sym (e ∙ same))) c.front_text.ensures

pub returns : goal.returns
returns c =
    let f = c.args.self.now.file in
    IfOk-weaker c.irrep_piece.result _ _ (λ text h. behind-first (check_head f.divided) (irrep_pieces f.divided.quotient.parent f.divided.file.irreps (map facts_in f.irreps.items)) c.args.number text (omega arith) h) c.irrep_piece.ensures
