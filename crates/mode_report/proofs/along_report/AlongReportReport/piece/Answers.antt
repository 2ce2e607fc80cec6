use Rattle.std.proofs.Common.{arith, [], get_or}
use Rattle.std.proofs.lemmas.Result.{IfOk-weaker}
use Rattle.mode_report.specs.ModesPieces.{told_pieces_by}
use Rattle.mode_report.specs.ReportPieces.{along_front, along_told}
use Rattle.mode_report.specs.PartLaws.{parts-count, part-known, piece-told}
use Rattle.mode_report.specs.declared.moves.AtomEntries.TheVariants.{Three}
use Rattle.mode_report.proofs.along_report.AlongReportReport.piece.Goals as goal

pub index-requires : goal.index-requires
index-requires c =
    let r = c.args.self.now in
    let n = parts-count Three (along_front r.along) (along_told r.along) r.parts.items c.requires.fits.parts in
    omega (arith, c.requires.place, r.parts.ok.0, n)

pub part_text-requires-clause-part : goal.part_text-requires-clause-part
part_text-requires-clause-part c =
    let r = c.args.self.now in
    let front = along_front r.along in
    let told = along_told r.along in
    (get_or (told_pieces_by Three front told) c.args.number [], part-known Three front told r.parts.items c.args.number c.index.result.now c.requires.fits.parts c.requires.place c.index.ensures)

pub returns : goal.returns
returns c =
    let r = c.args.self.now in
    IfOk-weaker c.part_text.result _ _ (λ text h. piece-told Three (along_front r.along) (along_told r.along) r.parts.items c.args.number c.index.result.now text c.requires.fits.parts c.requires.place c.index.ensures h) c.part_text.ensures
