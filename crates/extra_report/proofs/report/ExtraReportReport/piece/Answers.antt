use Rattle.std.proofs.Common.{arith, [], get_or}
use Rattle.std.proofs.lemmas.Result.{IfOk-weaker}
use Rattle.mode_report.specs.ModesPieces.{told_pieces_by}
use Rattle.mode_report.specs.PartLaws.{parts-count, part-known, piece-told}
use Rattle.extra_report.specs.ExtraPieces.{extra_front, extra_told}
use Rattle.extra_report.specs.ExtraReport.{entries_of}
use Rattle.extra_report.proofs.report.ExtraReportReport.piece.Goals as goal

pub index-requires : goal.index-requires
index-requires c =
    let r = c.args.self.now in
    let n = parts-count (entries_of r.found.nature) (extra_front r.found) (extra_told r.found) r.parts.items c.requires.fits.parts in
    omega (arith, c.requires.place, r.parts.ok.0, n)

pub part_text-requires-clause-part : goal.part_text-requires-clause-part
part_text-requires-clause-part c =
    let r = c.args.self.now in
    let e = entries_of r.found.nature in
    let front = extra_front r.found in
    let told = extra_told r.found in
    (get_or (told_pieces_by e front told) c.args.number [], part-known e front told r.parts.items c.args.number c.index.result.now c.requires.fits.parts c.requires.place c.index.ensures)

pub returns : goal.returns
returns c =
    let r = c.args.self.now in
    IfOk-weaker c.part_text.result _ _
    (λ text h. piece-told (entries_of r.found.nature) (extra_front r.found) (extra_told r.found) r.parts.items c.args.number c.index.result.now text c.requires.fits.parts c.requires.place c.index.ensures h) c.part_text.ensures
