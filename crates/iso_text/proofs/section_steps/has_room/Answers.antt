use Rattle.std.proofs.Common.{refl}
use Rattle.iso_text.specs.FileLines.{sections}
use Rattle.iso_text.proofs.RoomLemmas.{room_then, room_else, table_most}
use Rattle.iso_text.proofs.section_steps.has_room.Goals as goal

pub returns-then-counts-section : goal.returns-then-counts-section
returns-then-counts-section c =
    let f = c.args.document.now in
    room_then c.are_zero.result c.args.section 7 _ (sections f) c.counts-counts.result refl c.requires c.counts-counts.ensures (table_most f c.args.section c.requires) c.if-counts-section.true c.are_zero.ensures

pub returns-else-counts-section : goal.returns-else-counts-section
returns-else-counts-section c =
    let f = c.args.document.now in
    room_else c.args.section 7 _ (sections f) c.counts-counts.result refl c.requires c.counts-counts.ensures (table_most f c.args.section c.requires) c.if-counts-section.false
