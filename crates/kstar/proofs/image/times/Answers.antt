use Rattle.kstar.proofs.Columns.{column_near}
use Rattle.kstar.proofs.image.times.Goals as goal

pub short_value-requires-clause-column : goal.short_value-requires-clause-column
short_value-requires-clause-column c = column_near c.column.result _ _ _ c.column.ensures c.requires.rotation.0.0 c.requires.rotation.1.0 c.requires.rotation.2.0

pub short_value-requires-2-clause-column : goal.short_value-requires-2-clause-column
short_value-requires-2-clause-column c = column_near c.column-2.result _ _ _ c.column-2.ensures c.requires.rotation.0.1 c.requires.rotation.1.1 c.requires.rotation.2.1

pub short_value-requires-3-clause-column : goal.short_value-requires-3-clause-column
short_value-requires-3-clause-column c = column_near c.column-3.result _ _ _ c.column-3.ensures c.requires.rotation.0.2 c.requires.rotation.1.2 c.requires.rotation.2.2
