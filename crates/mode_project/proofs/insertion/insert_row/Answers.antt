use Rattle.std.proofs.Common.{◌∙◌, ap, length}
use Rattle.mode_project.proofs.insertion.insert_row.Goals as goal

pub insert-requires-clause-width : goal.insert-requires-clause-width
insert-requires-clause-width g c = ap length c.deref_mut.ensures.value ∙ c.requires.width

pub returns-clause-span : goal.returns-clause-span
returns-clause-span g c = rw c.deref_mut.ensures.value at c.insert.ensures.span

pub returns-clause-grew : goal.returns-clause-grew
returns-clause-grew g c = rw c.deref_mut.ensures.value at c.insert.ensures.grew

pub returns-clause-wide : goal.returns-clause-wide
returns-clause-wide g c = rw c.deref_mut.ensures.value at c.insert.ensures.wide
