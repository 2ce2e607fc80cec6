use Rattle.std.proofs.Common.{◌≡◌, ◌*◌, sym, ◌∙◌, ap, length}
use Rattle.std.proofs.lemmas.List.{with_items_is}
use Rattle.std.specs.Vec.{with_items}
use Rattle.lin_alg.specs.Rows.{vector}
use Rattle.mode_project.proofs.column.projected_column.Goals as goal

pub fill_column-requires-clause-room : goal.fill_column-requires-clause-room
fill_column-requires-clause-room g c =
    ap length c.deref_mut.ensures.value ∙ c.in_ok-column.ensures.len ∙ (λ z. (c.atoms.ensures.value ∙ c.requires.orbit.atoms) z * c.requires.table.each z)

pub fill_column-requires-clause-zero : goal.fill_column-requires-clause-zero
fill_column-requires-clause-zero g c r =
    ap (λ xs. vector g.F.Field.field.laws g.F.Field.value xs r) c.deref_mut.ensures.value ∙ c.in_ok-column.ensures.zero r

pub returns-in-Ok-clause-len : goal.returns-in-Ok-clause-len
returns-in-Ok-clause-len g c =
    let ws = c.fill_column.new.column in
    let same : length ws ≡ length c.in_ok-column.column.items = c.fill_column.auto.column ∙ ap length c.deref_mut.ensures.value in
    let whole : (with_items c.in_ok-column.column ws).items ≡ ws = with_items_is c.in_ok-column.column ws (same ∙ sym c.in_ok-column.column.ok.0) in
    ap length whole ∙ same ∙ c.in_ok-column.ensures.len ∙ (λ z. (c.atoms.ensures.value ∙ c.requires.orbit.atoms) z * c.requires.table.each z)

pub returns-in-Ok-clause-exact : goal.returns-in-Ok-clause-exact
returns-in-Ok-clause-exact g c =
    let ws = c.fill_column.new.column in
    let same : length ws ≡ length c.in_ok-column.column.items = c.fill_column.auto.column ∙ ap length c.deref_mut.ensures.value in
    let whole : (with_items c.in_ok-column.column ws).items ≡ ws = with_items_is c.in_ok-column.column ws (same ∙ sym c.in_ok-column.column.ok.0) in
    ap (vector g.F.Field.field.laws g.F.Field.value) whole ∙ c.in-Ok.ensures.exact
