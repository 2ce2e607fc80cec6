use Rattle.std.proofs.Common.{◌≡◌, sym, ◌∙◌, ap, length}
use Rattle.std.proofs.lemmas.List.{with_items_is}
use Rattle.std.specs.Vec.{with_items}
use Rattle.lin_alg.specs.Rows.{vector}
use Rattle.mode_project.proofs.image.moved_row.Goals as goal

pub fill_image-requires-clause-room : goal.fill_image-requires-clause-room
fill_image-requires-clause-room g c =
    ap length c.deref_mut.ensures.value ∙ c.in_ok-image.ensures.len ∙ c.requires.row

pub returns-in-Ok-clause-len : goal.returns-in-Ok-clause-len
returns-in-Ok-clause-len g c =
    let ws = c.fill_image.new.image in
    let same : length ws ≡ length c.in_ok-image.image.items = c.fill_image.auto.image ∙ ap length c.deref_mut.ensures.value in
    let whole : (with_items c.in_ok-image.image ws).items ≡ ws = with_items_is c.in_ok-image.image ws (same ∙ sym c.in_ok-image.image.ok.0) in
    ap length whole ∙ same ∙ c.in_ok-image.ensures.len ∙ c.requires.row

pub returns-in-Ok-clause-exact : goal.returns-in-Ok-clause-exact
returns-in-Ok-clause-exact g c =
    let ws = c.fill_image.new.image in
    let same : length ws ≡ length c.in_ok-image.image.items = c.fill_image.auto.image ∙ ap length c.deref_mut.ensures.value in
    let whole : (with_items c.in_ok-image.image ws).items ≡ ws = with_items_is c.in_ok-image.image ws (same ∙ sym c.in_ok-image.image.ok.0) in
    ap (vector g.F.Field.field.laws g.F.Field.value) whole ∙ c.in-Ok.ensures.exact

pub fill_image-requires-clause-zero : goal.fill_image-requires-clause-zero
fill_image-requires-clause-zero g c r =
    ap (λ xs. vector g.F.Field.field.laws g.F.Field.value xs r) c.deref_mut.ensures.value ∙ c.in_ok-image.ensures.zero r
