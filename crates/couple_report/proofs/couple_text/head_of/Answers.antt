use Rattle.std.proofs.Common.{◌≡◌, ◌∙◌, sym, subst, [], List, ℕ, IfOk}
use Rattle.std.proofs.lemmas.List.{length-map}
use Rattle.cyclo24.specs.ExactK24.{k24_laws}
use Rattle.cyclo24.specs.K24.{exact24}
use Rattle.class_list.specs.Seen.{direction_of}
use Rattle.couple_report.specs.CoupleReport.{couple_head}
use Rattle.couple_report.proofs.couple_text.head_of.Goals as goal

pub returns : goal.returns
returns c =
    let x = c.args.found.now in
    let total = c.len-total.ensures.value ∙ sym (length-map x.listing (direction_of k24_laws exact24)) in
    let P : List ℕ → Type 0 = λ t. IfOk c.head_by.result (λ text. text ≡ t) in
    subst P (λ j. couple_head x.format x.name x.other x.dim x.other_dim (c.order-order.ensures.value j) (total j) []) c.head_by.ensures
