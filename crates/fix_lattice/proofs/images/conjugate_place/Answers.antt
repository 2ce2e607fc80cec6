use Rattle.std.proofs.Common.{◌≡◌, ◌<◌, ℕ, sym, ◌∙◌, ap, subst, get_or, arith}
use Rattle.fix_lattice.proofs.images.conjugate_place.Goals as goal
use Rattle.fix_lattice.proofs.ListLemmas.{same-default}

pub index-requires : goal.index-requires
index-requires g c =
    let act = g.G.Acts.action c.args.acts.now in
    let law = (g.met.G.Acts.lawful c.args.acts.now).group in
    let el = c.args.singles.now.elements.items in
    let q : ℕ = c.index-q.result.now in
    let a : ℕ = c.args.a in
    let e : q ≡ get_or el c.args.k 0 = c.index-q.ensures ∙ same-default el c.args.k q 0 c.requires.there in
    let ql : q < act.group.order = subst (λ (z : ℕ). z < act.group.order) (sym e) (c.requires.elements c.args.k c.requires.there) in
    let all : act.group.product (act.group.product a q) (act.group.inverse a) < act.group.order =
    law.product_below (act.group.product a q) (act.group.inverse a) (law.product_below a q c.requires.element ql) (law.inverse_below a c.requires.element) in
    let r : c.product-2.result ≡ act.group.product (act.group.product a q) (act.group.inverse a) =
    c.product-2.ensures ∙ ap (λ z. act.group.product z c.inverse.result) c.product.ensures ∙ ap (act.group.product (act.group.product a q)) c.inverse.ensures in
    omega (arith, c.args.singles.now.places.ok.0, c.requires.places, r, all)
