use Rattle.std.proofs.Common.{◌≡◌, ◌<◌, ◌+◌, ◌-◌, ℕ, sym, ◌∙◌, subst, length, map, arith}
use Rattle.std.proofs.lemmas.List.{length-map}
use Rattle.lin_alg.specs.RowLaws.{equality-told}
use Rattle.fix_lattice.specs.Classes.{IsImageForm}
use Rattle.fix_lattice.proofs.ClosingLemmas.{closing-conjugate, closing-image}
use Rattle.fix_lattice.proofs.HeldLemmas.{grown-own}
use Rattle.fix_lattice.specs.Lattice.{form_at}
use Rattle.fix_lattice.specs.Subspaces.{exact_forms}
use Rattle.fix_lattice.proofs.CountLemmas.{cuts-now, source-read, image-read}
use Rattle.fix_lattice.proofs.images.image_at.Goals as goal
use Rattle.fix_lattice.specs.FormLaws.{exact-length}

pub conjugate_place-requires-clause-element : goal.conjugate_place-requires-clause-element
conjugate_place-requires-clause-element g c =
    let act = g.G.Acts.action c.args.given.now.acts.now in
    subst (λ (z : ℕ). z < act.group.order) (sym c.generator-a.ensures) ((g.met.G.Acts.lawful c.args.given.now.acts.now).generator_below c.args.p c.requires.generator)

pub conjugate_place-fix-requires-clause-element : goal.conjugate_place-fix-requires-clause-element
conjugate_place-fix-requires-clause-element g c =
    let act = g.G.Acts.action c.args.given.now.acts.now in
    subst (λ (z : ℕ). z < act.group.order) (sym c.generator-a.ensures) ((g.met.G.Acts.lawful c.args.given.now.acts.now).generator_below c.args.p c.requires.generator)

pub returns-then-i-fixes-clause-place : goal.returns-then-i-fixes-clause-place
returns-then-i-fixes-clause-place g c =
    let f = g.F.Field.field in
    let v = g.F.Field.value in
    let act = g.G.Acts.action c.args.given.now.acts.now in
    let law = g.met.G.Acts.lawful c.args.given.now.acts.now in
    let o = c.args.tables.now in
    let s = c.args.given.now.singles.now in
    let a : ℕ = c.generator-a.result in
    let al : a < act.group.order = subst (λ (z : ℕ). z < act.group.order) (sym c.generator-a.ensures) (law.generator_below c.args.p c.requires.generator) in
    let il : c.args.i < length s.elements.items = omega (arith, s.elements.ok.0, c.len-fixes.ensures, c.if-i-fixes.true) in
    let conj = closing-conjugate f act law (exact_forms f.laws v o.held.keys) s.places.items s.elements.items (map (λ r. r.items) o.cuts.items) o.sources.items c.requires.closing a c.args.i al il in
    let l = conj.0 in
    let e = c.conjugate_place.ensures in
    let n = exact-length f.laws v o.held.keys in
    let within = c.requires.closing.within in
    omega arith

pub returns-then-i-fixes-clause-image : goal.returns-then-i-fixes-clause-image
returns-then-i-fixes-clause-image g c =
    let f = g.F.Field.field in
    let v = g.F.Field.value in
    let act = g.G.Acts.action c.args.given.now.acts.now in
    let law = g.met.G.Acts.lawful c.args.given.now.acts.now in
    let o = c.args.tables.now in
    let s = c.args.given.now.singles.now in
    let forms = exact_forms f.laws v o.held.keys in
    let a : ℕ = c.generator-a.result in
    let al : a < act.group.order = subst (λ (z : ℕ). z < act.group.order) (sym c.generator-a.ensures) (law.generator_below c.args.p c.requires.generator) in
    let il : c.args.i < length s.elements.items = omega (arith, s.elements.ok.0, c.len-fixes.ensures, c.if-i-fixes.true) in
    let conj = closing-conjugate f act law forms s.places.items s.elements.items (map (λ r. r.items) o.cuts.items) o.sources.items c.requires.closing a c.args.i al il in
    subst (λ (z : ℕ). IsImageForm f.laws act z (form_at forms c.args.i) (form_at forms c.conjugate_place.result)) c.generator-a.ensures
    (subst (λ (z : ℕ). IsImageForm f.laws act a (form_at forms c.args.i) (form_at forms z)) (sym c.conjugate_place.ensures) conj.1)

pub returns-then-i-fixes-clause-few : goal.returns-then-i-fixes-clause-few
returns-then-i-fixes-clause-few g c =
    let f = g.F.Field.field in
    let v = g.F.Field.value in
    let act = g.G.Acts.action c.args.given.now.acts.now in
    let tells = equality-told f v g.F.PartialEq.eq g.F.Ord.cmp g.met.F.Ord.matches_eq g.met.F.Field.value_cmp in
    let o = c.args.tables.now in
    let s = c.args.given.now.singles.now in
    cuts-now f v g.F.PartialEq.eq tells act act.dim c.args.given.now.limit o.held.keys s.places.items s.elements.items (map (λ r. r.items) o.cuts.items) o.sources.items c.requires.held c.requires.closing c.requires.within

pub returns-then-i-fixes-clause-grown : goal.returns-then-i-fixes-clause-grown
returns-then-i-fixes-clause-grown g c = grown-own g.F.Field.field (g.G.Acts.action c.args.given.now.acts.now) (exact_forms g.F.Field.field.laws g.F.Field.value c.args.tables.now.held.keys)

pub index-requires : goal.index-requires
index-requires g c =
    let f = g.F.Field.field in
    let v = g.F.Field.value in
    let o = c.args.tables.now in
    let s = c.args.given.now.singles.now in
    let n = exact-length f.laws v o.held.keys in
    let m = c.requires.closing.sources_length in
    let there = c.requires.there in
    omega (arith, s.elements.ok.0, o.sources.ok.0, c.len-fixes.ensures, c.if-i-fixes.false)

pub place_in-at-requires-clause-row : goal.place_in-at-requires-clause-row
place_in-at-requires-clause-row g c =
    let f = g.F.Field.field in
    let v = g.F.Field.value in
    let act = g.G.Acts.action c.args.given.now.acts.now in
    let law = g.met.G.Acts.lawful c.args.given.now.acts.now in
    let o = c.args.tables.now in
    let s = c.args.given.now.singles.now in
    let forms = exact_forms f.laws v o.held.keys in
    let images = map (λ r. r.items) c.args.images.now in
    let n = exact-length f.laws v o.held.keys in
    let m = c.requires.closing.sources_length in
    let there = c.requires.there in
    let j : ℕ = c.args.i - c.len-fixes.result in
    let jl : j < length o.sources.items = omega (arith, s.elements.ok.0, c.len-fixes.ensures, c.if-i-fixes.false) in
    let src = source-read f act forms s.places.items s.elements.items (map (λ r. r.items) o.cuts.items) o.sources.items c.requires.closing j c.index.result.now jl c.index.ensures in
    let ji : length s.elements.items + j ≡ c.args.i = omega (arith, s.elements.ok.0, c.len-fixes.ensures, c.if-i-fixes.false) in
    let sl = src.1.0 in
    let kl = src.1.1 in
    let before = c.requires.before in
    omega arith

pub place_in-at-requires-clause-column : goal.place_in-at-requires-clause-column
place_in-at-requires-clause-column g c =
    let f = g.F.Field.field in
    let v = g.F.Field.value in
    let act = g.G.Acts.action c.args.given.now.acts.now in
    let law = g.met.G.Acts.lawful c.args.given.now.acts.now in
    let o = c.args.tables.now in
    let s = c.args.given.now.singles.now in
    let forms = exact_forms f.laws v o.held.keys in
    let images = map (λ r. r.items) c.args.images.now in
    let n = exact-length f.laws v o.held.keys in
    let m = c.requires.closing.sources_length in
    let there = c.requires.there in
    let j : ℕ = c.args.i - c.len-fixes.result in
    let jl : j < length o.sources.items = omega (arith, s.elements.ok.0, c.len-fixes.ensures, c.if-i-fixes.false) in
    let src = source-read f act forms s.places.items s.elements.items (map (λ r. r.items) o.cuts.items) o.sources.items c.requires.closing j c.index.result.now jl c.index.ensures in
    let ji : length s.elements.items + j ≡ c.args.i = omega (arith, s.elements.ok.0, c.len-fixes.ensures, c.if-i-fixes.false) in
    let sl = src.1.0 in
    let kl = src.1.1 in
    let rows : length images ≡ c.args.i = length-map c.args.images.now (λ r. r.items) ∙ c.requires.before in
    let il : c.index.result.now.0 < length images = omega arith in
    subst (λ (z : ℕ). c.args.p < z) (sym (c.requires.images c.index.result.now.0 il).size) c.requires.generator

pub conjugate_place-fix-requires-clause-there : goal.conjugate_place-fix-requires-clause-there
conjugate_place-fix-requires-clause-there g c =
    let f = g.F.Field.field in
    let v = g.F.Field.value in
    let act = g.G.Acts.action c.args.given.now.acts.now in
    let law = g.met.G.Acts.lawful c.args.given.now.acts.now in
    let o = c.args.tables.now in
    let s = c.args.given.now.singles.now in
    let forms = exact_forms f.laws v o.held.keys in
    let images = map (λ r. r.items) c.args.images.now in
    let n = exact-length f.laws v o.held.keys in
    let m = c.requires.closing.sources_length in
    let there = c.requires.there in
    let j : ℕ = c.args.i - c.len-fixes.result in
    let jl : j < length o.sources.items = omega (arith, s.elements.ok.0, c.len-fixes.ensures, c.if-i-fixes.false) in
    let src = source-read f act forms s.places.items s.elements.items (map (λ r. r.items) o.cuts.items) o.sources.items c.requires.closing j c.index.result.now jl c.index.ensures in
    let ji : length s.elements.items + j ≡ c.args.i = omega (arith, s.elements.ok.0, c.len-fixes.ensures, c.if-i-fixes.false) in
    let sl = src.1.0 in
    let kl = src.1.1 in
    kl

pub cut_at-requires-clause-there : goal.cut_at-requires-clause-there
cut_at-requires-clause-there g c =
    let f = g.F.Field.field in
    let v = g.F.Field.value in
    let act = g.G.Acts.action c.args.given.now.acts.now in
    let law = g.met.G.Acts.lawful c.args.given.now.acts.now in
    let o = c.args.tables.now in
    let s = c.args.given.now.singles.now in
    let forms = exact_forms f.laws v o.held.keys in
    let images = map (λ r. r.items) c.args.images.now in
    let n = exact-length f.laws v o.held.keys in
    let m = c.requires.closing.sources_length in
    let there = c.requires.there in
    let j : ℕ = c.args.i - c.len-fixes.result in
    let jl : j < length o.sources.items = omega (arith, s.elements.ok.0, c.len-fixes.ensures, c.if-i-fixes.false) in
    let src = source-read f act forms s.places.items s.elements.items (map (λ r. r.items) o.cuts.items) o.sources.items c.requires.closing j c.index.result.now jl c.index.ensures in
    let ji : length s.elements.items + j ≡ c.args.i = omega (arith, s.elements.ok.0, c.len-fixes.ensures, c.if-i-fixes.false) in
    let sl = src.1.0 in
    let kl = src.1.1 in
    let rows : length images ≡ c.args.i = length-map c.args.images.now (λ r. r.items) ∙ c.requires.before in
    let il : c.index.result.now.0 < length images = omega arith in
    let at = image-read f act forms images c.requires.images c.index.result.now.0 c.args.p c.place_in-at.result il c.requires.generator c.place_in-at.ensures in
    let l = at.0 in
    omega arith

pub cut_at-requires-clause-fix : goal.cut_at-requires-clause-fix
cut_at-requires-clause-fix g c =
    let f = g.F.Field.field in
    let v = g.F.Field.value in
    let act = g.G.Acts.action c.args.given.now.acts.now in
    let law = g.met.G.Acts.lawful c.args.given.now.acts.now in
    let o = c.args.tables.now in
    let s = c.args.given.now.singles.now in
    let forms = exact_forms f.laws v o.held.keys in
    let images = map (λ r. r.items) c.args.images.now in
    let n = exact-length f.laws v o.held.keys in
    let m = c.requires.closing.sources_length in
    let there = c.requires.there in
    let j : ℕ = c.args.i - c.len-fixes.result in
    let jl : j < length o.sources.items = omega (arith, s.elements.ok.0, c.len-fixes.ensures, c.if-i-fixes.false) in
    let src = source-read f act forms s.places.items s.elements.items (map (λ r. r.items) o.cuts.items) o.sources.items c.requires.closing j c.index.result.now jl c.index.ensures in
    let ji : length s.elements.items + j ≡ c.args.i = omega (arith, s.elements.ok.0, c.len-fixes.ensures, c.if-i-fixes.false) in
    let sl = src.1.0 in
    let kl = src.1.1 in
    let a : ℕ = c.generator-a.result in
    let al : a < act.group.order = subst (λ (z : ℕ). z < act.group.order) (sym c.generator-a.ensures) (law.generator_below c.args.p c.requires.generator) in
    let conj = closing-conjugate f act law forms s.places.items s.elements.items (map (λ r. r.items) o.cuts.items) o.sources.items c.requires.closing a c.index.result.now.1 al kl in
    subst (λ (z : ℕ). z < length s.elements.items) (sym c.conjugate_place-fix.ensures) conj.0

pub returns-clause-image : goal.returns-clause-image
returns-clause-image g c =
    let f = g.F.Field.field in
    let v = g.F.Field.value in
    let act = g.G.Acts.action c.args.given.now.acts.now in
    let law = g.met.G.Acts.lawful c.args.given.now.acts.now in
    let o = c.args.tables.now in
    let s = c.args.given.now.singles.now in
    let forms = exact_forms f.laws v o.held.keys in
    let images = map (λ r. r.items) c.args.images.now in
    let n = exact-length f.laws v o.held.keys in
    let m = c.requires.closing.sources_length in
    let there = c.requires.there in
    let j : ℕ = c.args.i - c.len-fixes.result in
    let jl : j < length o.sources.items = omega (arith, s.elements.ok.0, c.len-fixes.ensures, c.if-i-fixes.false) in
    let src = source-read f act forms s.places.items s.elements.items (map (λ r. r.items) o.cuts.items) o.sources.items c.requires.closing j c.index.result.now jl c.index.ensures in
    let ji : length s.elements.items + j ≡ c.args.i = omega (arith, s.elements.ok.0, c.len-fixes.ensures, c.if-i-fixes.false) in
    let sl = src.1.0 in
    let kl = src.1.1 in
    let rows : length images ≡ c.args.i = length-map c.args.images.now (λ r. r.items) ∙ c.requires.before in
    let il : c.index.result.now.0 < length images = omega arith in
    let a : ℕ = c.generator-a.result in
    let al : a < act.group.order = subst (λ (z : ℕ). z < act.group.order) (sym c.generator-a.ensures) (law.generator_below c.args.p c.requires.generator) in
    let conj = closing-conjugate f act law forms s.places.items s.elements.items (map (λ r. r.items) o.cuts.items) o.sources.items c.requires.closing a c.index.result.now.1 al kl in
    let at = image-read f act forms images c.requires.images c.index.result.now.0 c.args.p c.place_in-at.result il c.requires.generator c.place_in-at.ensures in
    let new = exact_forms f.laws v c.cut_at.new.tables.held.keys in
    let fix_below = subst (λ (z : ℕ). z < length s.elements.items) (sym c.conjugate_place-fix.ensures) conj.0 in
    let gen = (g.G.Acts.action c.args.given.now.acts.now).generator c.args.p in
    let fix_image : IsImageForm f.laws act gen (form_at forms c.index.result.now.1) (form_at forms c.conjugate_place-fix.result) =
    subst (λ (z : ℕ). IsImageForm f.laws act z (form_at forms c.index.result.now.1) (form_at forms c.conjugate_place-fix.result)) c.generator-a.ensures
    (subst (λ (z : ℕ). IsImageForm f.laws act a (form_at forms c.index.result.now.1) (form_at forms z)) (sym c.conjugate_place-fix.ensures) conj.1) in
    subst (λ (z : ℕ). IsImageForm f.laws act gen (form_at new z) (form_at new c.in_ok-place.place)) ji
    (closing-image f act law forms new s.places.items s.elements.items (map (λ r. r.items) o.cuts.items) o.sources.items c.requires.closing c.in_ok-place.ensures.grown gen j
    c.place_in-at.result c.conjugate_place-fix.result c.in_ok-place.place c.index.result.now jl src.0 at.0 fix_below at.1 fix_image c.in_ok-place.ensures.meet)
