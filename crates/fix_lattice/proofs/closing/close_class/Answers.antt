use Rattle.fix_lattice.specs.Cuts.{cut_count}
use Rattle.std.proofs.Common.{◌≡◌, ◌<◌, ◌≤◌, ◌*◌, length, map, arith, ℕ, List, Vec, Global, sym, subst}
use Rattle.std.proofs.lemmas.List.{length-map}
use Rattle.fix_lattice.specs.Classes.{AreImages}
use Rattle.fix_lattice.proofs.ImageRowLemmas.{images-grown}
use Rattle.fix_lattice.proofs.ClosingLemmas.{covered-grown, reached-own, grown-each}
use Rattle.fix_lattice.proofs.HeldLemmas.{grown-then}
use Rattle.fix_lattice.specs.Subspaces.{exact_forms}
use Rattle.fix_lattice.proofs.CostLemmas.{cost-then}
use Rattle.fix_lattice.proofs.closing.close_class.Goals as goal
use Rattle.fix_lattice.specs.FormLaws.{exact-length}

pub close_images-requires-clause-images : goal.close_images-requires-clause-images
close_images-requires-clause-images g c =
    let f = g.F.Field.field in
    let v = g.F.Field.value in
    let act = g.G.Acts.action c.args.given.now.acts.now in
    let old = exact_forms f.laws v c.args.tables.now.held.keys in
    let mid = exact_forms f.laws v c.cut_each.new.tables.held.keys in
    let n = exact-length f.laws v c.args.tables.now.held.keys in
    let m = exact-length f.laws v c.cut_each.new.tables.held.keys in
    let images = map (λ r. r.items) c.args.images.now.items in
    let rows : length images ≡ length c.args.images.now.items = length-map c.args.images.now.items (λ r. r.items) in
    let all = c.requires.all in
    let there = c.requires.there in
    let grown = c.in_ok-cut_each.ensures.grown in
    let longer = grown.longer in
    let short : length images ≤ length old = omega arith in
    images-grown f act old mid images grown short c.requires.images

pub close_images-requires-clause-short : goal.close_images-requires-clause-short
close_images-requires-clause-short g c =
    let f = g.F.Field.field in
    let v = g.F.Field.value in
    let mid = exact_forms f.laws v c.cut_each.new.tables.held.keys in
    let n = exact-length f.laws v c.args.tables.now.held.keys in
    let m = exact-length f.laws v c.cut_each.new.tables.held.keys in
    let images = map (λ r. r.items) c.args.images.now.items in
    let rows : length images ≡ length c.args.images.now.items = length-map c.args.images.now.items (λ r. r.items) in
    let all = c.requires.all in
    let there = c.requires.there in
    let grown = c.in_ok-cut_each.ensures.grown in
    let longer = grown.longer in
    omega arith

pub cover-requires-clause-covered : goal.cover-requires-clause-covered
cover-requires-clause-covered g c =
    let f = g.F.Field.field in
    let v = g.F.Field.value in
    let act = g.G.Acts.action c.args.given.now.acts.now in
    let old = exact_forms f.laws v c.args.tables.now.held.keys in
    let mid = exact_forms f.laws v c.cut_each.new.tables.held.keys in
    let n = exact-length f.laws v c.args.tables.now.held.keys in
    let m = exact-length f.laws v c.cut_each.new.tables.held.keys in
    let images = map (λ r. r.items) c.args.images.now.items in
    let rows : length images ≡ length c.args.images.now.items = length-map c.args.images.now.items (λ r. r.items) in
    let all = c.requires.all in
    let there = c.requires.there in
    let grown = c.in_ok-cut_each.ensures.grown in
    let longer = grown.longer in
    let new = exact_forms f.laws v c.close_images.new.tables.held.keys in
    let k = exact-length f.laws v c.close_images.new.tables.held.keys in
    let grown-2 = c.in_ok-close_images.ensures.grown in
    let longer-2 = grown-2.longer in
    let law = g.met.G.Acts.lawful c.args.given.now.acts.now in
    let at_mid : c.args.at < length mid = omega arith in
    let at_new : c.args.at < length new = omega arith in
    covered-grown f act old new c.args.covered.now (grown-then f act old mid new grown grown-2) c.requires.covered

pub cover-requires-clause-marks : goal.cover-requires-clause-marks
cover-requires-clause-marks g c =
    let f = g.F.Field.field in
    let v = g.F.Field.value in
    let mid = exact_forms f.laws v c.cut_each.new.tables.held.keys in
    let n = exact-length f.laws v c.args.tables.now.held.keys in
    let m = exact-length f.laws v c.cut_each.new.tables.held.keys in
    let images = map (λ r. r.items) c.args.images.now.items in
    let rows : length images ≡ length c.args.images.now.items = length-map c.args.images.now.items (λ r. r.items) in
    let all = c.requires.all in
    let there = c.requires.there in
    let grown = c.in_ok-cut_each.ensures.grown in
    let longer = grown.longer in
    let new = exact_forms f.laws v c.close_images.new.tables.held.keys in
    let k = exact-length f.laws v c.close_images.new.tables.held.keys in
    let grown-2 = c.in_ok-close_images.ensures.grown in
    let longer-2 = grown-2.longer in
    let law = g.met.G.Acts.lawful c.args.given.now.acts.now in
    let at_mid : c.args.at < length mid = omega arith in
    let at_new : c.args.at < length new = omega arith in
    let within = c.in_ok-close_images.ensures.within in
    let marks = c.requires.marks in
    omega arith

pub cover-requires-clause-there : goal.cover-requires-clause-there
cover-requires-clause-there g c =
    let f = g.F.Field.field in
    let v = g.F.Field.value in
    let mid = exact_forms f.laws v c.cut_each.new.tables.held.keys in
    let n = exact-length f.laws v c.args.tables.now.held.keys in
    let m = exact-length f.laws v c.cut_each.new.tables.held.keys in
    let images = map (λ r. r.items) c.args.images.now.items in
    let rows : length images ≡ length c.args.images.now.items = length-map c.args.images.now.items (λ r. r.items) in
    let all = c.requires.all in
    let there = c.requires.there in
    let grown = c.in_ok-cut_each.ensures.grown in
    let longer = grown.longer in
    let new = exact_forms f.laws v c.close_images.new.tables.held.keys in
    let k = exact-length f.laws v c.close_images.new.tables.held.keys in
    let grown-2 = c.in_ok-close_images.ensures.grown in
    let longer-2 = grown-2.longer in
    let law = g.met.G.Acts.lawful c.args.given.now.acts.now in
    let at_mid : c.args.at < length mid = omega arith in
    let at_new : c.args.at < length new = omega arith in
    omega arith

pub cover-requires-clause-reached : goal.cover-requires-clause-reached
cover-requires-clause-reached g c =
    let f = g.F.Field.field in
    let v = g.F.Field.value in
    let act = g.G.Acts.action c.args.given.now.acts.now in
    let mid = exact_forms f.laws v c.cut_each.new.tables.held.keys in
    let n = exact-length f.laws v c.args.tables.now.held.keys in
    let m = exact-length f.laws v c.cut_each.new.tables.held.keys in
    let images = map (λ r. r.items) c.args.images.now.items in
    let rows : length images ≡ length c.args.images.now.items = length-map c.args.images.now.items (λ r. r.items) in
    let all = c.requires.all in
    let there = c.requires.there in
    let grown = c.in_ok-cut_each.ensures.grown in
    let longer = grown.longer in
    let new = exact_forms f.laws v c.close_images.new.tables.held.keys in
    let k = exact-length f.laws v c.close_images.new.tables.held.keys in
    let grown-2 = c.in_ok-close_images.ensures.grown in
    let longer-2 = grown-2.longer in
    let law = g.met.G.Acts.lawful c.args.given.now.acts.now in
    let at_mid : c.args.at < length mid = omega arith in
    let at_new : c.args.at < length new = omega arith in
    let own = reached-own f act law new c.args.at at_new (grown-each f act mid new grown-2 c.args.at at_mid c.in_ok-cut_each.ensures.cut) in
    own

pub returns-in_err-close_images-clause-cost : goal.returns-in_err-close_images-clause-cost
returns-in_err-close_images-clause-cost g c =
    let act = g.G.Acts.action c.args.given.now.acts.now in
    cost-then (act.dim * cut_count (map (λ r. r.items) c.args.tables.now.cuts.items)) (act.dim * cut_count (map (λ r. r.items) c.cut_each.new.tables.cuts.items)) (act.dim * cut_count (map (λ r. r.items) c.close_images.new.tables.cuts.items)) c.args.steps.now c.cut_each.new.steps c.close_images.new.steps c.in_ok-cut_each.ensures.cost c.close_images.ensures.cost

pub returns-in_err-cover-clause-cost : goal.returns-in_err-cover-clause-cost
returns-in_err-cover-clause-cost g c =
    let act = g.G.Acts.action c.args.given.now.acts.now in
    cost-then (act.dim * cut_count (map (λ r. r.items) c.args.tables.now.cuts.items)) (act.dim * cut_count (map (λ r. r.items) c.cut_each.new.tables.cuts.items)) (act.dim * cut_count (map (λ r. r.items) c.close_images.new.tables.cuts.items)) c.args.steps.now c.cut_each.new.steps c.close_images.new.steps c.in_ok-cut_each.ensures.cost c.close_images.ensures.cost

pub returns-clause-cost : goal.returns-clause-cost
returns-clause-cost g c =
    let act = g.G.Acts.action c.args.given.now.acts.now in
    cost-then (act.dim * cut_count (map (λ r. r.items) c.args.tables.now.cuts.items)) (act.dim * cut_count (map (λ r. r.items) c.cut_each.new.tables.cuts.items)) (act.dim * cut_count (map (λ r. r.items) c.close_images.new.tables.cuts.items)) c.args.steps.now c.cut_each.new.steps c.close_images.new.steps c.in_ok-cut_each.ensures.cost c.close_images.ensures.cost

pub returns-clause-grown : goal.returns-clause-grown
returns-clause-grown g c =
    let f = g.F.Field.field in
    let v = g.F.Field.value in
    let act = g.G.Acts.action c.args.given.now.acts.now in
    let old = exact_forms f.laws v c.args.tables.now.held.keys in
    let mid = exact_forms f.laws v c.cut_each.new.tables.held.keys in
    let n = exact-length f.laws v c.args.tables.now.held.keys in
    let m = exact-length f.laws v c.cut_each.new.tables.held.keys in
    let images = map (λ r. r.items) c.args.images.now.items in
    let rows : length images ≡ length c.args.images.now.items = length-map c.args.images.now.items (λ r. r.items) in
    let all = c.requires.all in
    let there = c.requires.there in
    let grown = c.in_ok-cut_each.ensures.grown in
    let longer = grown.longer in
    let new = exact_forms f.laws v c.close_images.new.tables.held.keys in
    let k = exact-length f.laws v c.close_images.new.tables.held.keys in
    let grown-2 = c.in_ok-close_images.ensures.grown in
    let longer-2 = grown-2.longer in
    let law = g.met.G.Acts.lawful c.args.given.now.acts.now in
    let at_mid : c.args.at < length mid = omega arith in
    let at_new : c.args.at < length new = omega arith in
    grown-then f act old mid new grown grown-2

pub returns-clause-reached : goal.returns-clause-reached
returns-clause-reached g c =
    let f = g.F.Field.field in
    let v = g.F.Field.value in
    let act = g.G.Acts.action c.args.given.now.acts.now in
    let mid = exact_forms f.laws v c.cut_each.new.tables.held.keys in
    let n = exact-length f.laws v c.args.tables.now.held.keys in
    let m = exact-length f.laws v c.cut_each.new.tables.held.keys in
    let images = map (λ r. r.items) c.args.images.now.items in
    let rows : length images ≡ length c.args.images.now.items = length-map c.args.images.now.items (λ r. r.items) in
    let all = c.requires.all in
    let there = c.requires.there in
    let grown = c.in_ok-cut_each.ensures.grown in
    let longer = grown.longer in
    let new = exact_forms f.laws v c.close_images.new.tables.held.keys in
    let k = exact-length f.laws v c.close_images.new.tables.held.keys in
    let grown-2 = c.in_ok-close_images.ensures.grown in
    let longer-2 = grown-2.longer in
    let law = g.met.G.Acts.lawful c.args.given.now.acts.now in
    let at_mid : c.args.at < length mid = omega arith in
    let at_new : c.args.at < length new = omega arith in
    let own = reached-own f act law new c.args.at at_new (grown-each f act mid new grown-2 c.args.at at_mid c.in_ok-cut_each.ensures.cut) in
    own

pub cover-requires-clause-images : goal.cover-requires-clause-images
cover-requires-clause-images g c =
    let f = g.F.Field.field in
    let v = g.F.Field.value in
    let act = g.G.Acts.action c.args.given.now.acts.now in
    subst (λ (z : List (Vec ℕ Global)). AreImages f.laws act (exact_forms f.laws v c.close_images.new.tables.held.keys) (map (λ r. r.items) z)) (sym c.deref.ensures.value) c.in_ok-close_images.ensures.images
