use Rattle.std.proofs.Math.Facts.{Fits-of_lt}
use Rattle.std.proofs.Common.{Fits, w16, Vec, Global, List, ◌≡◌, ◌<◌, ◌≤◌, ◌+◌, ◌*◌, inl, inr, ℕ, suc, sym, ◌∙◌, ap, subst, length, map, get_or, set, length-set, [], arith, lt-ltb, le-ltb}
use Rattle.std.proofs.lemmas.List.{length-map}
use Rattle.lin_alg.specs.EquationLaws.{dec}
use Rattle.lin_alg.specs.RowLaws.{equality-told}
use Rattle.fix_lattice.specs.Cuts.{cut_count, cut_entry, noted, AreShort, IsCutNoted}
use Rattle.fix_lattice.specs.FormLaws.{exact-length}
use Rattle.fix_lattice.specs.Held.{IsNoted}
use Rattle.fix_lattice.specs.Subspaces.{exact_forms}
use Rattle.fix_lattice.proofs.ClosingLemmas.{closing-cut, cut-meet}
use Rattle.fix_lattice.proofs.CostLemmas.{cost-cut, cost-same}
use Rattle.fix_lattice.proofs.CountLemmas.{cuts-now, cuts-next}
use Rattle.fix_lattice.proofs.CutRowLemmas.{noted-set, noted-then, count-set, short-set, placed-some, placed-none}
use Rattle.fix_lattice.proofs.tables.cut_at.Goals as goal

abbrev items : Vec ℕ Global → List ℕ
items r = r.items

fits_entry : (p : ℕ) → p < 16384 → Fits w16 (p + 1)
fits_entry p l = Fits-of_lt (omega arith)

pub returns-in-Some-clause-place : goal.returns-in-Some-clause-place
returns-in-Some-clause-place g c =
    let f = g.F.Field.field in
    let v = g.F.Field.value in
    let o = c.args.tables.now in
    let e = placed-some items c.deref.result.now o.cuts.items c.args.at c.args.k c.place_of.result c.in-Some.place c.deref.ensures.value c.in-Some.is c.place_of.ensures in
    let l = (c.requires.closing.cut c.args.at c.args.k c.in-Some.place e).0 in
    let n = exact-length f.laws v o.held.keys in
    omega arith

pub returns-in-Some-clause-meet : goal.returns-in-Some-clause-meet
returns-in-Some-clause-meet g c =
    let o = c.args.tables.now in
    let e = placed-some items c.deref.result.now o.cuts.items c.args.at c.args.k c.place_of.result c.in-Some.place c.deref.ensures.value c.in-Some.is c.place_of.ensures in
    (c.requires.closing.cut c.args.at c.args.k c.in-Some.place e).1

pub returns-in-Some-clause-few : goal.returns-in-Some-clause-few
returns-in-Some-clause-few g c =
    let f = g.F.Field.field in
    let v = g.F.Field.value in
    let act = g.G.Acts.action c.args.given.now.acts.now in
    let tells = equality-told f v g.F.PartialEq.eq g.F.Ord.cmp g.met.F.Ord.matches_eq g.met.F.Field.value_cmp in
    let o = c.args.tables.now in
    let s = c.args.given.now.singles.now in
    let rows = map items o.cuts.items in
    cuts-now f v g.F.PartialEq.eq tells act act.dim c.args.given.now.limit o.held.keys s.places.items s.elements.items rows o.sources.items c.requires.held c.requires.closing c.requires.within

pub begin-requires-clause-row : goal.begin-requires-clause-row
begin-requires-clause-row g c =
    let there = c.requires.there in
    let within = c.requires.within in
    let small = c.requires.small in
    omega arith

pub begin-requires-clause-short : goal.begin-requires-clause-short
begin-requires-clause-short g c =
    let s = c.args.given.now.singles.now in
    let e : c.len-fixes.result ≡ length s.elements.items = omega (arith, c.len-fixes.ensures, s.elements.ok.0) in
    subst (λ (n : ℕ). AreShort n (map items c.args.tables.now.cuts.items)) (sym e) c.requires.closing.short

pub begin-requires-clause-none : goal.begin-requires-clause-none
begin-requires-clause-none g c =
    placed-none items c.deref.result.now c.args.tables.now.cuts.items c.args.at c.args.k c.place_of.result c.deref.ensures.value c.in_default.is c.place_of.ensures

pub returns-in_err-begin-clause-few : goal.returns-in_err-begin-clause-few
returns-in_err-begin-clause-few g c n few =
    let f = g.F.Field.field in
    let v = g.F.Field.value in
    let act = g.G.Acts.action c.args.given.now.acts.now in
    let tells = equality-told f v g.F.PartialEq.eq g.F.Ord.cmp g.met.F.Ord.matches_eq g.met.F.Field.value_cmp in
    let o = c.args.tables.now in
    let s = c.args.given.now.singles.now in
    let rows = map items o.cuts.items in
    let e = c.in_err-begin.ensures.same in
    subst (λ (z : ℕ). z ≤ n * length s.elements.items) (sym e) (cuts-now f v g.F.PartialEq.eq tells act act.dim c.args.given.now.limit o.held.keys s.places.items s.elements.items rows o.sources.items c.requires.held c.requires.closing c.requires.within n few)

pub returns-in_err-begin-clause-cost : goal.returns-in_err-begin-clause-cost
returns-in_err-begin-clause-cost g c =
    let act = g.G.Acts.action c.args.given.now.acts.now in
    cost-same act.dim (cut_count (map items c.args.tables.now.cuts.items)) (cut_count (map items c.begin.new.cuts.items)) c.args.steps.now c.in_err-begin.ensures.same

pub cut_one-requires-clause-fix : goal.cut_one-requires-clause-fix
cut_one-requires-clause-fix g c =
    let n = exact-length g.F.Field.field.laws g.F.Field.value c.args.tables.now.held.keys in
    let within = c.requires.closing.within in
    let k = c.requires.fix in
    omega arith

pub cut_one-requires-clause-spaces : goal.cut_one-requires-clause-spaces
cut_one-requires-clause-spaces g c i l =
    let n = exact-length g.F.Field.field.laws g.F.Field.value c.args.tables.now.held.keys in
    c.requires.closing.only i (omega arith)

pub cut_one-requires-clause-single : goal.cut_one-requires-clause-single
cut_one-requires-clause-single g c =
    (get_or c.args.given.now.singles.now.elements.items c.args.k 0, c.requires.closing.element c.args.k c.requires.fix)

pub returns-in_err-place-clause-few : goal.returns-in_err-place-clause-few
returns-in_err-place-clause-few g c =
    let f = g.F.Field.field in
    let v = g.F.Field.value in
    let act = g.G.Acts.action c.args.given.now.acts.now in
    let tells = equality-told f v g.F.PartialEq.eq g.F.Ord.cmp g.met.F.Ord.matches_eq g.met.F.Field.value_cmp in
    let o = c.args.tables.now in
    let s = c.args.given.now.singles.now in
    let rows = map items o.cuts.items in
    let begun = map items c.begin.new.cuts.items in
    let n = exact-length f.laws v o.held.keys in
    let fixes : c.len-fixes.result ≡ length s.elements.items = omega (arith, c.len-fixes.ensures, s.elements.ok.0) in
    let begun_short = subst (λ (n : ℕ). AreShort n begun) fixes c.begin.ensures.short in
    let within = c.requires.closing.rows in
    let old_rows : length rows ≡ length o.cuts.items = length-map o.cuts.items items in
    let there = c.requires.there in
    let few_rows : length c.begin.new.cuts.items ≤ length o.held.keys = c.begin.ensures.few (length o.held.keys) (omega arith) there in
    let begun_rows : length begun ≡ length c.begin.new.cuts.items = length-map c.begin.new.cuts.items items in
    let written : length begun ≤ length o.held.keys = omega arith in
    cuts-next f v g.F.PartialEq.eq tells act act.dim c.args.given.now.limit o.held.keys s.places.items s.elements.items rows o.sources.items c.requires.held c.requires.closing c.requires.within begun begun_short written

pub returns-in_err-place-clause-cost : goal.returns-in_err-place-clause-cost
returns-in_err-place-clause-cost g c =
    let act = g.G.Acts.action c.args.given.now.acts.now in
    cost-cut act.dim (cut_count (map items c.args.tables.now.cuts.items)) (cut_count (map items c.begin.new.cuts.items)) c.args.steps.now c.cut_one.new.steps c.in_ok-begin.ensures.count c.cut_one.ensures.cost

pub overflow_cast-place : goal.overflow_cast-place
overflow_cast-place g c =
    let m = exact-length g.F.Field.field.laws g.F.Field.value c.cut_one.new.held.keys in
    let inside = c.in_ok-place.ensures.cut.1.1.1.inside in
    let within = c.in_ok-place.ensures.within in
    let small = c.requires.small in
    fits_entry c.in_ok-place.place (omega arith)

pub returns-in_err-push_if-clause-few : goal.returns-in_err-push_if-clause-few
returns-in_err-push_if-clause-few g c =
    let f = g.F.Field.field in
    let v = g.F.Field.value in
    let act = g.G.Acts.action c.args.given.now.acts.now in
    let tells = equality-told f v g.F.PartialEq.eq g.F.Ord.cmp g.met.F.Ord.matches_eq g.met.F.Field.value_cmp in
    let o = c.args.tables.now in
    let s = c.args.given.now.singles.now in
    let rows = map items o.cuts.items in
    let begun = map items c.begin.new.cuts.items in
    let n = exact-length f.laws v o.held.keys in
    let fixes : c.len-fixes.result ≡ length s.elements.items = omega (arith, c.len-fixes.ensures, s.elements.ok.0) in
    let begun_short = subst (λ (n : ℕ). AreShort n begun) fixes c.begin.ensures.short in
    let within = c.requires.closing.rows in
    let old_rows : length rows ≡ length o.cuts.items = length-map o.cuts.items items in
    let there = c.requires.there in
    let few_rows : length c.begin.new.cuts.items ≤ length o.held.keys = c.begin.ensures.few (length o.held.keys) (omega arith) there in
    let begun_rows : length begun ≡ length c.begin.new.cuts.items = length-map c.begin.new.cuts.items items in
    let there_row : c.args.at < length begun = let t = c.in_ok-begin.ensures.there in omega arith in
    let inside = c.in_ok-begin.ensures.inside in
    let done = map items c.write.new.cuts.items in
    let place : ℕ = c.in_ok-place.place in
    let short = subst (AreShort (length s.elements.items)) (sym c.write.ensures) (short-set begun c.args.at c.args.k (place + 1) there_row inside (length s.elements.items) begun_short) in
    let same_rows : length done ≡ length begun = ap length c.write.ensures ∙ length-set begun c.args.at (set (get_or begun c.args.at []) c.args.k (place + 1)) in
    cuts-next f v g.F.PartialEq.eq tells act act.dim c.args.given.now.limit o.held.keys s.places.items s.elements.items rows o.sources.items c.requires.held c.requires.closing c.requires.within done short (omega arith)

pub returns-in_err-push_if-clause-cost : goal.returns-in_err-push_if-clause-cost
returns-in_err-push_if-clause-cost g c =
    let f = g.F.Field.field in
    let v = g.F.Field.value in
    let act = g.G.Acts.action c.args.given.now.acts.now in
    let o = c.args.tables.now in
    let s = c.args.given.now.singles.now in
    let rows = map items o.cuts.items in
    let begun = map items c.begin.new.cuts.items in
    let n = exact-length f.laws v o.held.keys in
    let fixes : c.len-fixes.result ≡ length s.elements.items = omega (arith, c.len-fixes.ensures, s.elements.ok.0) in
    let within = c.requires.closing.rows in
    let old_rows : length rows ≡ length o.cuts.items = length-map o.cuts.items items in
    let there = c.requires.there in
    let few_rows : length c.begin.new.cuts.items ≤ length o.held.keys = c.begin.ensures.few (length o.held.keys) (omega arith) there in
    let begun_rows : length begun ≡ length c.begin.new.cuts.items = length-map c.begin.new.cuts.items items in
    let there_row : c.args.at < length begun = let t = c.in_ok-begin.ensures.there in omega arith in
    let inside = c.in_ok-begin.ensures.inside in
    let done = map items c.write.new.cuts.items in
    let place : ℕ = c.in_ok-place.place in
    let one : place + 1 ≡ suc place = omega arith in
    let mark : noted (cut_entry begun c.args.at c.args.k) ≡ 1 = ap noted c.in_ok-begin.ensures.noted.own in
    let made_count = count-set begun c.args.at c.args.k (place + 1) there_row inside place one in
    let begun_count = c.in_ok-begin.ensures.count in
    let done_is = ap cut_count c.write.ensures in
    let count : cut_count done ≡ suc (cut_count rows) = omega arith in
    cost-cut act.dim (cut_count rows) (cut_count done) c.args.steps.now c.cut_one.new.steps count c.cut_one.ensures.cost

pub returns-clause-few : goal.returns-clause-few
returns-clause-few g c =
    let f = g.F.Field.field in
    let v = g.F.Field.value in
    let act = g.G.Acts.action c.args.given.now.acts.now in
    let tells = equality-told f v g.F.PartialEq.eq g.F.Ord.cmp g.met.F.Ord.matches_eq g.met.F.Field.value_cmp in
    let o = c.args.tables.now in
    let s = c.args.given.now.singles.now in
    let rows = map items o.cuts.items in
    let begun = map items c.begin.new.cuts.items in
    let n = exact-length f.laws v o.held.keys in
    let fixes : c.len-fixes.result ≡ length s.elements.items = omega (arith, c.len-fixes.ensures, s.elements.ok.0) in
    let begun_short = subst (λ (n : ℕ). AreShort n begun) fixes c.begin.ensures.short in
    let within = c.requires.closing.rows in
    let old_rows : length rows ≡ length o.cuts.items = length-map o.cuts.items items in
    let there = c.requires.there in
    let few_rows : length c.begin.new.cuts.items ≤ length o.held.keys = c.begin.ensures.few (length o.held.keys) (omega arith) there in
    let begun_rows : length begun ≡ length c.begin.new.cuts.items = length-map c.begin.new.cuts.items items in
    let there_row : c.args.at < length begun = let t = c.in_ok-begin.ensures.there in omega arith in
    let inside = c.in_ok-begin.ensures.inside in
    let done = map items c.write.new.cuts.items in
    let place : ℕ = c.in_ok-place.place in
    let short = subst (AreShort (length s.elements.items)) (sym c.write.ensures) (short-set begun c.args.at c.args.k (place + 1) there_row inside (length s.elements.items) begun_short) in
    let same_rows : length done ≡ length begun = ap length c.write.ensures ∙ length-set begun c.args.at (set (get_or begun c.args.at []) c.args.k (place + 1)) in
    cuts-next f v g.F.PartialEq.eq tells act act.dim c.args.given.now.limit o.held.keys s.places.items s.elements.items rows o.sources.items c.requires.held c.requires.closing c.requires.within done short (omega arith)

pub returns-clause-cost : goal.returns-clause-cost
returns-clause-cost g c =
    let f = g.F.Field.field in
    let v = g.F.Field.value in
    let act = g.G.Acts.action c.args.given.now.acts.now in
    let o = c.args.tables.now in
    let s = c.args.given.now.singles.now in
    let rows = map items o.cuts.items in
    let begun = map items c.begin.new.cuts.items in
    let n = exact-length f.laws v o.held.keys in
    let fixes : c.len-fixes.result ≡ length s.elements.items = omega (arith, c.len-fixes.ensures, s.elements.ok.0) in
    let within = c.requires.closing.rows in
    let old_rows : length rows ≡ length o.cuts.items = length-map o.cuts.items items in
    let there = c.requires.there in
    let few_rows : length c.begin.new.cuts.items ≤ length o.held.keys = c.begin.ensures.few (length o.held.keys) (omega arith) there in
    let begun_rows : length begun ≡ length c.begin.new.cuts.items = length-map c.begin.new.cuts.items items in
    let there_row : c.args.at < length begun = let t = c.in_ok-begin.ensures.there in omega arith in
    let inside = c.in_ok-begin.ensures.inside in
    let done = map items c.write.new.cuts.items in
    let place : ℕ = c.in_ok-place.place in
    let one : place + 1 ≡ suc place = omega arith in
    let mark : noted (cut_entry begun c.args.at c.args.k) ≡ 1 = ap noted c.in_ok-begin.ensures.noted.own in
    let made_count = count-set begun c.args.at c.args.k (place + 1) there_row inside place one in
    let begun_count = c.in_ok-begin.ensures.count in
    let done_is = ap cut_count c.write.ensures in
    let count : cut_count done ≡ suc (cut_count rows) = omega arith in
    cost-cut act.dim (cut_count rows) (cut_count done) c.args.steps.now c.cut_one.new.steps count c.cut_one.ensures.cost

pub returns-clause-closing : goal.returns-clause-closing
returns-clause-closing g c =
    let f = g.F.Field.field in
    let v = g.F.Field.value in
    let act = g.G.Acts.action c.args.given.now.acts.now in
    let o = c.args.tables.now in
    let s = c.args.given.now.singles.now in
    let rows = map items o.cuts.items in
    let begun = map items c.begin.new.cuts.items in
    let n = exact-length f.laws v o.held.keys in
    let fixes : c.len-fixes.result ≡ length s.elements.items = omega (arith, c.len-fixes.ensures, s.elements.ok.0) in
    let begun_short = subst (λ (n : ℕ). AreShort n begun) fixes c.begin.ensures.short in
    let within = c.requires.closing.rows in
    let old_rows : length rows ≡ length o.cuts.items = length-map o.cuts.items items in
    let there = c.requires.there in
    let few_rows : length c.begin.new.cuts.items ≤ length o.held.keys = c.begin.ensures.few (length o.held.keys) (omega arith) there in
    let begun_rows : length begun ≡ length c.begin.new.cuts.items = length-map c.begin.new.cuts.items items in
    let there_row : c.args.at < length begun = let t = c.in_ok-begin.ensures.there in omega arith in
    let inside = c.in_ok-begin.ensures.inside in
    let done = map items c.write.new.cuts.items in
    let place : ℕ = c.in_ok-place.place in
    let short = subst (AreShort (length s.elements.items)) (sym c.write.ensures) (short-set begun c.args.at c.args.k (place + 1) there_row inside (length s.elements.items) begun_short) in
    let same_rows : length done ≡ length begun = ap length c.write.ensures ∙ length-set begun c.args.at (set (get_or begun c.args.at []) c.args.k (place + 1)) in
    let old = exact_forms f.laws v o.held.keys in
    let new = exact_forms f.laws v c.cut_one.new.held.keys in
    let made = c.in_ok-place.ensures.cut in
    let m = exact-length f.laws v c.cut_one.new.held.keys in
    let before = c.len-before.ensures.len in
    let after = c.len.ensures.len in
    let longer = made.1.1.1.grown.longer in
    let one_more = made.1.1.1.short in
    let il : c.args.at < length old = omega arith in
    let sources : IsNoted (length old) (length new) (c.args.at, c.args.k) o.sources.items c.push_if.new.items.items = elim (dec c.len-before.result c.len.result) [
      | inl l ↦ inr (omega arith, c.in_ok-push_if.ensures.added (lt-ltb c.len-before.result c.len.result l))
      | inr l ↦ inl (omega arith, c.in_ok-push_if.ensures.same (le-ltb c.len-before.result c.len.result l))
    ] in
    let one : place + 1 ≡ suc place = omega arith in
    let wrote : IsCutNoted begun c.args.at c.args.k (place + 1) done = subst (IsCutNoted begun c.args.at c.args.k (place + 1)) (sym c.write.ensures) (noted-set begun c.args.at c.args.k (place + 1) there_row inside) in
    let note = subst (λ (z : ℕ). IsCutNoted rows c.args.at c.args.k z done) one (noted-then rows begun done c.args.at c.args.k 65535 (place + 1) c.in_ok-begin.ensures.noted wrote) in
    let few_done : length done ≤ length new = omega arith in
    closing-cut f act old new s.places.items s.elements.items rows done o.sources.items c.push_if.new.items.items c.args.at c.args.k place
    c.requires.closing il c.requires.fix note few_done short made sources

pub returns-clause-place : goal.returns-clause-place
returns-clause-place g c =
    let made = c.in_ok-place.ensures.cut in
    let m = exact-length g.F.Field.field.laws g.F.Field.value c.cut_one.new.held.keys in
    let inside = made.1.1.1.inside in
    omega arith

pub returns-clause-meet : goal.returns-clause-meet
returns-clause-meet g c =
    let f = g.F.Field.field in
    let v = g.F.Field.value in
    let act = g.G.Acts.action c.args.given.now.acts.now in
    let o = c.args.tables.now in
    let old = exact_forms f.laws v o.held.keys in
    let new = exact_forms f.laws v c.cut_one.new.held.keys in
    let made = c.in_ok-place.ensures.cut in
    let n = exact-length f.laws v o.held.keys in
    let within = c.requires.closing.within in
    let there = c.requires.there in
    let fix = c.requires.fix in
    let il : c.args.at < length old = omega arith in
    let kl : c.args.k < length old = omega arith in
    cut-meet f act old new c.args.at c.args.k c.in_ok-place.place il kl made
