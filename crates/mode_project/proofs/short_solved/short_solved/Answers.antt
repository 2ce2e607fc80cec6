use Rattle.std.proofs.Common.{◌<◌, ◌^◌, ℕ, sym, ◌∙◌, ap, subst, map, length}
use Rattle.cyclo24.specs.ExactK24.{k24_laws}
use Rattle.cyclo24.specs.K24.{exact24}
use Rattle.lin_alg.specs.Rows.{vector}
use Rattle.mode_project.specs.Joined.{lines_in, joined_rows_in, AreLong}
use Rattle.mode_project.proofs.ShortLemmas.{values-vector}
use Rattle.mode_project.proofs.ShortSolvedLemmas.{basis-short, amplitudes-long, only-long}
use Rattle.mode_project.proofs.short_solved.short_solved.Goals as goal

pub solved-requires-clause-small : goal.solved-requires-clause-small
solved-requires-clause-small g c =
    let en = ap length c.deref-2.ensures.value ∙ c.in-Some-short_list.ensures.long in
    subst (λ (n : ℕ). n < 2 ^ 16) (sym en) c.requires.small

pub solved-requires-clause-long : goal.solved-requires-clause-long
solved-requires-clause-long g c =
    let en = ap length c.deref-2.ensures.value ∙ c.in-Some-short_list.ensures.long in
    let n = length c.args.target.now in
    let held : AreLong n (lines_in c.deref.result.now) = subst (λ xs. AreLong n (lines_in xs)) (sym c.deref.ensures.value) (c.in-Some.ensures.long n c.requires.long) in
    subst (λ (k : ℕ). AreLong k (lines_in c.deref.result.now)) (sym en) held

pub solved-requires-clause-basis : goal.solved-requires-clause-basis
solved-requires-clause-basis g c =
    let exact = g.S.Short.exact in
    let en = ap length c.deref-2.ensures.value ∙ c.in-Some-short_list.ensures.long in
    let er = ap (λ xs. joined_rows_in k24_laws exact xs) c.deref.ensures.value ∙ c.in-Some.ensures.rows in
    basis-short g.S.Field.field g.S.Field.value exact g.met.S.Short.is_short c.args.sites.now (lines_in c.deref.result.now) (lines_in c.args.rows.now) er (length c.deref-2.result.now) (length c.args.target.now) en c.requires.basis

pub returns-in-Ok-lengthened-clause-amplitudes : goal.returns-in-Ok-lengthened-clause-amplitudes
returns-in-Ok-lengthened-clause-amplitudes g c =
    let exact = g.S.Short.exact in
    let aim = c.deref-2.result.now in
    let target = c.args.target.now in
    let en = ap length c.deref-2.ensures.value ∙ c.in-Some-short_list.ensures.long in
    let er = ap (λ xs. joined_rows_in k24_laws exact xs) c.deref.ensures.value ∙ c.in-Some.ensures.rows in
    let et = ap (vector k24_laws exact) c.deref-2.ensures.value ∙ c.in-Some-short_list.ensures.exact in
    let ea = values-vector exact24 exact c.in-Ok-lengthened.all.items c.in-Ok.factors.items (c.in-Ok-lengthened.ensures ∙ ap (map exact) c.deref-3.ensures.value) in
    amplitudes-long g.S.Field.field g.S.Field.value exact g.met.S.Short.is_short c.args.sites.now (lines_in c.deref.result.now) (lines_in c.args.rows.now) er (length aim) (length target) en
    aim target et c.in-Ok.factors.items c.in-Ok-lengthened.all.items ea c.in-Ok.ensures.amplitudes

pub returns-in-Ok-lengthened-clause-only : goal.returns-in-Ok-lengthened-clause-only
returns-in-Ok-lengthened-clause-only g c =
    let exact = g.S.Short.exact in
    let aim = c.deref-2.result.now in
    let target = c.args.target.now in
    let en = ap length c.deref-2.ensures.value ∙ c.in-Some-short_list.ensures.long in
    let er = ap (λ xs. joined_rows_in k24_laws exact xs) c.deref.ensures.value ∙ c.in-Some.ensures.rows in
    let et = ap (vector k24_laws exact) c.deref-2.ensures.value ∙ c.in-Some-short_list.ensures.exact in
    let ea = values-vector exact24 exact c.in-Ok-lengthened.all.items c.in-Ok.factors.items (c.in-Ok-lengthened.ensures ∙ ap (map exact) c.deref-3.ensures.value) in
    only-long g.S.Field.field g.S.Field.value exact g.met.S.Short.is_short c.args.sites.now (lines_in c.deref.result.now) (lines_in c.args.rows.now) er (length aim) (length target) en
    aim target et c.in-Ok.factors.items c.in-Ok-lengthened.all.items ea c.in-Ok.ensures.only
