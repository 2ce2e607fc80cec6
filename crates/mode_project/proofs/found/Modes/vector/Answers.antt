use Rattle.std.proofs.Common.{◌≡◌, ◌<◌, ◌+◌, ◌-◌, arith, length}
use Rattle.cyclo24.specs.ExactK24.{k24}
use Rattle.cyclo24.specs.K24.{exact24}
use Rattle.mode_project.proofs.FoundLemmas.{found-row, found-site, found-other}
use Rattle.mode_project.proofs.found.Modes.vector.Goals as goal

pub returns-then-m-irrep_modes : goal.returns-then-m-irrep_modes
returns-then-m-irrep_modes c =
    let v = c.args.self.now in
    let l : c.args.m < length v.rows = omega arith in
    let lc : c.args.column < length c.row.result.now = omega (arith, c.row.ensures.long, c.requires.column) in
    found-row k24 exact24 v.rows v.sites c.args.m c.args.column c.row.result.now c.index-row-column.result l c.row.ensures.row lc c.index-row-column.is

pub returns-then-column-site : goal.returns-then-column-site
returns-then-column-site c =
    let v = c.args.self.now in
    let k = c.args.m - c.irrep_modes-2.result in
    let e : length v.rows + k ≡ c.args.m = omega arith in
    let l : k < length v.sites = omega (arith, c.requires.mode) in
    found-site k24 exact24 v.rows v.sites c.args.m c.args.column k c.site.result e l c.site.ensures.column c.one.result c.one.ensures c.if-column-site.true

pub returns : goal.returns
returns c =
    let v = c.args.self.now in
    let k = c.args.m - c.irrep_modes-2.result in
    let e : length v.rows + k ≡ c.args.m = omega arith in
    let l : k < length v.sites = omega (arith, c.requires.mode) in
    found-other k24 exact24 v.rows v.sites c.args.m c.args.column k c.site.result e l c.site.ensures.column c.zero.result c.zero.ensures c.if-column-site.false
