use Rattle.std.proofs.Common.{◌≡◌, ◌∙◌, ap, map, arith}
use Rattle.std.specs.List.{range_with_len}
use Rattle.cyclo24.specs.ExactK24.{k24_laws}
use Rattle.cyclo24.specs.K24.{exact24}
use Rattle.lin_alg.specs.Matrix.{entry}
use Rattle.mode_report.proofs.NamedRowLemmas.{copied-row, copied-length, copied-more}
use Rattle.mode_report.proofs.along_pieces.row_of.Goals as goal

pub loop-j-preserved : goal.loop-j-preserved
loop-j-preserved c = record {
  end = c.loop-j.invariant.end;
  entries = copied-more c.args.matrix.now c.args.i c.loop-j.j c.loop-j.row.items c.add.new.items.items c.get.result c.loop-j.invariant.entries c.in_ok-add.ensures c.get.ensures;
}

pub returns-clause-width : goal.returns-clause-width
returns-clause-width c =
    let whole : c.loop-j.j ≡ c.args.matrix.now.cols = omega (arith, c.loop-j.invariant.end) in
    copied-length c.args.matrix.now c.args.i c.loop-j.row.items (c.loop-j.invariant.entries ∙ ap (λ n. map (entry k24_laws exact24 c.args.matrix.now c.args.i) (range_with_len 0 n)) whole)

pub returns-clause-entries : goal.returns-clause-entries
returns-clause-entries c =
    let whole : c.loop-j.j ≡ c.args.matrix.now.cols = omega (arith, c.loop-j.invariant.end) in
    copied-row c.args.matrix.now c.args.i c.loop-j.row.items (c.loop-j.invariant.entries ∙ ap (λ n. map (entry k24_laws exact24 c.args.matrix.now c.args.i) (range_with_len 0 n)) whole)
