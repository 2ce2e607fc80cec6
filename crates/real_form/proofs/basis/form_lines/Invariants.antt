use Rattle.std.proofs.Common.{◌≡◌, take}
use Rattle.real_form.specs.Vectors.{lines_of}
use Rattle.real_form.proofs.basis.form_lines.Given as goal

abbrev pub invariant-loop-i : goal.invariant-loop-i
invariant-loop-i l = lines_of l.lines.items ≡ take l.i l.form.rows
