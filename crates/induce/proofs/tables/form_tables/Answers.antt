use Rattle.lin_alg.specs.declared.errors.LinError.TheVariants as lin_error
use Rattle.induce.proofs.ErrLemmas.{err_again}
use Rattle.induce.proofs.tables.form_tables.Goals as goal

pub arm_numbers-requires : goal.arm_numbers-requires
arm_numbers-requires c = c.requires.inducible.on.star

pub returns-in-Err-products-clause-wide : goal.returns-in-Err-products-clause-wide
returns-in-Err-products-clause-wide c e = c.in-Err-products.ensures.wide (err_again c.in-Err-products.error lin_error.Wide e)

pub returns-clause-tables : goal.returns-clause-tables
returns-clause-tables c = record { inducible = c.requires.inducible; moves = c.in-Ok-moves.ensures; phases = c.in-Ok-phases.ensures; products = c.in-Ok-products.ensures.products }
