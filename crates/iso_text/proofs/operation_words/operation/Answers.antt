use Rattle.iso_text.specs.Operations.{operation_of}
use Rattle.iso_text.specs.OperationSpellings.{SpellsOperation}
use Rattle.iso_text.proofs.FractionSpellings.{two_way}
use Rattle.iso_text.proofs.RowSpellings.{operation-sound, operation-complete}
use Rattle.iso_text.proofs.operation_words.operation.Goals as goal

pub returns-clause-spelled : goal.returns-clause-spelled
returns-clause-spelled c = two_way c.parse_operation.result (operation_of c.args.text.now) (λ op. SpellsOperation c.args.text.now op) c.parse_operation.ensures (λ op read. operation-sound c.args.text.now op read) (λ op spelled. operation-complete c.args.text.now op spelled)
