use Rattle.iso_text.proofs.FilesUnique.{file_unique, file_not_bad, cause_unique}
use Rattle.iso_text.proofs.laws.law_of_files.Goals as goal

pub returns : goal.returns
returns c = record { file = file_unique; cause = cause_unique; apart = λ lines f a file cause. file_not_bad lines f cause.0 file cause.2 }
