-- The modules, each behind those that it stands on.

-- counters of 64 bits that stay at their last value
pub mod Counts
-- how a text is cut into parts
pub mod Cuts
-- whole numbers and denominators as words write them
pub mod Digits
-- the fractions, coordinates and tolerances that words write
pub mod Fractions
-- what `common_divisor` is
pub mod DivisorLaws
-- what a file says, as contracts see a `Document`
pub mod FileValue
-- the lines of a file in their order
pub mod FileLines
-- the lines of a file's bytes
pub mod Lines
-- the operations that XYZ words write
pub mod Operations
-- the grammar of the words, by how each is put together
pub mod Spellings
-- the numbers that words write
pub mod Numbers
-- the grammar of numbers, by how each is put together
pub mod SumSpellings
-- the grammar of operations, by how each is put together
pub mod OperationSpellings
-- the words that name an irrep or label an atom
pub mod Name
-- the words of a line, by how they are put together
pub mod WordSpellings
-- what the words of each kind of line spell
pub mod SectionSpellings
-- what a line of a file says, by how it is put together
pub mod LineSpellings
-- which lists of lines are a file, what the file says, and which line is the first that can't go on as one
pub mod File
-- what a line of the head, the parent or a block of an irrep makes of what was read so far
pub mod DraftLines
-- the words of a line, and what they stand for
pub mod LineWords
-- what a reader of lines answers
pub mod LineKinds
-- where a reader of lines stands
pub mod Draft
-- what the definition of a file settles, for any lines
pub mod FileLaws
-- what `lowest` is
pub mod FractionLaws
-- that a fraction in lowest terms is the only one of its value
pub mod LowestLaws
-- the bytes that a mark picks
pub mod Mark
-- streams in memory, as contracts see them
pub mod Memory
-- what contracts see of a name's fields
pub mod NameView
-- what contracts see of a name's fields
pub mod NameViewLaws
-- the ranges of what words say
pub mod WordRanges
-- the ranges of what a file says
pub mod Ranges
-- what holds of three values, and of the numbers of wave vectors, by their places
pub mod RangeLaws
-- what a read takes of a source, and what a write adds to a sink
pub mod Streams
