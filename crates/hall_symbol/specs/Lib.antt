-- The modules, each behind those that it stands on.

-- the words of a text
pub mod Words
-- the sixteen rotations of the Hall symbols
pub mod Rotations
-- the axes of the sixteen rotations, and their powers
pub mod Axes
-- the operations of the generators, seen from a shifted origin
pub mod Operations
-- laws of the table of the sixteen rotations
pub mod RotationLaws
-- steps that may fail, one after the other
pub mod Steps
-- the parts of a Hall symbol as they are written
pub mod Spelling
-- which rotation and translation a part names behind the parts before it
pub mod Generators
-- laws of the rotations that parts name
pub mod GeneratorLaws
-- Hall symbols, after S. R. Hall, Acta Cryst
pub mod Grammar
-- what the reader of words computes
pub mod WordReading
-- what the readers of a part compute
pub mod PartReading
-- what the readers of an origin shift compute
pub mod ShiftReading
-- what the readers of a symbol compute
pub mod SymbolReading
