-- The modules, each behind those that it stands on.

-- lines that name atoms of a supercell, and the amounts of the atoms
pub mod Amounts
-- what the parts of the code that gathers amounts give
pub mod GatherParts
-- no two atoms with one label are in one place
pub mod NamedAtomLaws
-- the amounts that lines give are one, or there is one line that is refused
pub mod AmountLaws
-- what an atom may have besides a displacement
pub mod ExtraSpace
-- it is moved by a group
pub mod ExtraSpaceLaws
-- amplitudes of extra modes
pub mod ExtraAmplitudes
