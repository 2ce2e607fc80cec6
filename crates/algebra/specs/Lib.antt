-- The modules, each behind those that it stands on.

-- commutative rings
pub mod Ring
-- the ring of the whole numbers
pub mod Whole
-- the ring laws of the whole numbers
pub mod WholeLaws
-- expressions over numbered variables, and their normal forms
pub mod Solve
-- equations that hold in all commutative rings, proved by normal forms
pub mod SolveLaws
-- whole multiples, and remainders from 0 on
pub mod Multiples
-- laws of whole multiples and of remainders, for every modulus
pub mod MultipleLaws
-- common divisors, and factors that cancel
pub mod DivisorLaws
-- small laws of lists
pub mod ListLaws
-- rising lists of all numbers with a property
pub mod RisingLists
-- laws of rising lists of numbers
pub mod RisingListLaws
-- different numbers below a bound are at most as many as the bound
pub mod PigeonholeLaws
-- finite groups whose elements are the numbers below an order, with 0 for the identity
pub mod NumberedGroup
-- laws of numbered groups
pub mod NumberedGroupLaws
-- subgroups of numbered groups
pub mod Subgroup
-- words over the generators of a numbered group
pub mod GeneratedLaws
-- finite sums in a commutative monoid
pub mod Sums
-- what finite sums in a commutative monoid obey
pub mod SumLaws
-- signed numbers that were passed by value, read back
pub mod PassedLaws
