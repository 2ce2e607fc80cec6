pub mod Bounds
pub mod Remainders
pub mod Columns
pub mod Appends
pub mod Lowest
pub mod Stars
