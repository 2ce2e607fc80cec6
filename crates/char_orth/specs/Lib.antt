-- The modules, each behind those that it stands on.

-- where the numbers that tell it are wide
pub mod Wide
