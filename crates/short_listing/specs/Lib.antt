-- The modules, each behind those that it stands on.

-- what a short type gives for K24
pub mod Carried
-- what holds in a short type holds over K24
pub mod CarriedLaws
