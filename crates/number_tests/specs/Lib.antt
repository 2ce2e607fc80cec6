pub mod SignAction
pub mod SignActionLaws
