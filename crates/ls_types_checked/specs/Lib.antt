pub mod CheckedFile
pub mod Kept
pub mod Sources
pub mod ProgramViews
pub mod ProgramRefusals
