pub mod Characters
pub mod Changing
pub mod Filling
pub mod Numbered
pub mod Numbering
pub mod Joined
pub mod Once
pub mod SettingUp
