pub mod Counted
pub mod Numbers
pub mod Blocks
pub mod Numbered
