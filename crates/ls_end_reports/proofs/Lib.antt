pub mod Playing
pub mod Oks
pub mod Pushed
