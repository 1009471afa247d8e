pub mod ClassText
pub mod Laws
pub mod Images
pub mod Example
