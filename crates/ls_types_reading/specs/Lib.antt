pub mod ByName
pub mod MethodsByName
pub mod ReadingViews
