pub mod ReadingExpressions
