pub mod ReadingStatements
