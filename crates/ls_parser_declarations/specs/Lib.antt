pub mod ReadingDeclarations
