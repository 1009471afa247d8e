pub mod Instructions
pub mod Runs
pub mod VectorsWords
pub mod VectorsRuns
pub mod VectorsFed
