pub mod Fitting
pub mod Finding
pub mod Dividing
pub mod Going
pub mod Taking
pub mod MetLemmas
