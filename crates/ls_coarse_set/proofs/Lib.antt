mod Chain
mod Items
pub mod Safe
mod Methods
mod Removing
mod Adding
mod Whole
mod Making
mod Deeds
mod Beginnings
mod Serial
mod RunOfSet
mod Histories
pub mod Coarse
mod Examples
