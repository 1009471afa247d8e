pub mod EachTold
