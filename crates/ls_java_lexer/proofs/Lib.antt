pub mod Orders
pub mod PieceLaws
