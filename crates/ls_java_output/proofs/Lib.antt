mod LineLemmas
mod LineRows
mod Orders
