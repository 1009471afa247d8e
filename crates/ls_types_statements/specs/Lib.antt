pub mod ScopeViews
