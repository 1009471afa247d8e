pub mod Lists
pub mod Items
pub mod Apart
pub mod RenumberedThings
pub mod Works
