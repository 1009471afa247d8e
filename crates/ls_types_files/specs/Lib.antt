pub mod Left
pub mod FileViews
pub mod SignViews
