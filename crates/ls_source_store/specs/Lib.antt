pub mod SeenThing
pub mod SeenStore
