pub mod Carrying
pub mod Guarded
pub mod Commanded
pub mod Behind
pub mod Made
