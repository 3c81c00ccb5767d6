pub mod Views
pub mod Results
