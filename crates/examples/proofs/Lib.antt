pub mod Examples
pub mod PastF
