pub mod Tests
pub mod Laws
pub mod Lists
pub mod Quorum
pub mod Rising
pub mod Over
