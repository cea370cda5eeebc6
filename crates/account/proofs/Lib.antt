pub mod Places
pub mod Many
pub mod Holding
pub mod Ruling
pub mod Lists
pub mod Laws
