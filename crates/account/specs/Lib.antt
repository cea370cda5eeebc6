pub mod Rule
pub mod Records
pub mod Open
pub mod Follow
pub mod Laws
