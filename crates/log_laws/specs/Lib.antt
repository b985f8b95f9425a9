pub mod Laws
pub mod Rises
pub mod State
pub mod Appearing
pub mod Order
pub mod Least
pub mod Told
pub mod Reading
