pub mod Numbers
pub mod Lists
pub mod Runs
pub mod Takes
pub mod Laws
pub mod Again
pub mod Walking
pub mod Table
