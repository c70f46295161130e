pub mod Divisors
pub mod Sums
pub mod Below
pub mod Greatest
pub mod Laws
