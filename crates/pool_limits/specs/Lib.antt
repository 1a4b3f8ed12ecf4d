pub mod Exchanges
pub mod Growing
pub mod Growth
pub mod LimiterTold
pub mod StoreLimits
pub mod Texts
