pub mod ConfigRules
pub mod Multiples
