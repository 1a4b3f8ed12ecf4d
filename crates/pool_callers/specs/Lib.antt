pub mod Callers
pub mod GivingMany
pub mod GrantUnits
pub mod NoHeapsTold
pub mod Rules
pub mod WarmTold
