pub mod CallPlans
pub mod DenseCalls
pub mod FailingCalls
pub mod FailingMakers
pub mod FaultLists
mod Imports
pub mod ListedCalls
pub mod PageChanges
pub mod PageNumbers
pub mod PageRuns
pub mod Prefixes
pub mod Puts
pub mod Shapes
pub mod Small
pub mod SortedFaults
pub mod ZeroingCalls
