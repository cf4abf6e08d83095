-- What is promised, and nothing else: the claims of the three demands, of what users get and of each request, and those that join the calls of the library, in the scope's order. An auditor reads these first; what they speak of is defined in the specs/ of the crates that they name.
pub mod FirstDemand
pub mod SecondDemand
pub mod ThirdDemand
pub mod Users
pub mod Typed
pub mod Bundles
pub mod Recursion
pub mod Halting
pub mod Matching
pub mod Calls
pub mod Promises
