-- Claims that are near to a promise and wrong: a file for each of the promises' own.
pub mod FirstDemand
pub mod SecondDemand
pub mod ThirdDemand
pub mod Users
pub mod Typed
pub mod Bundles
pub mod Recursion
pub mod Halting
pub mod Matching
pub mod Calls
pub mod Refuted
