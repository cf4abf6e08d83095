-- What a reader must believe of bundles: the format and its refusal, the report with its lines and totals, what the call answers and leaves, and the lines as judged one by one.
pub mod Format
pub mod Conditions
pub mod Report
pub mod Answers
pub mod Calls
pub mod Alone
pub mod Replies
pub mod Code
