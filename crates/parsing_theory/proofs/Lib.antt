-- What is proved of a grammar's machine, by topic: its rows, parsing, few readings.
pub mod Table
pub mod BuiltTable
pub mod TableRows
pub mod ParseRuns
pub mod RunParses
pub mod Parsed
pub mod Leads
pub mod Entered
pub mod FewReadings
pub mod BuiltParses
