-- Laws of the calls on grammars as text, by topic.
pub mod ReadRight
pub mod RuleNamed
pub mod Determined
pub mod RecursionDetermined
pub mod TypedJudged
