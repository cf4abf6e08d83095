-- What is proved of one step: that it is safe, and what it adds.
pub mod Dividing
pub mod NumberLaws
pub mod OpenNotes
pub mod PopLaws
pub mod StepSafe
pub mod Unwinding
pub mod OwnTerminator
pub mod LookBy
pub mod StepAdds
